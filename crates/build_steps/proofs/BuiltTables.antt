-- The tables that building leaves hold the network that it gives, and an entry that is handed them accepts it, with the coefficients that it was
-- built for. Assumes nothing.
use mathlib.Core.Path.{◌≡◌, refl, sym, ap, ap₂, ◌∙◌, subst}
use mathlib.Core.Bool.{false}
use mathlib.Core.List.{List, [], ◌∷◌, ◌++◌}
use Prim.Native.Nat.{ℕ, ◌*◌, ◌≤◌, ◌<◌}
use native.Mathlib.Omega.{arith}
use lib.IntN.{ℤ, pos}
use lib.ListN.{length, get_or, drop, length-append, length-drop, length-map}
use Rattle.word.specs.Bounds.{Coefficient}
use Rattle.refusal.specs.Answer.{Answer, given, refused, filled}
use Rattle.coefficient.specs.Parts.{parts_of}
use Rattle.network.specs.declared.Row.{Row}
use Rattle.network.specs.declared.TapRow.{TapRow}
use Rattle.network.specs.Rows.{Network, tap_words, network_of, words_of_rows, words_of_tap_rows, no_row, no_tap}
use Rattle.network.specs.Check.{network_answer}
use Rattle.network.specs.Accepted.{KeepsRules}
use Rattle.network.proofs.Passed.{accepted_given}
use Rattle.network.proofs.Items.{length_words, items_of_words}
use Rattle.network.proofs.Tables.{row_layout, tap_layout}
use Rattle.build_steps.specs.Steps.{built_rows}
use Rattle.build_steps.specs.TapRows.{tap_row_of, built}
use Rattle.build_steps.specs.Answer.{build_answer, row_count_of}
use Rattle.build_steps.specs.RowSteps.{most_rows}
use Rattle.build_steps.specs.CanBuild.{CanBuild, CanBuildInto}
use Rattle.build_steps.specs.Built.{BuiltInto, HoldsNetwork}
use Rattle.build_steps.specs.Claims.{Untouched}
use Rattle.build_steps.proofs.Passes.{built_few, built_passed}
use Rattle.build_steps.proofs.Answers.{Given, given_tells, given_can_build, network_given, not_short, exist_forms}

-- tables that start with a network's words hold it, whatever follows
pub network_of_words : (net : Network) (more others : List ℕ)
    → network_of (words_of_rows net.rows ++ more) (length net.rows) (words_of_tap_rows net.taps ++ others) (length net.taps) ≡ net
network_of_words net more others = ap₂ together (items_of_words row_layout no_row more net.rows) (items_of_words tap_layout no_tap others net.taps)
  where
    together : List Row → List TapRow → Network
    together rows taps = record { rows = rows; taps = taps }

pub length_built_taps : (cs : List ℤ) (ks : List ℕ) → length (built cs ks).taps ≡ length cs
unfolding built
length_built_taps cs ks = length-map cs (λ (n : ℤ). tap_row_of (built_rows cs ks) (parts_of n))

filled_length : (words old : List ℕ) → length words ≤ length old → length (words ++ drop (length words) old) ≡ length old
filled_length words old l = omega (arith, length-append words (drop (length words) old), length-drop (length words) old)

module _ (cs : List ℤ) (ks rows taps : List ℕ) (net : Network) (e : build_answer cs ks rows taps ≡ given net)
    (bounds : (i : ℕ) → i < length cs → Coefficient (get_or cs i (pos 0))) where
  -- the lent tables afterwards
  abbrev pub rows_left_of : List ℕ
  rows_left_of = filled (build_answer cs ks rows taps) (words_of_rows net.rows) rows

  abbrev pub taps_left_of : List ℕ
  taps_left_of = filled (build_answer cs ks rows taps) (words_of_tap_rows net.taps) taps

  told : Given cs ks rows taps net
  told = given_tells cs ks rows taps net e

  pub can_build : CanBuild cs ks
  can_build = given_can_build cs ks rows taps net told bounds

  rows_few : length net.rows ≤ most_rows
  rows_few = rw told.network (built_few cs ks can_build)

  taps_are : length net.taps ≡ length cs
  taps_are = ap (λ (x : Network). length x.taps) told.network ∙ length_built_taps cs ks

  rows_left : rows_left_of ≡ words_of_rows net.rows ++ drop (length (words_of_rows net.rows)) rows
  rows_left = rw e

  taps_left : taps_left_of ≡ words_of_tap_rows net.taps ++ drop (length (words_of_tap_rows net.taps)) taps
  taps_left = rw e

  pub network_left : network_of rows_left_of (length net.rows) taps_left_of (length cs) ≡ net
  network_left =
      ap (λ (m : ℕ). network_of rows_left_of (length net.rows) taps_left_of m) (sym taps_are)
      ∙ ap (λ (l : List ℕ). network_of l (length net.rows) taps_left_of (length net.taps)) rows_left
      ∙ ap (λ (l : List ℕ). network_of (words_of_rows net.rows ++ drop (length (words_of_rows net.rows)) rows) (length net.rows) l (length net.taps)) taps_left
      ∙ network_of_words net (drop (length (words_of_rows net.rows)) rows) (drop (length (words_of_tap_rows net.taps)) taps)

  pub length_rows_left : length rows_left_of ≡ length rows
  length_rows_left = ap length rows_left ∙ filled_length (words_of_rows net.rows) rows (omega (arith, length_words row_layout net.rows, rows_few, told.rows_long))

  pub length_taps_left : length taps_left_of ≡ length taps
  length_taps_left = ap length taps_left ∙ filled_length (words_of_tap_rows net.taps) taps (omega (arith, length_words tap_layout net.taps, taps_are, told.taps_long, told.taps_to))

  -- an entry whose own tables are long enough accepts it
  pub built_accepted : network_answer false rows_left_of (length net.rows) taps_left_of (length cs) ≡ given cs
  built_accepted =
      accepted_given false rows_left_of (length net.rows) taps_left_of (length cs) cs
      (record {
        taps_from = told.taps_from;
        taps_to = told.taps_to;
        rows_long = omega (arith, length_rows_left, told.rows_long);
        taps_long = omega (arith, length_taps_left, told.taps_long);
        others_long = refl;
        passed = subst (λ (x : Network). KeepsRules x cs) (sym told.network ∙ sym network_left) (built_passed cs ks can_build);
      })

-- past the words that are written a table is as it was
past : (words old new : List ℕ) (n : ℕ) → length words ≡ n → new ≡ words ++ drop (length words) old → drop n new ≡ drop n old
past words old new n s e =
    ap₂ drop (sym s) e ∙ after words (drop (length words) old) ∙ ap (λ (k : ℕ). drop k old) s
  where
    after : (words more : List ℕ) → drop (length words) (words ++ more) ≡ more
    after [] more = refl
    after (w ∷ words) more = after words more

-- ---- what `build` answers and leaves
module _ (cs : List ℤ) (ks rows taps : List ℕ) where
  pub can_give : CanBuildInto cs ks rows taps → build_answer cs ks rows taps ≡ given (built cs ks)
  can_give c =
      let b = c.can_build in
      network_given cs ks rows taps c.some b.few (not_short cs ks rows taps b.enough c.rows_long c.taps_long) (exist_forms cs ks b.enough b.forms)

  pub tables_hold : (a : Answer ℕ) (rows' taps' : List ℕ) → CanBuildInto cs ks rows taps → BuiltInto cs ks rows taps a rows' taps'
      → HoldsNetwork cs ks rows taps a rows' taps'
  tables_hold a rows' taps' c left =
      let e = can_give c in
      record {
        accepts = left.answer ∙ ap row_count_of e;
        holds =
            ap₂ (λ (u v : List ℕ). network_of u (length (built cs ks).rows) v (length cs)) left.rows_left left.taps_left
            ∙ network_left cs ks rows taps (built cs ks) e c.can_build.bounds;
        passes =
            ap₂ (λ (u v : List ℕ). network_answer false u (length (built cs ks).rows) v (length cs)) left.rows_left left.taps_left
            ∙ built_accepted cs ks rows taps (built cs ks) e c.can_build.bounds;
        rows_past =
            past (words_of_rows (built cs ks).rows) rows rows' _ (length_words row_layout (built cs ks).rows)
            (left.rows_left ∙ ap (λ (x : Answer Network). filled x (words_of_rows (built cs ks).rows) rows) e);
        taps_past =
            past (words_of_tap_rows (built cs ks).taps) taps taps' _ (length_words tap_layout (built cs ks).taps ∙ ap (λ (n : ℕ). tap_words * n) (length_built_taps cs ks))
            (left.taps_left ∙ ap (λ (x : Answer Network). filled x (words_of_tap_rows (built cs ks).taps) taps) e);
      }

  pub given_only : (n : ℕ) (rows' taps' : List ℕ) → ((i : ℕ) → i < length cs → Coefficient (get_or cs i (pos 0))) → BuiltInto cs ks rows taps (given n) rows' taps'
      → CanBuildInto cs ks rows taps
  given_only n rows' taps' bounds left = go (build_answer cs ks rows taps) refl left.answer
    where
      go : (b : Answer Network) → build_answer cs ks rows taps ≡ b → given n ≡ row_count_of b → CanBuildInto cs ks rows taps
      go (given net) e q =
          let g = given_tells cs ks rows taps net e in
          record { some = g.taps_from; can_build = given_can_build cs ks rows taps net g bounds; rows_long = g.rows_long; taps_long = g.taps_long }
      go (refused number place) e q = absurd (let z : ◌≡◌ {A = ℕ} 0 1 = cc in omega arith)

  pub tables_untouched : (number place : ℕ) (rows' taps' : List ℕ) → BuiltInto cs ks rows taps (refused number place) rows' taps' → Untouched rows taps rows' taps'
  tables_untouched number place rows' taps' left = record {
    rows_left = left.rows_left ∙ as_it_was (build_answer cs ks rows taps) (words_of_rows (built cs ks).rows) rows left.answer;
    taps_left = left.taps_left ∙ as_it_was (build_answer cs ks rows taps) (words_of_tap_rows (built cs ks).taps) taps left.answer;
  }
    where
      as_it_was : (b : Answer Network) (words old : List ℕ) → refused number place ≡ row_count_of b → filled b words old ≡ old
      as_it_was (given net) words old e = absurd (let z : ◌≡◌ {A = ℕ} 0 1 = cc in omega arith)
      as_it_was (refused n p) words old e = refl
