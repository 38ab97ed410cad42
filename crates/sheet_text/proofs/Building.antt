-- Building turns down no coefficients within the bounds, all choices being 0, and leaves tables that hold the network. Assumes nothing.
use borrow.Author.Tests.{eqb-true}
use mathlib.Core.Path.{◌≡◌, refl, sym, ap, subst, ◌∙◌}
use mathlib.Core.Bool.{Bool, true, false, ◌||◌}
use mathlib.Core.List.{List}
use Prim.Native.Nat.{ℕ, zero, suc, ◌≤◌, ◌<◌}
use native.Mathlib.Nat.{le_of_eq}
use native.Mathlib.Omega.{arith}
use lib.Dec.{T, eqb}
use lib.IntN.{ℤ, pos}
use lib.ListN.{length, get_or, replicate, length-replicate, get_or-replicate}
use Rattle.refusal.specs.Answer.{given, refused, filled}
use Rattle.refusal.proofs.Checks.{given_same, given_refused}
use Rattle.sequence.proofs.UpTo.{get_d_up_to}
use Rattle.word.proofs.Bounds.{coefficient_i32}
use Rattle.coefficient.specs.Parts.{parts_of}
use Rattle.network.specs.declared.Row.{Row}
use Rattle.network.specs.declared.TapRow.{TapRow}
use Rattle.network.specs.Rows.{Network, row_at, tap_row_at, network_of, row_in, tap_row_in, no_row, no_tap, plus, minus, reversed, words_of_rows, words_of_tap_rows, row_table, tap_table}
use Rattle.network.specs.RowRule.{RowRule, is_row_sign}
use Rattle.network.specs.TapRowRule.{TapRowRule, is_empty_lem, is_product_lem, is_tap_sign}
use Rattle.network.specs.Coefficients.{coefficients}
use Rattle.build_steps.specs.TapRows.{built}
use Rattle.build_steps.specs.Answer.{no_such_form, build_answer, row_count_of}
use Rattle.build_steps.proofs.Answers.{exist_forms, not_short, network_given}
use Rattle.build_steps.specs.CanBuild.{CanBuild}
use Rattle.build_steps.proofs.Passes.{built_few, built_passed}
use Rattle.build_steps.proofs.BuiltTables.{network_left, length_rows_left, length_taps_left, length_built_taps}
use Rattle.build_network.proofs.FormNumbers.{choice_zero}
use Rattle.sheet_kinds.specs.Inner.{NetworkIn}
use Rattle.sheet_text.specs.Sheet.{choices}
use Rattle.sheet_text.specs.Inner.{Coefficients}

-- ---- signs are characters
char : (s k : ℕ) (b : Bool) → eqb s k ≡ b → k < 256 → T b → s < 256
char s k true e h t = omega (arith, eqb-true s k e)
char s k false e h t = absurd t

one_of : (a b : Bool) → {s : ℕ} → (T a → s < 256) → (T b → s < 256) → T (a || b) → s < 256
one_of true b f g t = f tt
one_of false b f g t = g t

tap_char : (s : ℕ) → T (is_tap_sign s) → s < 256
tap_char s = one_of (eqb s plus) (eqb s minus) (char s plus (eqb s plus) refl (omega arith)) (char s minus (eqb s minus) refl (omega arith))

row_char : (s : ℕ) → T (is_row_sign s) → s < 256
row_char s = one_of (is_tap_sign s) (eqb s reversed) (tap_char s) (char s reversed (eqb s reversed) refl (omega arith))

row_sign : (rows : List Row) (i : ℕ) → RowRule rows i → (row_in rows i).sign < 256
row_sign rows zero h = omega (arith, h.sign)
row_sign rows (suc i) h = row_char (row_in rows (suc i)).sign h.sign

tap_sign : (rows : List Row) (t : TapRow) → TapRowRule rows t → t.sign < 256
tap_sign rows t (is_empty_lem h) = omega (arith, h.sign)
tap_sign rows t (is_product_lem h) = tap_char t.sign h.sign

-- ---- the tables that are lent
abbrev pub zeros : ℕ → List ℕ
zeros n = replicate n 0

pub room : (n : ℕ) → n ≤ length (zeros n)
room n = le_of_eq (sym (length-replicate {A = ℕ} n 0))

-- ---- all choices 0
choices_long : length choices ≡ 256
unfolding choices
choices_long = length-replicate {A = ℕ} 256 0

choice_at : (i : ℕ) → i < 256 → get_or choices i 0 ≡ 0
unfolding choices
choice_at i h = get_or-replicate {A = ℕ} 256 i 0 0 h

module _ (cs : List ℤ) (h : Coefficients cs) where
  form_at : (i : ℕ) → i < length cs → no_such_form (parts_of (get_or cs i (pos 0))) (get_or choices i 0) ≡ false
  form_at i b =
      ap (no_such_form (parts_of (get_or cs i (pos 0)))) (choice_at i (omega (arith, h.few)))
      ∙ choice_zero (get_or cs i (pos 0)) (coefficient_i32 (get_or cs i (pos 0)) (h.bounds i b))

  enough : length cs ≤ length choices
  enough = omega (arith, choices_long, h.few)

  pub can_build : CanBuild cs choices
  can_build = record { few = h.few; enough = enough; bounds = h.bounds; forms = form_at }

  module _ (rows taps : List ℕ) (r : row_table ≤ length rows) (t : tap_table ≤ length taps) where
    -- nothing is turned down
    pub build_given : build_answer cs choices rows taps ≡ given (built cs choices)
    build_given = network_given cs choices rows taps h.some h.few (not_short cs choices rows taps enough r t) (exist_forms cs choices enough form_at)

    abbrev net : Network
    net = built cs choices

    -- the tables hold the network, ready to be printed
    holds : (n : ℕ) (rows' taps' : List ℕ) → n ≡ length net.rows → network_of rows' n taps' (length cs) ≡ net → length rows' ≡ length rows → length taps' ≡ length taps
        → NetworkIn rows' n taps' (length cs) cs
    holds n rows' taps' e w l m =
        let p = built_passed cs choices can_build in
        let few = built_few cs choices can_build in
        record {
          some = omega (arith, p.rows_from);
          rows_in = record {
            room = omega (arith, r, few);
            signs = λ i b. subst (λ (k : ℕ). k < 256)
                (ap (λ (q : Network). (row_in q.rows i).sign) (sym w) ∙ ap (λ (q : Row). q.sign) (get_d_up_to n (row_at rows') no_row i b))
                (row_sign net.rows i (p.rows i (omega arith)));
            few = omega (arith, few);
          };
          taps_in = record {
            room = omega (arith, t, h.few);
            signs = λ j b. subst (λ (k : ℕ). k < 256)
                (ap (λ (q : Network). (tap_row_in q.taps j).sign) (sym w) ∙ ap (λ (q : TapRow). q.sign) (get_d_up_to (length cs) (tap_row_at taps') no_tap j b))
                (tap_sign net.rows (tap_row_in net.taps j) (p.taps j (omega (arith, length_built_taps cs choices))));
            few = h.few;
          };
          each = refl;
          products = p.result ∙ ap coefficients (sym w);
        }

    pub record Printable (n : ℕ) (rows' taps' : List ℕ) : Type 0 where
      pub network : network_of rows' n taps' (length cs) ≡ net
      pub ready : NetworkIn rows' n taps' (length cs) cs

    pub printable : (n : ℕ) (rows' taps' : List ℕ) → given n ≡ row_count_of (build_answer cs choices rows taps)
        → rows' ≡ filled (build_answer cs choices rows taps) (words_of_rows (built cs choices).rows) rows
        → taps' ≡ filled (build_answer cs choices rows taps) (words_of_tap_rows (built cs choices).taps) taps → Printable n rows' taps'
    unfolding built
    printable n rows' taps' e f g =
        let c = given_same n (length net.rows) (e ∙ ap row_count_of build_given) in
        let w : network_of rows' n taps' (length cs) ≡ net = ap (λ (k : ℕ). network_of rows' k taps' (length cs)) c
        ∙ ap (λ (x : List ℕ). network_of x (length net.rows) taps' (length cs)) f
        ∙ ap (λ (x : List ℕ). network_of (filled (build_answer cs choices rows taps) (words_of_rows net.rows) rows) (length net.rows) x (length cs)) g
        ∙ network_left cs choices rows taps net build_given h.bounds in
        record {
          network = w;
          ready = holds n rows' taps' c w (ap length f ∙ length_rows_left cs choices rows taps net build_given h.bounds) (ap length g ∙ length_taps_left cs choices rows taps net build_given h.bounds);
        }

    pub never_refused : (x y : ℕ) → refused x y ≡ row_count_of (build_answer cs choices rows taps) → ⊥
    never_refused x y e = given_refused (length net.rows) x y (sym (e ∙ ap row_count_of build_given))
