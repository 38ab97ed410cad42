-- Tap rows written one after the other. Assumes nothing.
use mathlib.Core.Path.{◌≡◌, refl, sym, ap, ◌∙◌}
use mathlib.Core.List.{List, [], ◌∷◌, ◌++◌, map, map-append}
use Prim.Native.Nat.{ℕ, ◌+◌, ◌*◌, ◌≤◌, ◌<◌}
use native.Mathlib.Numerals.{add-one}
use native.Mathlib.Omega.{arith}
use lib.IntN.{ℤ, pos}
use lib.ListN.{length, take, drop, get_or}
use lib.Seq.{sets, take-suc, take_all, drop-drop}
use Rattle.sequence.specs.UpTo.{up_to}
use Rattle.network.specs.declared.TapRow.{TapRow}
use Rattle.network.specs.Rows.{tap_words, tap_rows_of, words_of_tap_rows, words_of_tap_row}
use Rattle.network.proofs.Items.{items_written, rest_kept, length_written, table_with}
use Rattle.network.proofs.Tables.{tap_layout}
use Rattle.build_tap_rows.specs.Inner.{over}

module _ (f : ℤ → TapRow) (cs : List ℤ) (old : List ℕ) where
  -- the tap rows of the first j coefficients are written
  pub record Filling (taps : List ℕ) (j : ℕ) : Type 0 where
    pub long : length taps ≡ length old
    pub front : tap_rows_of taps j ≡ map f (take j cs)
    pub rest : drop (tap_words * j) taps ≡ drop (tap_words * j) old

  pub filling_none : Filling old 0
  unfolding up_to
  filling_none = record { long = refl; front = refl; rest = refl }

  module _ (room : tap_words * length cs ≤ length old) where
    pub filling_next : (taps : List ℕ) (j : ℕ) (t : TapRow) → j < length cs → t ≡ f (get_or cs j (pos 0)) → Filling taps j → Filling (sets taps (tap_words * j) (words_of_tap_row t)) (j + 1)
    filling_next taps j t h e w =
        let room_for : tap_words * j + tap_words ≤ length taps = omega (arith, w.long) in
        let q : tap_words * (j + 1) ≡ tap_words * j + tap_words = omega arith in
        let d : drop (tap_words * (j + 1)) taps ≡ drop (tap_words * (j + 1)) old
        = ap (λ (k : ℕ). drop k taps) q ∙ sym (drop-drop tap_words (tap_words * j) taps) ∙ ap (drop tap_words) w.rest ∙ drop-drop tap_words (tap_words * j) old ∙ ap (λ (k : ℕ). drop k old) (sym q) in
        record {
          long = length_written tap_layout taps j t ∙ w.long;
          front = items_written tap_layout taps j t room_for ∙ ap (λ (x : List TapRow). x ++ (t ∷ [])) w.front ∙ ap (λ (x : TapRow). map f (take j cs) ++ (x ∷ [])) e
              ∙ sym (ap (λ (k : ℕ). map f (take k cs)) (add-one j) ∙ ap (map f) (take-suc cs j (pos 0) h) ∙ map-append f (take j cs) (get_or cs j (pos 0) ∷ []));
          rest = rest_kept tap_layout taps j t room_for ∙ d;
        }

    pub filling_all : (taps : List ℕ) (j : ℕ) → j ≤ length cs → length cs ≤ j → Filling taps j → taps ≡ over (words_of_tap_rows (map f cs)) old
    filling_all taps j h l w =
        table_with tap_layout taps old j (map f cs) (omega (arith, w.long)) (w.front ∙ ap (map f) (take_all j cs l)) w.rest
