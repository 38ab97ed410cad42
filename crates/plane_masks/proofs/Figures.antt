-- `plane_figures`: the worked examples of specs/Figures.antt. Assumes nothing.
use mathlib.Core.Path.{◌≡◌, refl, sym, ap, ap₂, ◌∙◌}
use mathlib.Core.Bool.{Bool, true, false, not, ◌&&◌, true≢false}
use mathlib.Core.List.{List, [], ◌∷◌, ◌++◌, map}
use Prim.Native.Nat.{ℕ, zero, suc, ◌+◌, ◌≤◌, ◌<◌, ◌^◌}
use native.Mathlib.Omega.{arith}
use borrow.Author.Tests.{ltb-true}
use lib.Dec.{ltb}
use lib.IntN.{ℤ, pos}
use lib.ListN.{length, get_or, drop, replicate, length-replicate}
use Rattle.refusal.specs.Answer.{Answer, given, refused, filled, lowest_from}
use Rattle.sequence.specs.UpTo.{up_to}
use Rattle.sequence.proofs.Members.{same_at}
use Rattle.signed_digit.specs.String.{DigitString}
use Rattle.signed_digit.specs.Masks.{plus_mask, minus_mask}
use Rattle.signed_digit.specs.Forms.{listing}
use Rattle.signed_digit.specs.Figures.{form}
use Rattle.signed_digit.proofs.Figures.{figures}
use Rattle.plane_masks.specs.Binary.{binary}
use Rattle.plane_masks.specs.Planes.{cell_mask, cell_masks, plane_word, plane_words_of, join_rows}
use Rattle.plane_masks.specs.Grid.{no_form, chosen, chosen_forms, formless_cell, sizes_answer, planes_answer, overlaps, cells_answer}
use Rattle.plane_masks.specs.Written.{PlanesWritten, PlanesRead}
use Rattle.plane_masks.specs.Claims.{AllBelow, CanWrite, HasForm}
use Rattle.plane_masks.specs.Figures.{three_cells, three_plus, three_minus, two_cells, far_cells, PlaneFigures}
use Rattle.plane_masks.proofs.Lists.{lowest_cell as lowest_cell_is}
use Rattle.plane_masks.proofs.Answers.{fits_given, place_in, writes}

three_read : PlanesRead 1 3 three_plus three_minus (7 ∷ 7 ∷ 7 ∷ 7 ∷ []) (7 ∷ 7 ∷ 7 ∷ []) (given tt) ((32 + 8 + 4 + 1) ∷ 0 ∷ 0 ∷ 7 ∷ []) (0 ∷ 0 ∷ 2 ^ 31 ∷ [])
unfolding cells_answer sizes_answer lowest_from up_to overlaps cell_masks cell_mask binary
three_read = record { answer = refl; plus_left = refl; minus_left = refl }

far_read : PlanesRead 16 16 far_cells (replicate 128 0) (replicate 256 7) (replicate 256 7) (given tt)
    (replicate 63 0 ++ (2 ^ 5 ∷ 1 ∷ (replicate 190 0 ++ (2 ^ 31 ∷ [])))) (replicate 256 0)
unfolding cells_answer sizes_answer lowest_from up_to overlaps cell_masks cell_mask binary
far_read = record { answer = refl; plus_left = refl; minus_left = refl }

far_overlap : PlanesRead 16 16 far_cells far_cells (replicate 256 7) (replicate 256 7) (refused 8 63) (replicate 256 7) (replicate 256 7)
unfolding cells_answer sizes_answer lowest_from up_to overlaps
far_overlap = record { answer = refl; plus_left = refl; minus_left = refl }

one_row : join_rows (three_cells ∷ []) ≡ three_cells
unfolding join_rows
one_row = refl

two_rows : join_rows ((pos 1 ∷ pos 2 ∷ []) ∷ (pos 3 ∷ pos 4 ∷ []) ∷ []) ≡ pos 1 ∷ pos 2 ∷ pos 3 ∷ pos 4 ∷ []
unfolding join_rows
two_rows = refl

lowest_cell : PlanesRead 1 2 two_cells two_cells (0 ∷ 0 ∷ []) (0 ∷ 0 ∷ []) (refused 8 0) (0 ∷ 0 ∷ []) (0 ∷ 0 ∷ [])
unfolding cells_answer sizes_answer lowest_from up_to overlaps
lowest_cell = record { answer = refl; plus_left = refl; minus_left = refl }

past_ignored : PlanesRead 1 1 two_cells (2 ∷ replicate 127 0) (0 ∷ []) (0 ∷ []) (given tt) (2 ^ 31 ∷ []) (0 ∷ [])
unfolding cells_answer sizes_answer lowest_from up_to overlaps cell_masks cell_mask binary
past_ignored = record { answer = refl; plus_left = refl; minus_left = refl }

no_rows : PlanesWritten 0 1 [] [] [] [] (refused 14 0) [] []
unfolding planes_answer sizes_answer
no_rows = record { answer = refl; plus_left = refl; minus_left = refl }

too_wide : PlanesRead 1 17 [] [] [] [] (refused 14 0) [] []
unfolding cells_answer sizes_answer
too_wide = record { answer = refl; plus_left = refl; minus_left = refl }

one_short : PlanesWritten 1 1 (pos 0 ∷ []) (0 ∷ []) (replicate 128 0) (replicate 127 0) (refused 3 0) (replicate 128 0) (replicate 127 0)
unfolding planes_answer sizes_answer
one_short = record { answer = refl; plus_left = refl; minus_left = refl }

both : (a b : Bool) → (a && b) ≡ true → (a ≡ true) × (b ≡ true)
both true b e = (refl, e)
both false b e = absurd (true≢false (sym e))

-- ---- the elements of a table, tried one after the other
abbrev all_small : ℕ → List ℕ → Bool
all_small bound [] = true
all_small bound (x ∷ l) = ltb x bound && all_small bound l

small_below : (bound : ℕ) (l : List ℕ) → 0 < bound → all_small bound l ≡ true → AllBelow bound l
small_below bound [] h e k = h
small_below bound (x ∷ l) h e zero = ltb-true x bound (both (ltb x bound) (all_small bound l) e).0
small_below bound (x ∷ l) h e (suc k) = small_below bound l h (both (ltb x bound) (all_small bound l) e).1 k

-- ---- written
abbrev three_choices : List ℕ
three_choices = 4 ∷ 0 ∷ 0 ∷ []

three_forms : (c : ℕ) → c < 3 → HasForm three_cells three_choices c
three_forms zero h = record { below = omega (arith, ap length figures.of_45) }
three_forms (suc zero) h = record { below = omega (arith, ap length figures.of_0) }
three_forms (suc (suc zero)) h = record { below = omega (arith, ap length figures.of_least) }
three_forms (suc (suc (suc c))) h = absurd (omega arith)

three_chosen : chosen_forms 3 three_cells three_choices ≡ form (32 + 8 + 4 + 1) 0 ∷ form 0 0 ∷ form 0 (2 ^ 31) ∷ []
unfolding chosen_forms up_to
three_chosen =
    let a : chosen three_cells three_choices 0 ≡ form (32 + 8 + 4 + 1) 0 = ap (λ (l : List DigitString). get_or l 4 []) figures.of_45 in
    let b : chosen three_cells three_choices 1 ≡ form 0 0 = ap (λ (l : List DigitString). get_or l 0 []) figures.of_0 in
    let c : chosen three_cells three_choices 2 ≡ form 0 (2 ^ 31) = ap (λ (l : List DigitString). get_or l 0 []) figures.of_least in
    ap₂ (λ (x y : DigitString). x ∷ y ∷ chosen three_cells three_choices 2 ∷ []) a b ∙ ap (λ (z : DigitString). form (32 + 8 + 4 + 1) 0 ∷ form 0 0 ∷ z ∷ []) c

plus_words_lem : plane_words_of (map plus_mask (form (32 + 8 + 4 + 1) 0 ∷ form 0 0 ∷ form 0 (2 ^ 31) ∷ [])) ≡ three_plus
unfolding plane_words_of plane_word binary up_to
plus_words_lem = refl

minus_words_lem : plane_words_of (map minus_mask (form (32 + 8 + 4 + 1) 0 ∷ form 0 0 ∷ form 0 (2 ^ 31) ∷ [])) ≡ three_minus
unfolding plane_words_of plane_word binary up_to
minus_words_lem = refl

module _ (plus minus : List ℕ) (h : 128 ≤ length plus) (k : 128 ≤ length minus) where
  three_accepted : planes_answer 1 3 three_cells three_choices (length plus) (length minus) ≡ given tt
  three_accepted = writes 1 3 three_cells three_choices (length plus) (length minus) (record {
    fits = record {
      height_from = omega arith;
      height_to = omega arith;
      width_from = omega arith;
      width_to = omega arith;
      plus_long = h;
      minus_long = k;
      first_long = omega arith;
      second_long = omega arith;
    };
    forms = three_forms;
  })

  -- words that are the planes of the forms
  left : (f : DigitString → ℕ) (words old : List ℕ) → plane_words_of (map f (form (32 + 8 + 4 + 1) 0 ∷ form 0 0 ∷ form 0 (2 ^ 31) ∷ [])) ≡ words → length words ≡ 128
      → words ++ drop 128 old ≡ filled (planes_answer 1 3 three_cells three_choices (length plus) (length minus)) (plane_words_of (map f (chosen_forms 3 three_cells three_choices))) old
  left f words old e l =
      let q : plane_words_of (map f (chosen_forms 3 three_cells three_choices)) ≡ words = ap (λ (s : List DigitString). plane_words_of (map f s)) three_chosen ∙ e in
      ap (λ (n : ℕ). words ++ drop n old) (sym l)
      ∙ sym (ap₂ (λ (a : Answer (Unit {0})) (w : List ℕ). filled a w old) three_accepted q)

  three_written : PlanesWritten 1 3 three_cells three_choices plus minus (given tt) (three_plus ++ drop 128 plus) (three_minus ++ drop 128 minus)
  three_written = record { answer = sym three_accepted; plus_left = left plus_mask three_plus plus plus_words_lem refl; minus_left = left minus_mask three_minus minus minus_words_lem refl }

-- ---- refused, and a whole grid
module _ (plus minus : List ℕ) (h : 128 ≤ length plus) (k : 128 ≤ length minus) where
  sixth_refused : planes_answer 2 1 (pos 0 ∷ pos 45 ∷ []) (0 ∷ 5 ∷ []) (length plus) (length minus) ≡ refused 9 1
  unfolding planes_answer
  sixth_refused =
      place_in (sizes_answer 2 1 (length plus) (length minus) 2 2) (formless_cell 2 (pos 0 ∷ pos 45 ∷ []) (0 ∷ 5 ∷ [])) 9 1
      (fits_given 2 1 (length plus) (length minus) 2 2 (record {
        height_from = omega arith;
        height_to = omega arith;
        width_from = omega arith;
        width_to = omega arith;
        plus_long = h;
        minus_long = k;
        first_long = omega arith;
        second_long = omega arith;
      }))
      (lowest_cell_is (no_form (pos 0 ∷ pos 45 ∷ []) (0 ∷ 5 ∷ [])) 2 1 (omega arith) (ap (λ (l : List DigitString). not (ltb 5 (length l))) figures.of_45) before)
    where
      before : (i : ℕ) → i < 1 → no_form (pos 0 ∷ pos 45 ∷ []) (0 ∷ 5 ∷ []) i ≡ false
      before zero l = ap (λ (l : List DigitString). not (ltb 0 (length l))) figures.of_0
      before (suc i) l = absurd (omega arith)

  no_sixth_form : PlanesWritten 2 1 (pos 0 ∷ pos 45 ∷ []) (0 ∷ 5 ∷ []) plus minus (refused 9 1) plus minus
  no_sixth_form = record {
    answer = sym sixth_refused;
    plus_left = sym (ap (λ (a : Answer (Unit {0})). filled a (plane_words_of (map plus_mask (chosen_forms 2 (pos 0 ∷ pos 45 ∷ []) (0 ∷ 5 ∷ [])))) plus) sixth_refused);
    minus_left = sym (ap (λ (a : Answer (Unit {0})). filled a (plane_words_of (map minus_mask (chosen_forms 2 (pos 0 ∷ pos 45 ∷ []) (0 ∷ 5 ∷ [])))) minus) sixth_refused);
  }

whole_grid : CanWrite 16 16 (replicate 256 (pos 0)) (replicate 256 0) 128 128
whole_grid = record {
  fits = record {
    height_from = omega arith;
    height_to = omega arith;
    width_from = omega arith;
    width_to = omega arith;
    plus_long = omega arith;
    minus_long = omega arith;
    first_long = omega (arith, length-replicate {A = ℤ} 256 (pos 0));
    second_long = omega (arith, length-replicate {A = ℕ} 256 0);
  };
  forms = λ c h. record {
    below = omega (arith, same_at {A = ℕ} 256 c 0, ap (λ (n : ℤ). length (listing 32 n)) (same_at 256 c (pos 0)), ap length figures.of_0);
  };
}

pub plane_figures : PlaneFigures
plane_figures = record {
  three_written = three_written;
  three_read = three_read;
  three_words = (small_below (2 ^ 64) three_plus (omega arith) refl, small_below (2 ^ 64) three_minus (omega arith) refl);
  far_read = far_read;
  far_overlap = far_overlap;
  one_row = one_row;
  two_rows = two_rows;
  whole_grid = whole_grid;
  lowest_cell = lowest_cell;
  past_ignored = past_ignored;
  no_sixth_form = no_sixth_form;
  no_rows = no_rows;
  too_wide = too_wide;
  one_short = one_short;
}
