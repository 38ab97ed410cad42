-- What both entries answer and leave, by what their checks said. Assumes nothing.
use Rattle.std.proofs.Common.{length-take}
use mathlib.Core.Path.{◌≡◌, refl, sym, ap, ap₂, ◌∙◌}
use mathlib.Core.List.{List, ◌++◌, map}
use Prim.Native.Nat.{ℕ, ◌*◌, ◌≤◌, ◌<◌}
use native.Mathlib.Omega.{arith}
use lib.IntN.{ℤ}
use lib.ListN.{length, take, drop}
use Rattle.refusal.specs.Answer.{Answer, given, refused, Place, nowhere, at_place, filled}
use Rattle.sequence.proofs.UpTo.{length_up_to}
use Rattle.signed_digit.specs.Masks.{plus_mask, minus_mask}
use Rattle.signed_digit.specs.String.{DigitString}
use Rattle.plane_masks.specs.Planes.{cell_mask, cell_masks, plane_words_of}
use Rattle.plane_masks.specs.Claims.{Fits, HasForm}
use Rattle.plane_masks.specs.Grid.{sizes_answer, no_form, chosen_forms, formless_cell, planes_answer, overlaps, overlap_cell, cells_answer}
use Rattle.plane_masks.specs.Written.{grid_words, PlanesWritten, PlanesRead}
use Rattle.plane_masks.proofs.Lists.{cell_of_lem, none_of}
use Rattle.plane_masks.proofs.Planes.{words_length}
use Rattle.plane_masks.proofs.Answers.{few_cells, fits_given, has_form, pass, stopped, place_in}
use Rattle.plane_grid.proofs.Cells.{formless_taken, chosen_taken}

-- ---- writing
module _ (height width : ℕ) (coefficients : List ℤ) (choices plus minus : List ℕ) where
  abbrev sizes : Answer (Unit {0})
  sizes = sizes_answer height width (length plus) (length minus) (length coefficients) (length choices)

  abbrev missing : Place
  missing = formless_cell (height * width) coefficients choices

  abbrev plus_words : List ℕ
  plus_words = grid_words plus_mask height width coefficients choices

  abbrev minus_words : List ℕ
  minus_words = grid_words minus_mask height width coefficients choices

  -- from the answer
  by_answer : (a : Answer (Unit {0})) (plus' minus' : List ℕ) → planes_answer height width coefficients choices (length plus) (length minus) ≡ a
      → plus' ≡ filled a plus_words plus → minus' ≡ filled a minus_words minus → PlanesWritten height width coefficients choices plus minus a plus' minus'
  by_answer a plus' minus' e p m = record {
    answer = sym e;
    plus_left = p ∙ sym (ap (λ (b : Answer (Unit {0})). filled b plus_words plus) e);
    minus_left = m ∙ sym (ap (λ (b : Answer (Unit {0})). filled b minus_words minus) e);
  }

  pub not_written : (number place : ℕ) → sizes ≡ refused number place → PlanesWritten height width coefficients choices plus minus (refused number place) plus minus
  unfolding planes_answer
  not_written number place e = by_answer (refused number place) plus minus (stopped sizes missing 9 number place e) refl refl

  -- past the checks of the sizes, with the tables of as many cells
  module _ (cells : ℕ) (is : cells ≡ height * width) (fits : Fits height width (length plus) (length minus) (length coefficients) (length choices)) where
    abbrev firsts : List ℤ
    firsts = take cells coefficients

    abbrev chosens : List ℕ
    chosens = take cells choices

    abbrev searched : Place
    searched = formless_cell (length firsts) firsts chosens

    given_sizes : sizes ≡ given tt
    given_sizes = fits_given height width (length plus) (length minus) (length coefficients) (length choices) fits

    long : cells ≤ length coefficients
    long = omega (arith, fits.first_long)

    few : cells ≤ 256
    few = omega (arith, few_cells height width fits.height_to fits.width_to)

    of_missing : missing ≡ searched
    of_missing = sym (formless_taken cells coefficients choices long ∙ ap (λ (n : ℕ). formless_cell n coefficients choices) is)

    pub same_lengths : (length firsts ≤ 256) × (length chosens ≡ length firsts)
    same_lengths = simp length-take (omega (arith, few), omega (arith, fits.first_long, fits.second_long))

    pub cell_below : (c : ℕ) → at_place c ≡ searched → c < 256
    cell_below c e = omega (arith, (cell_of_lem (no_form firsts chosens) (length firsts) c (sym e)).0, same_lengths.0)

    pub no_form_there : (c : ℕ) → at_place c ≡ searched → PlanesWritten height width coefficients choices plus minus (refused 9 c) plus minus
    unfolding planes_answer
    no_form_there c e = by_answer (refused 9 c) plus minus (place_in sizes missing 9 c given_sizes (of_missing ∙ sym e)) refl refl

    pub forms_there : nowhere ≡ searched → (c : ℕ) → c < length firsts → HasForm firsts chosens c
    forms_there e c h = has_form height width firsts chosens c (none_of (no_form firsts chosens) (length firsts) (sym e) c h)

    words_left : (mask : DigitString → ℕ) (table old : List ℕ) → table ≡ plane_words_of (map mask (chosen_forms (length firsts) firsts chosens)) ++ drop 128 old
        → table ≡ grid_words mask height width coefficients choices ++ drop (length (grid_words mask height width coefficients choices)) old
    words_left mask table old e =
        let forms : chosen_forms (length firsts) firsts chosens ≡ chosen_forms (height * width) coefficients choices =
        chosen_taken cells coefficients choices long ∙ ap (λ (n : ℕ). chosen_forms n coefficients choices) is in
        e ∙ ap₂ (λ (words : List ℕ) (n : ℕ). words ++ drop n old) (ap (λ (l : List DigitString). plane_words_of (map mask l)) forms)
        (sym (words_length (map mask (chosen_forms (height * width) coefficients choices))))

    pub all_written : (plus' minus' : List ℕ) → nowhere ≡ searched → plus' ≡ plane_words_of (map plus_mask (chosen_forms (length firsts) firsts chosens)) ++ drop 128 plus
        → minus' ≡ plane_words_of (map minus_mask (chosen_forms (length firsts) firsts chosens)) ++ drop 128 minus
        → PlanesWritten height width coefficients choices plus minus (given tt) plus' minus'
    unfolding planes_answer
    all_written plus' minus' e p m =
        by_answer (given tt) plus' minus' (pass sizes missing 9 given_sizes (of_missing ∙ sym e))
        (words_left plus_mask plus' plus p) (words_left minus_mask minus' minus m)

-- ---- reading
module _ (height width : ℕ) (plus minus first second : List ℕ) where
  abbrev sizes_read : Answer (Unit {0})
  sizes_read = sizes_answer height width (length plus) (length minus) (length first) (length second)

  abbrev overlapping : Place
  overlapping = overlap_cell (height * width) plus minus

  by_reading : (a : Answer (Unit {0})) (first' second' : List ℕ) → cells_answer height width plus minus (length first) (length second) ≡ a
      → first' ≡ filled a (cell_masks (height * width) plus) first → second' ≡ filled a (cell_masks (height * width) minus) second
      → PlanesRead height width plus minus first second a first' second'
  by_reading a first' second' e p m = record {
    answer = sym e;
    plus_left = p ∙ sym (ap (λ (b : Answer (Unit {0})). filled b (cell_masks (height * width) plus) first) e);
    minus_left = m ∙ sym (ap (λ (b : Answer (Unit {0})). filled b (cell_masks (height * width) minus) second) e);
  }

  masks_length : (table : List ℕ) → height * width ≡ length (cell_masks (height * width) table)
  unfolding cell_masks
  masks_length table = sym (length_up_to (height * width) (cell_mask table))

  pub not_read : (number place : ℕ) → sizes_read ≡ refused number place → PlanesRead height width plus minus first second (refused number place) first second
  unfolding cells_answer
  not_read number place e = by_reading (refused number place) first second (stopped sizes_read overlapping 8 number place e) refl refl

  -- past the checks of the sizes
  module _ (cells : ℕ) (is : cells ≡ height * width) (fits : Fits height width (length plus) (length minus) (length first) (length second)) where
    abbrev searched_read : Place
    searched_read = overlap_cell cells plus minus

    given_read : sizes_read ≡ given tt
    given_read = fits_given height width (length plus) (length minus) (length first) (length second) fits

    few_read : cells ≤ 256
    few_read = omega (arith, few_cells height width fits.height_to fits.width_to)

    pub tables_read : (128 ≤ length plus) × (128 ≤ length minus) × (cells ≤ 256)
    tables_read = (fits.plus_long, fits.minus_long, few_read)

    of_overlapping : overlapping ≡ searched_read
    of_overlapping = sym (ap (λ (n : ℕ). overlap_cell n plus minus) is)

    pub overlap_below : (c : ℕ) → at_place c ≡ searched_read → c < 256
    overlap_below c e = omega (arith, (cell_of_lem (overlaps plus minus) cells c (sym e)).0, few_read)

    pub overlap_there : (c : ℕ) → at_place c ≡ searched_read → PlanesRead height width plus minus first second (refused 8 c) first second
    unfolding cells_answer
    overlap_there c e = by_reading (refused 8 c) first second (place_in sizes_read overlapping 8 c given_read (of_overlapping ∙ sym e)) refl refl

    pub few_taken : (lent : List ℕ) → length (take cells lent) ≤ 256
    few_taken lent = simp length-take (omega (arith, few_read))

    masks_left : (table old masks : List ℕ) → cells ≤ length old → masks ≡ cell_masks (length (take cells old)) table
        → masks ++ drop cells old ≡ cell_masks (height * width) table ++ drop (length (cell_masks (height * width) table)) old
    masks_left table old masks long e =
        let all : length (take cells old) ≡ cells = simp length-take (omega arith) in
        ap₂ (λ (masks : List ℕ) (n : ℕ). masks ++ drop n old) (e ∙ ap (λ (n : ℕ). cell_masks n table) (all ∙ is)) (is ∙ masks_length table)

    pub all_read : (first' second' : List ℕ) → nowhere ≡ searched_read → first' ≡ cell_masks (length (take cells first)) plus → second' ≡ cell_masks (length (take cells second)) minus
        → PlanesRead height width plus minus first second (given tt) (first' ++ drop cells first) (second' ++ drop cells second)
    unfolding cells_answer
    all_read first' second' e x y =
        by_reading (given tt) (first' ++ drop cells first) (second' ++ drop cells second) (pass sizes_read overlapping 8 given_read (of_overlapping ∙ sym e))
        (masks_left plus first first' (omega (arith, fits.first_long)) x) (masks_left minus second second' (omega (arith, fits.second_long)) y)
