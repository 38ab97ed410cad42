-- What writing and reading planes answer, check by check. Assumes nothing.
use mathlib.Core.Path.{◌≡◌, refl, sym, ap, ap₂, ◌∙◌}
use mathlib.Core.Bool.{Bool, true, false, not, ◌||◌, true≢false}
use mathlib.Core.List.{List}
use Prim.Native.Nat.{ℕ, ◌*◌, ◌≤◌}
use native.Mathlib.Nat.{mul-le-mul}
use native.Mathlib.Omega.{arith}
use borrow.Author.Tests.{eqb-true, eqb-false, ne_eqb, ltb-true, ltb-false, lt-ltb, le-ltb, not-false}
use lib.Dec.{eqb, ltb}
use lib.IntN.{ℤ, pos}
use lib.ListN.{length, get_or}
use Rattle.refusal.specs.Answer.{Answer, given, refused, Place, nowhere, at_place, refuse_if, refuse_at, and_then}
use Rattle.refusal.proofs.Checks.{neither, either, check_passes, given_if, given_at, given_refused, refused_if, refused_at}
use Rattle.signed_digit.specs.Forms.{listing}
use Rattle.plane_masks.specs.Grid.{bad_side_of, bad_sides_of, short_table_of, sizes_answer, no_form, formless_cell, planes_answer, overlaps, overlap_cell, cells_answer}
use Rattle.plane_masks.specs.Claims.{Fits, BadSides, no_height, high, no_width, wide, TableUnderLength, plus_short, minus_short, first_short, second_short, HasForm, SizeRefusals, grid_sides, short_table_lem, WritingRefusals, writing_sizes, no_form_lem, ReadingRefusals, reading_sizes, overlap, CanWrite, CanRead}
use Rattle.plane_masks.proofs.Lists.{no_cell, none_of, cell_of_lem}
use Rattle.plane_masks.proofs.Strings.{not_apart, are_apart, apart_is}

both_pass : (a b : Bool) → a ≡ false → b ≡ false → (a || b) ≡ false
both_pass a b e f = ap₂ (λ (x y : Bool). x || y) e f

-- ---- sides
side_is : (n : ℕ) → bad_side_of n ≡ false → (1 ≤ n) × (n ≤ 16)
side_is n e =
    let b = neither (eqb n 0) (ltb 16 n) e in
    let z = eqb-false n 0 b.0 in
    (some n z, ltb-false 16 n b.1)
  where
    some : (n : ℕ) → (n ≡ 0 → ⊥) → 1 ≤ n
    some n z = omega arith

is_side : (n : ℕ) → 1 ≤ n → n ≤ 16 → bad_side_of n ≡ false
is_side n h l = both_pass (eqb n 0) (ltb 16 n) (ne_eqb n 0 (λ e. omega arith)) (le-ltb 16 n l)

module _ (height width : ℕ) where
  bad_sides_lem : bad_sides_of height width ≡ true → BadSides height width
  bad_sides_lem e =
      either (bad_side_of height) (bad_side_of width) e
      (λ h. either (eqb height 0) (ltb 16 height) h (λ z. no_height (eqb-true height 0 z)) (λ l. high (ltb-true 16 height l)))
      (λ w. either (eqb width 0) (ltb 16 width) w (λ z. no_width (eqb-true width 0 z)) (λ l. wide (ltb-true 16 width l)))

  not_bad : bad_sides_of height width ≡ false → BadSides height width → ⊥
  not_bad e b =
      let s = neither (bad_side_of height) (bad_side_of width) e in
      let h = side_is height s.0 in
      let w = side_is width s.1 in
      go b h.0 h.1 w.0 w.1
    where
      go : BadSides height width → 1 ≤ height → height ≤ 16 → 1 ≤ width → width ≤ 16 → ⊥
      go (no_height e) a b c d = omega arith
      go (high l) a b c d = omega arith
      go (no_width e) a b c d = omega arith
      go (wide l) a b c d = omega arith

  -- "up to 16 by 16": at most 256 cells
  pub few_cells : height ≤ 16 → width ≤ 16 → height * width ≤ 256
  few_cells h w = mul-le-mul h w

  pub good_few : bad_sides_of height width ≡ false → height * width ≤ 256
  good_few e =
      let s = neither (bad_side_of height) (bad_side_of width) e in
      few_cells (side_is height s.0).1 (side_is width s.1).1

  module _ (pw mw first second : ℕ) where
    under_length : short_table_of (height * width) pw mw first second ≡ true → TableUnderLength (height * width) pw mw first second
    under_length e =
        let cells : ℕ = height * width in
        either (ltb pw 128) (ltb mw 128 || (ltb first cells || ltb second cells)) e (λ l. plus_short (ltb-true pw 128 l))
        (λ e. either (ltb mw 128) (ltb first cells || ltb second cells) e (λ l. minus_short (ltb-true mw 128 l))
        (λ e. either (ltb first cells) (ltb second cells) e (λ l. first_short (ltb-true first cells l)) (λ l. second_short (ltb-true second cells l))))

    passed : bad_sides_of height width ≡ false → short_table_of (height * width) pw mw first second ≡ false → Fits height width pw mw first second
    passed s e =
        let cells : ℕ = height * width in
        let b = neither (bad_side_of height) (bad_side_of width) s in
        let h = side_is height b.0 in
        let w = side_is width b.1 in
        let x = neither (ltb pw 128) (ltb mw 128 || (ltb first cells || ltb second cells)) e in
        let y = neither (ltb mw 128) (ltb first cells || ltb second cells) x.1 in
        let z = neither (ltb first cells) (ltb second cells) y.1 in
        record {
          height_from = h.0;
          height_to = h.1;
          width_from = w.0;
          width_to = w.1;
          plus_long = ltb-false pw 128 x.0;
          minus_long = ltb-false mw 128 y.0;
          first_long = ltb-false first cells z.0;
          second_long = ltb-false second cells z.1;
        }

    module _ (f : Fits height width pw mw first second) where
      good_sides : bad_sides_of height width ≡ false
      good_sides = both_pass (bad_side_of height) (bad_side_of width) (is_side height f.height_from f.height_to) (is_side width f.width_from f.width_to)

      none_short : short_table_of (height * width) pw mw first second ≡ false
      none_short =
          let cells : ℕ = height * width in
          both_pass (ltb pw 128) (ltb mw 128 || (ltb first cells || ltb second cells)) (le-ltb pw 128 f.plus_long)
          (both_pass (ltb mw 128) (ltb first cells || ltb second cells) (le-ltb mw 128 f.minus_long)
          (both_pass (ltb first cells) (ltb second cells) (le-ltb first cells f.first_long) (le-ltb second cells f.second_long)))

      pub fits_given : sizes_answer height width pw mw first second ≡ given tt
      unfolding sizes_answer
      fits_given =
          check_passes (bad_sides_of height width) 14 (refuse_if (short_table_of (height * width) pw mw first second) 3 (given tt)) good_sides
          ∙ check_passes (short_table_of (height * width) pw mw first second) 3 (given tt) none_short

    pub given_fits : sizes_answer height width pw mw first second ≡ given tt → Fits height width pw mw first second
    unfolding sizes_answer
    given_fits e =
        let x = given_if (bad_sides_of height width) 14 (refuse_if (short_table_of (height * width) pw mw first second) 3 (given tt)) tt e in
        passed x.0 (given_if (short_table_of (height * width) pw mw first second) 3 (given tt) tt x.1).0

    pub sizes_refused : (number place : ℕ) → sizes_answer height width pw mw first second ≡ refused number place → SizeRefusals height width pw mw first second number place
    unfolding sizes_answer
    sizes_refused number place e =
        refused_if (bad_sides_of height width) 14 (refuse_if (short_table_of (height * width) pw mw first second) 3 (given tt)) number place e
        (λ b n p. grid_sides n p (bad_sides_lem b))
        (λ s r. refused_if (short_table_of (height * width) pw mw first second) 3 (given tt) number place r
        (λ b n p. short_table_lem n p (not_bad s) (under_length b))
        (λ l q. given_refused tt number place q))

-- ---- the sizes, and then a check of its own
module _ (a : Answer (Unit {0})) (p : Place) (n : ℕ) where
  abbrev after : Unit {0} → Answer (Unit {0})
  after u = refuse_at p n (given tt)

  abbrev both : Answer (Unit {0})
  both = and_then a after

  pub pass : a ≡ given tt → p ≡ nowhere → both ≡ given tt
  pass e f = ap₂ (λ (x : Answer (Unit {0})) (y : Place). and_then x (λ u. refuse_at y n (given tt))) e f

  pub passed_both : both ≡ given tt → (a ≡ given tt) × (p ≡ nowhere)
  passed_both e = go a e
    where
      go : (b : Answer (Unit {0})) → and_then b after ≡ given (tt {0}) → (b ≡ given (tt {0})) × (p ≡ nowhere)
      go (given u) e = (refl, (given_at p n (given tt) tt e).0)
      go (refused m k) e = given_refused tt m k (sym e)

  pub stopped : (number place : ℕ) → a ≡ refused number place → both ≡ refused number place
  stopped number place e = ap (λ (x : Answer (Unit {0})). and_then x after) e

  pub place_in : (k : ℕ) → a ≡ given tt → p ≡ at_place k → both ≡ refused n k
  place_in k e f = ap₂ (λ (x : Answer (Unit {0})) (y : Place). and_then x (λ u. refuse_at y n (given tt))) e f

  pub refused_both : {C : Type 0} (number place : ℕ) → both ≡ refused number place → (a ≡ refused number place → C) → (a ≡ given tt → p ≡ at_place place → number ≡ n → C) → C
  refused_both {C} number place e first second = go a refl e
    where
      go : (b : Answer (Unit {0})) → a ≡ b → and_then b after ≡ refused number place → C
      go (given u) q e = refused_at p n (given tt) number place e (λ at number_is. second q at number_is) (λ none r. given_refused tt number place r)
      go (refused m k) q e = first (q ∙ e)

-- ---- writing
module _ (height width : ℕ) (coefficients : List ℤ) (choices : List ℕ) where
  pub has_form : (c : ℕ) → no_form coefficients choices c ≡ false → HasForm coefficients choices c
  has_form c e =
      let n : ℕ = length (listing 32 (get_or coefficients c (pos 0))) in
      record { below = ltb-true (get_or choices c 0) n (not-false (ltb (get_or choices c 0) n) e) }

  pub form_there : (c : ℕ) → HasForm coefficients choices c → no_form coefficients choices c ≡ false
  form_there c h = ap not (lt-ltb (get_or choices c 0) (length (listing 32 (get_or coefficients c (pos 0)))) h.below)

  no_such : (c : ℕ) → no_form coefficients choices c ≡ true → HasForm coefficients choices c → ⊥
  no_such c e h = true≢false (sym e ∙ form_there c h)

  module _ (pw mw : ℕ) where
    abbrev sizes : Answer (Unit {0})
    sizes = sizes_answer height width pw mw (length coefficients) (length choices)

    pub can_write : planes_answer height width coefficients choices pw mw ≡ given tt → CanWrite height width coefficients choices pw mw
    unfolding planes_answer
    can_write e =
        let b = passed_both sizes (formless_cell (height * width) coefficients choices) 9 e in
        record {
          fits = given_fits height width pw mw (length coefficients) (length choices) b.0;
          forms = λ c h. has_form c (none_of (no_form coefficients choices) (height * width) b.1 c h);
        }

    pub writes : CanWrite height width coefficients choices pw mw → planes_answer height width coefficients choices pw mw ≡ given tt
    unfolding planes_answer
    writes w =
        pass sizes (formless_cell (height * width) coefficients choices) 9 (fits_given height width pw mw (length coefficients) (length choices) w.fits)
        (no_cell (no_form coefficients choices) (height * width) (λ c h. form_there c (w.forms c h)))

    pub writing_refused : (number place : ℕ) → planes_answer height width coefficients choices pw mw ≡ refused number place
        → WritingRefusals height width coefficients choices pw mw number place
    unfolding planes_answer
    writing_refused number place e =
        refused_both sizes (formless_cell (height * width) coefficients choices) 9 number place e
        (λ r. writing_sizes (sizes_refused height width pw mw (length coefficients) (length choices) number place r))
        (λ g at n.
        let f = cell_of_lem (no_form coefficients choices) (height * width) place at in
        no_form_lem n (given_fits height width pw mw (length coefficients) (length choices) g) f.0 (no_such place f.1) (λ c l. has_form c (f.2 c l)))

-- ---- reading
module _ (height width : ℕ) (plus minus : List ℕ) (first second : ℕ) where
  abbrev sizes_read : Answer (Unit {0})
  sizes_read = sizes_answer height width (length plus) (length minus) first second

  pub can_read : cells_answer height width plus minus first second ≡ given tt → CanRead height width plus minus first second
  unfolding cells_answer
  can_read e =
      let b = passed_both sizes_read (overlap_cell (height * width) plus minus) 8 e in
      record {
        fits = given_fits height width (length plus) (length minus) first second b.0;
        apart = λ c h. are_apart plus minus c (none_of (overlaps plus minus) (height * width) b.1 c h);
      }

  pub reads : CanRead height width plus minus first second → cells_answer height width plus minus first second ≡ given tt
  unfolding cells_answer
  reads r =
      pass sizes_read (overlap_cell (height * width) plus minus) 8 (fits_given height width (length plus) (length minus) first second r.fits)
      (no_cell (overlaps plus minus) (height * width) (λ c h. apart_is plus minus c (r.apart c h)))

  pub reading_refused : (number place : ℕ) → cells_answer height width plus minus first second ≡ refused number place
      → ReadingRefusals height width plus minus first second number place
  unfolding cells_answer
  reading_refused number place e =
      refused_both sizes_read (overlap_cell (height * width) plus minus) 8 number place e
      (λ r. reading_sizes (sizes_refused height width (length plus) (length minus) first second number place r))
      (λ g at n.
      let f = cell_of_lem (overlaps plus minus) (height * width) place at in
      let o = not_apart plus minus place f.1 in
      overlap n (given_fits height width (length plus) (length minus) first second g) f.0 o.0 o.1 o.2 (λ c l. are_apart plus minus c (f.2 c l)))
