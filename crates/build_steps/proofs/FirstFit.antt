-- Step 2 of building in document 01's words: the row that the search finds keeps the row rule, has the value that was searched for, and no such row
-- comes before it by "lowest left, then lowest shift, then sign in the order `+`, `-`, `r`"; where nothing is found, there is no such row.
-- Assumes nothing.
use mathlib.Core.Path.{◌≡◌, refl, sym, ap, ◌∙◌}
use mathlib.Core.Bool.{Bool, true, false, true≢false}
use mathlib.Core.List.{List}
use mathlib.Core.Logic.{⊎_elim}
use Prim.Native.Nat.{ℕ, zero, suc, ◌-◌, ◌%◌, ◌^◌, ◌<◌}
use native.Mathlib.Nat.{eq-or-lt_of_le}
use native.Mathlib.Omega.{arith}
use borrow.Author.Tests.{eqb-true}
use lib.Dec.{T, eqb}
use lib.IntN.{pos}
use lib.ListN.{length, get_or}
use Rattle.sequence.proofs.UpTo.{length_up_to, get_d_up_to}
use Rattle.network.specs.declared.Row.{Row}
use Rattle.network.specs.Rows.{plus, minus, reversed, row_in}
use Rattle.network.specs.RowRule.{combined, is_row_sign, is_natural, lifted, LaterRow}
use Rattle.word.proofs.Booleans.{is_true}
use Rattle.word.proofs.Order.{not_above}
use Rattle.network.proofs.Booleans.{both}
use Rattle.network.proofs.Rules.{natural_is, is_natural_lem}
use Rattle.build_steps.specs.Search.{Fit, fit, none_fits, tried, signs, shifts, first_fit_of, fit_at_shift, fit_at_left}
use Rattle.build_steps.specs.RowSteps.{sign_place, NoLater, lower_left, lower_shift, no_later_sign, FirstFit}
use Rattle.build_steps.proofs.FirstOver.{FirstAt, over_fit, over_none, up_to_fit, up_to_none}
use Rattle.build_steps.proofs.Tried.{Tried, tried_fit, tried_none}

-- ---- signs
sign_at : (k : ℕ) → k < 3 → (T (is_row_sign (get_or signs k 0))) × (sign_place (get_or signs k 0) ≡ k)
sign_at zero l = (tt, refl)
sign_at (suc zero) l = (tt, refl)
sign_at (suc (suc zero)) l = (tt, refl)
sign_at (suc (suc (suc k))) l = absurd (omega arith)

place_of : (s : ℕ) → T (is_row_sign s) → (sign_place s < 3) × (get_or signs (sign_place s) 0 ≡ s)
place_of s t = go (eqb s plus) (eqb s minus) (eqb s reversed) refl refl refl t
  where
    go : (x y z : Bool) → eqb s plus ≡ x → eqb s minus ≡ y → eqb s reversed ≡ z → T (is_row_sign s) → (sign_place s < 3) × (get_or signs (sign_place s) 0 ≡ s)
    go true y z p m r t = rw (eqb-true s plus p) (omega arith, refl)
    go false true z p m r t = rw (eqb-true s minus m) (omega arith, refl)
    go false false true p m r t = rw (eqb-true s reversed r) (omega arith, refl)
    go false false false p m r t = absurd (rw (p, m, r) at t)

-- a sign by its place
pub same_sign : (r s : ℕ) → T (is_row_sign r) → T (is_row_sign s) → sign_place r ≡ sign_place s → r ≡ s
same_sign r s a b e = sym (place_of r a).1 ∙ ap (λ (k : ℕ). get_or signs k 0) e ∙ (place_of s b).1

-- ---- shifts
shift_at : (k : ℕ) → k < 31 → get_or shifts k 0 ≡ suc k
shift_at k l = get_d_up_to 31 suc 0 k l

shift_count : length shifts ≡ 31
shift_count = length_up_to 31 suc

-- ---- the search
module _ (rows : List Row) (v : ℕ) where
  abbrev by_sign : ℕ → ℕ → ℕ → Fit
  by_sign left shift k = tried rows v left shift (get_or signs k 0)

  abbrev by_shift : ℕ → ℕ → Fit
  by_shift left s = fit_at_shift rows v left (suc s)

  abbrev by_left : ℕ → Fit
  by_left left = fit_at_left rows v left

  -- a row of value v that keeps the rule is tried, and then something is found
  refuted : (q : Row) → q.value ≡ v → LaterRow rows (length rows) q → tried rows v q.left q.shift q.sign ≡ none_fits → ⊥
  refuted q e w n =
      true≢false
      (sym
      (rw (is_true (is_row_sign q.sign) w.sign)
      (is_natural_lem (combined q.sign (pos (lifted q.shift (row_in rows q.left).value)) (pos (row_in rows q.right).value)) v (ap pos (sym e) ∙ w.worked)))
      ∙ tried_none rows v q.left q.shift q.sign n w.bounded q.right w.right)

  module _ (q : Row) (e : q.value ≡ v) (w : LaterRow rows (length rows) q) where
    sign_tried : by_sign q.left q.shift (sign_place q.sign) ≡ none_fits → ⊥
    sign_tried n = refuted q e w (ap (tried rows v q.left q.shift) (sym (place_of q.sign w.sign).1) ∙ n)

    shift_tried : by_shift q.left (q.shift - 1) ≡ none_fits → ⊥
    unfolding fit_at_shift
    shift_tried n =
        let s : suc (q.shift - 1) ≡ q.shift = omega (arith, w.shift_from) in
        sign_tried (over_none 0 (tried rows v q.left q.shift) signs (rw s at n) (sign_place q.sign) (place_of q.sign w.sign).0)

    left_tried : by_left q.left ≡ none_fits → ⊥
    unfolding fit_at_left
    left_tried n =
        shift_tried
        (let k : q.shift - 1 < 31 = omega (arith, w.shift_to, w.shift_from) in
        ap (λ (s : ℕ). fit_at_shift rows v q.left s) (sym (shift_at (q.shift - 1) k))
        ∙ over_none 0 (λ (s : ℕ). fit_at_shift rows v q.left s) shifts n (q.shift - 1) (omega (arith, shift_count)))

  -- the three places of what was found
  record Places (r : Row) : Type 0 where
    lefts : FirstAt by_left (length rows) r
    shifts_at : FirstAt (by_shift lefts.place) 31 r
    signs_at : FirstAt (by_sign lefts.place (suc shifts_at.place)) 3 r

  by_shift_lem : (r : Row) (left : ℕ) → by_left left ≡ fit r → FirstAt (by_shift left) 31 r
  unfolding fit_at_left
  by_shift_lem r left e =
      let y = over_fit 0 (λ (s : ℕ). fit_at_shift rows v left s) shifts r e in
      let l : y.place < 31 = omega (arith, y.within, shift_count) in
      record {
        place = y.place;
        within = l;
        fits = ap (λ (s : ℕ). fit_at_shift rows v left s) (sym (shift_at y.place l)) ∙ y.fits;
        not_before = λ k m. ap (λ (s : ℕ). fit_at_shift rows v left s) (sym (shift_at k (omega arith))) ∙ y.not_before k m;
      }

  found_places : (r : Row) → first_fit_of rows v ≡ fit r → Places r
  unfolding first_fit_of fit_at_shift
  found_places r e =
      let x = up_to_fit 0 (λ (i : ℕ). i) by_left (length rows) r e in
      let y = by_shift_lem r x.place x.fits in
      let z = over_fit 0 (tried rows v x.place (suc y.place)) signs r y.fits in
      record { lefts = x; shifts_at = y; signs_at = z }

  module _ (r : Row) (x : Places r) where
    abbrev sign_now : ℕ
    sign_now = get_or signs x.signs_at.place 0

    found_tried : Tried rows v x.lefts.place (suc x.shifts_at.place) sign_now r
    found_tried = tried_fit rows v x.lefts.place (suc x.shifts_at.place) (get_or signs x.signs_at.place 0) r x.signs_at.fits

    found_rule : v % 2 ≡ 1 → v < 2 ^ 31 → LaterRow rows (length rows) r
    found_rule o s =
        let t = found_tried in
        let g = sign_at x.signs_at.place x.signs_at.within in
        let k = both (is_row_sign sign_now) (is_natural (combined sign_now (pos (lifted (suc x.shifts_at.place) (row_in rows x.lefts.place).value)) (pos (row_in rows r.right).value)) v) t.works in
        let lift_is : lifted r.shift (row_in rows r.left).value ≡ lifted (suc x.shifts_at.place) (row_in rows x.lefts.place).value = rw (t.left_is, t.shift_is) in
        record {
          left = omega (arith, t.left_is, x.lefts.within);
          right = t.right_in;
          shift_from = omega (arith, t.shift_is);
          shift_to = omega (arith, t.shift_is, x.shifts_at.within);
          sign = rw t.sign_is g.0;
          worked = rw (lift_is, t.sign_is, t.value_is) (natural_is _ v k.1);
          odd = rw t.value_is o;
          value_from = omega (arith, t.value_is);
          value_to = omega (arith, t.value_is);
          bounded = omega (arith, lift_is, t.bounded);
        }

    module _ (q : Row) (e : q.value ≡ v) (w : LaterRow rows (length rows) q) where
      not_lower_left : q.left < x.lefts.place → ⊥
      not_lower_left l = left_tried q e w (x.lefts.not_before q.left l)

      not_lower_shift : x.lefts.place ≡ q.left → q.shift < suc x.shifts_at.place → ⊥
      not_lower_shift a l =
          shift_tried q e w (ap (λ (i : ℕ). by_shift i (q.shift - 1)) (sym a) ∙ x.shifts_at.not_before (q.shift - 1) (omega (arith, w.shift_from)))

      not_lower_sign : x.lefts.place ≡ q.left → suc x.shifts_at.place ≡ q.shift → sign_place q.sign < x.signs_at.place → ⊥
      not_lower_sign a b l =
          sign_tried q e w
          (ap (λ (i : ℕ). by_sign i q.shift (sign_place q.sign)) (sym a)
          ∙ ap (λ (s : ℕ). by_sign x.lefts.place s (sign_place q.sign)) (sym b)
          ∙ x.signs_at.not_before (sign_place q.sign) l)

      found_first : NoLater r q
      found_first =
          let t = found_tried in
          ⊎_elim
          (λ (a : x.lefts.place ≡ q.left).
          ⊎_elim
          (λ (b : suc x.shifts_at.place ≡ q.shift).
          no_later_sign (t.left_is ∙ a) (t.shift_is ∙ b)
          (let s : sign_place r.sign ≡ x.signs_at.place = ap sign_place t.sign_is ∙ (sign_at x.signs_at.place x.signs_at.within).1 in
          rw s (not_above x.signs_at.place (sign_place q.sign) (not_lower_sign a b))))
          (λ (b : suc x.shifts_at.place < q.shift). lower_shift (t.left_is ∙ a) (omega (arith, t.shift_is)))
          (eq-or-lt_of_le (not_above (suc x.shifts_at.place) q.shift (not_lower_shift a))))
          (λ (a : x.lefts.place < q.left). lower_left (omega (arith, t.left_is)))
          (eq-or-lt_of_le (not_above x.lefts.place q.left not_lower_left))

  -- ---- the theorems
  pub fit_is_first : v % 2 ≡ 1 → v < 2 ^ 31 → (r : Row) → first_fit_of rows v ≡ fit r → FirstFit rows v r
  fit_is_first o s r e =
      let x = found_places r e in
      record { value = (found_tried r x).value_is; rule = found_rule r x o s; first = λ q f w. found_first r x q f w }

  pub none_is_none : first_fit_of rows v ≡ none_fits → (q : Row) → q.value ≡ v → LaterRow rows (length rows) q → ⊥
  unfolding first_fit_of
  none_is_none n q e w = left_tried q e w (up_to_none 0 (λ (i : ℕ). i) by_left (length rows) n q.left w.left)
