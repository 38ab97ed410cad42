-- Step 3 of building: what a chain adds keeps the row rule, and its last value has a row. Assumes nothing.
use mathlib.Core.Path.{◌≡◌, refl, sym, ap, ◌∙◌, subst}
use mathlib.Core.List.{List, [], ◌∷◌}
use Prim.Native.Nat.{ℕ, suc, ◌+◌, ◌*◌, ◌-◌, ◌^◌, ◌≤◌, ◌<◌}
use native.Mathlib.Decide.{dec_le}
use native.Mathlib.Nat.{lt_of_not-le, le-mul_of_pos_right}
use native.Mathlib.Omega.{arith}
use lib.IntN.{pos, ◌-ℤ◌, +ℤ-neg_ℤ_cancel}
use lib.ListN.{length}
use lib.Pow.{pow_mono}
use Rattle.refusal.specs.Answer.{Place, nowhere, at_place, place_or}
use Rattle.signed_digit.specs.Digit.{one, nought, minus_one}
use Rattle.signed_digit.specs.String.{DigitString}
use Rattle.signed_digit.specs.Weight.{weight}
use Rattle.network.specs.declared.Row.{Row}
use Rattle.network.specs.Rows.{plus, minus, row_in}
use Rattle.network.specs.RowRule.{lifted, LaterRow}
use Rattle.build_steps.specs.Search.{row_with}
use Rattle.build_steps.specs.Chain.{add_unless, chain_step, chain_from, chain_down, chain_value, chain_end}
use Rattle.build_steps.specs.RowSteps.{Made, by_sum, by_difference, Lawful, Growth}
use Rattle.build_steps.proofs.Lookup.{row_within, row_value}
use Rattle.build_steps.proofs.Lawful.{lawful_some, lawful_first, lawful_own}
use Rattle.build_steps.proofs.ChainValue.{doubled, no_less, never_falls}
use Rattle.build_steps.proofs.Growth.{unchanged, one_row, then}

-- 2^gap·v is no more than 2^31, so the gap is at most 31
pub few_places : (gap v : ℕ) → 1 ≤ v → 2 ^ gap * v ≤ 2 ^ 31 → gap ≤ 31
few_places gap v p h = go (dec_le gap 31)
  where
    go : Dec (gap ≤ 31) → gap ≤ 31
    go (yes l) = l
    go (no n) = let q : 2 ^ 32 ≤ 2 ^ gap = pow_mono {i = 32} (lt_of_not-le n) in absurd (omega (arith, le-mul_of_pos_right (2 ^ gap) p))

-- ---- one step
module _ (rows : List Row) (v g p : ℕ) (w : Lawful rows) (e : row_with rows v ≡ at_place p) (v_from : 1 ≤ v) where
  -- the row of the next value
  abbrev step_row : ℕ → ℕ → Row
  step_row sign next = record { left = place_or 0 (row_with rows v); right = 0; shift = suc g; sign = sign; value = next }

  left_is : place_or 0 (row_with rows v) ≡ p
  left_is = ap (place_or 0) e

  lifted_is : lifted (suc g) (row_in rows (place_or 0 (row_with rows v))).value ≡ 2 ^ suc g * v
  lifted_is = ap (λ (i : ℕ). lifted (suc g) (row_in rows i).value) left_is ∙ ap (lifted (suc g)) (row_value rows v p e)

  one_is : (row_in rows 0).value ≡ 1
  one_is = ap (λ (r : Row). r.value) (lawful_first w)

  sum_rule : 2 ^ suc g * v + 1 < 2 ^ 31 → LaterRow rows (length rows) (step_row plus (2 ^ suc g * v + 1))
  sum_rule h = record {
    left = omega (arith, left_is, row_within rows v p e);
    right = lawful_some w;
    shift_from = omega arith;
    shift_to = few_places (suc g) v v_from (omega arith);
    sign = tt;
    worked = rw (lifted_is, one_is);
    odd = omega (arith, doubled g v);
    value_from = omega arith;
    value_to = omega arith;
    bounded = omega (arith, lifted_is);
  }

  less_one : (a : ℕ) → 1 ≤ a → pos (a - 1) ≡ pos a -ℤ pos 1
  less_one a h = let q : a - 1 + 1 ≡ a = omega arith in sym (ap (λ (n : ℕ). pos n -ℤ pos 1) (sym q) ∙ +ℤ-neg_ℤ_cancel (pos (a - 1)) (pos 1))

  difference_rule : 2 ^ suc g * v - 1 < 2 ^ 31 → LaterRow rows (length rows) (step_row minus (2 ^ suc g * v - 1))
  difference_rule h =
      let d = doubled g v in
      let n = no_less g v in
      record {
        left = omega (arith, left_is, row_within rows v p e);
        right = lawful_some w;
        shift_from = omega arith;
        shift_to = few_places (suc g) v v_from (omega arith);
        sign = tt;
        worked = rw (lifted_is, one_is) (less_one (2 ^ suc g * v) (omega arith));
        odd = omega arith;
        value_from = omega arith;
        value_to = omega arith;
        bounded = omega (arith, lifted_is);
      }

  row_of_v : row_with rows v ≡ at_place (place_or 0 (row_with rows v))
  row_of_v = e ∙ ap at_place (sym left_is)

  step_grows : (sign next : ℕ) (q : Place) → row_with rows next ≡ q → LaterRow rows (length rows) (step_row sign next) → Made rows (step_row sign next)
      → Growth rows (add_unless q rows (step_row sign next)) next 1
  unfolding add_unless
  step_grows sign next (at_place i) f l m = unchanged rows next 1 w (i, f)
  step_grows sign next nowhere f l m = one_row rows (step_row sign next) next 1 (omega arith) w l f refl m

  pub sum_grows : 2 ^ suc g * v + 1 < 2 ^ 31 → Growth rows (chain_step rows v (suc g) plus (2 ^ suc g * v + 1)) (2 ^ suc g * v + 1) 1
  unfolding chain_step
  sum_grows h = step_grows plus (2 ^ suc g * v + 1) (row_with rows (2 ^ suc g * v + 1)) refl (sum_rule h) (by_sum v row_of_v refl refl refl)

  pub difference_grows : 2 ^ suc g * v - 1 < 2 ^ 31 → Growth rows (chain_step rows v (suc g) minus (2 ^ suc g * v - 1)) (2 ^ suc g * v - 1) 1
  unfolding chain_step
  difference_grows h =
      step_grows minus (2 ^ suc g * v - 1) (row_with rows (2 ^ suc g * v - 1)) refl (difference_rule h) (by_difference v row_of_v refl refl refl)

-- ---- a whole chain: no more rows than nonzero digits
pub chain_grows : (rows : List Row) (v g : ℕ) (s : DigitString) (p : ℕ) → Lawful rows → row_with rows v ≡ at_place p → 1 ≤ v → chain_value v (suc g) s < 2 ^ 31
    → Growth rows (chain_from rows v (suc g) s) (chain_value v (suc g) s) (weight s)
unfolding chain_from chain_value
chain_grows rows v g [] p w e f h = unchanged rows v 0 w (p, e)
chain_grows rows v g (nought ∷ s) p w e f h = subst (Growth rows _ _) (omega arith) (chain_grows rows v (suc g) s p w e f h)
chain_grows rows v g (one ∷ s) p w e f h =
    let n : ℕ = 2 ^ suc g * v + 1 in
    let a = sum_grows rows v g p w e f (omega (arith, never_falls n 0 s (omega arith))) in
    let b = chain_grows (chain_step rows v (suc g) plus n) n 0 s a.has.0 a.lawful a.has.1 (omega arith) h in
    then 1 (weight s) (1 + weight s) a b (omega arith)
chain_grows rows v g (minus_one ∷ s) p w e f h =
    let n : ℕ = 2 ^ suc g * v - 1 in
    let l : 1 ≤ n = omega (arith, doubled g v, no_less g v) in
    let a = difference_grows rows v g p w e f (omega (arith, never_falls n 0 s l)) in
    let b = chain_grows (chain_step rows v (suc g) minus n) n 0 s a.has.0 a.lawful a.has.1 l h in
    then 1 (weight s) (1 + weight s) a b (omega arith)

-- "from its highest nonzero digit down": this digit is row 0
pub one_has_row : {rows : List Row} → Lawful rows → row_with rows 1 ≡ at_place 0
one_has_row {rows} w = sym (ap (λ (r : Row). row_with rows r.value) (lawful_first w)) ∙ lawful_own w 0 (lawful_some w)

pub down_grows : (rows : List Row) (s : DigitString) (v : ℕ) → Lawful rows → chain_end s ≡ v → 1 ≤ v → v < 2 ^ 31 → Growth rows (chain_down rows s) v (weight s - 1)
unfolding chain_down chain_end
down_grows rows [] v w e f h = absurd (omega arith)
down_grows rows (nought ∷ s) v w e f h = subst (Growth rows _ _) (omega arith) (down_grows rows s v w e f h)
down_grows rows (one ∷ s) v w e f h =
    subst (λ (x : ℕ). Growth rows (chain_from rows 1 1 s) x (1 + weight s - 1)) e
    (subst (Growth rows _ _) (omega arith) (chain_grows rows 1 0 s 0 w (one_has_row w) (omega arith) (omega arith)))
down_grows rows (minus_one ∷ s) v w e f h = absurd (omega arith)
