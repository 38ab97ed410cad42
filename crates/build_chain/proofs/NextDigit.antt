-- One step of a chain: the next nonzero digit, and what it gives. Assumes nothing.
use mathlib.Core.Path.{◌≡◌, refl, sym, subst, ◌∙◌}
use mathlib.Core.Bool.{Bool, true, false, cond}
use mathlib.Core.List.{List, ◌∷◌}
use Prim.Native.Nat.{ℕ, zero, suc, ◌+◌, ◌*◌, ◌-◌, ◌/◌, ◌%◌, ◌^◌, ◌≤◌, ◌<◌}
use native.Mathlib.Omega.{arith}
use borrow.Author.Tests.{eq-eqb, ne_eqb}
use lib.Dec.{eqb}
use lib.Pow.{pow_mono}
use Rattle.signed_digit.specs.Digit.{Digit, one, nought, minus_one, nonzero}
use Rattle.signed_digit.specs.String.{DigitString, digit_at}
use Rattle.signed_digit.specs.Masks.{plus_bit}
use Rattle.form_masks.specs.declared.Form.{Form}
use Rattle.form_masks.specs.Form.{string_of}
use Rattle.network.specs.declared.Row.{Row}
use Rattle.network.specs.Rows.{plus, minus}
use Rattle.build_steps.specs.Chain.{chain_step, chain_from, chain_value}
use Rattle.build_steps.proofs.ChainValue.{doubled, no_less, never_falls}
use Rattle.build_chain.specs.declared.Chain.{Chain}
use Rattle.build_chain.specs.Inner.{below, Digits, IsNext}
use Rattle.build_chain.proofs.HighDigits.{Next, next}
use Rattle.build_chain.proofs.Masks.{string_places, plus_bit_lem}

-- v = 2^gap·v ± 1
abbrev pub next_value : Bool → ℕ → ℕ → ℕ
next_value b gap v = cond b (2 ^ gap * v + 1) (2 ^ gap * v - 1)

abbrev pub next_sign : Bool → ℕ
next_sign b = cond b plus minus

at_least_two : (g v : ℕ) → 1 ≤ v → 2 ≤ 2 ^ suc g * v
at_least_two g v h = omega (arith, doubled g v, no_less g v)

-- one digit, told by a Boolean
data Told : Bool → Digit → Type 0 where
  is_one : Told true one
  is_minus : Told false minus_one

told : (d : Digit) (x : ℕ) → nonzero d ≡ 1 → x ≡ plus_bit d → Told (eqb x 1) d
told one x c e = subst (λ (b : Bool). Told b one) (sym (eq-eqb x 1 e)) is_one
told nought x c e = absurd (omega arith)
told minus_one x c e = subst (λ (b : Bool). Told b minus_one) (sym (ne_eqb x 1 (λ f. omega arith))) is_minus

module _ (v : ℕ) (h : 1 ≤ v) (s : DigitString) where
  two : (k : ℕ) → 0 < k → 2 ≤ 2 ^ k * v
  two zero p = absurd (omega arith)
  two (suc g) p = at_least_two g v h

  told_value : {b : Bool} {d : Digit} → Told b d → (k : ℕ) → chain_value v k (d ∷ s) ≡ chain_value (next_value b k v) 1 s
  unfolding chain_value
  told_value is_one k = refl
  told_value is_minus k = refl

  told_rows : {b : Bool} {d : Digit} → Told b d → (k : ℕ) (rows : List Row)
      → chain_from (chain_step rows v k (next_sign b) (next_value b k v)) (next_value b k v) 1 s ≡ chain_from rows v k (d ∷ s)
  unfolding chain_from
  told_rows is_one k rows = refl
  told_rows is_minus k rows = refl

  next_above : (k : ℕ) → 0 < k → (b : Bool) → 1 ≤ next_value b k v
  next_above k p true = omega (arith, two k p)
  next_above k p false = omega (arith, two k p)

  raised_small : (k : ℕ) → 0 < k → (b : Bool) → chain_value (next_value b k v) 1 s < 2 ^ 31 → 2 ^ k * v ≤ 2 ^ 31
  raised_small k p true l = omega (arith, never_falls (2 ^ k * v + 1) 0 s (next_above k p true))
  raised_small k p false l = omega (arith, two k p, never_falls (2 ^ k * v - 1) 0 s (next_above k p false))

module _ (c : Chain) (d : Digits c) (small : c.form.plus < 2 ^ 32) (q : ℕ) (low : 2 ^ q ≤ c.rest) (high : c.rest < 2 ^ suc q) where
  abbrev form : Form
  form = c.form

  abbrev s : DigitString
  s = string_of form

  abbrev p : ℕ
  p = c.place

  n : Next s p q
  n = next s p q (omega (arith, string_places form, d.place_to)) (omega (arith, low, d.rest)) (omega (arith, high, d.rest))

  pub before : q < c.place
  before = n.before

  gap_some : 0 < c.place - q
  gap_some = omega (arith, n.before)

  abbrev bit : Bool
  bit = eqb (form.plus / 2 ^ q % 2) 1

  tells : Told bit (digit_at s q)
  tells = told (digit_at s q) (form.plus / 2 ^ q % 2) n.counts (plus_bit_lem form small q)

  value_next : chain_value (next_value bit (c.place - q) c.value) 1 (below form q) ≡ chain_value c.value 1 (below form c.place)
  value_next = sym (n.value c.value ∙ told_value c.value d.above (below form q) tells (c.place - q))

  rows_next : (rows : List Row)
      → chain_from (chain_step rows c.value (c.place - q) (next_sign bit) (next_value bit (c.place - q) c.value)) (next_value bit (c.place - q) c.value) 1 (below form q) ≡ chain_from rows c.value 1 (below form c.place)
  rows_next rows = told_rows c.value d.above (below form q) tells (c.place - q) rows ∙ sym (n.chain rows c.value)

  -- 2^gap·v fits
  pub raised_fits : (2 ≤ 2 ^ (c.place - q) * c.value) × (2 ^ (c.place - q) * c.value ≤ 2 ^ 31)
  raised_fits = (two c.value d.above (below form q) (c.place - q) gap_some, raised_small c.value d.above (below form q) (c.place - q) gap_some bit (omega (arith, value_next, d.ends)))

  pub is_next : IsNext c (record { gap = c.place - q; sign = next_sign bit; value = next_value bit (c.place - q) c.value; place = q; rest = c.rest - 2 ^ q })
  is_next = record {
    place_to = n.before;
    rest = omega (arith, n.rest, d.rest);
    less = omega (arith, low, n.rest, positive);
    above = next_above c.value d.above (below form q) (c.place - q) gap_some bit;
    ends = value_next;
    rows = rows_next;
  }
    where
      positive : 1 ≤ 2 ^ q
      positive = pow_mono {i = 0} {j = q} (omega arith)
