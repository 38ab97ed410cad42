-- The lowest place in both of two masks is the lowest place that their bitwise and holds: none where it is 0, else the number of zeros below it. Assumes nothing.
use mathlib.Core.Path.{◌≡◌, refl, sym, ap, ◌∙◌}
use mathlib.Core.Bool.{Bool, true, false, cond, ◌&&◌}
use mathlib.Core.Logic.{◌⊎◌, inl, inr}
use Prim.Native.Nat.{ℕ, zero, suc, ◌+◌, ◌≤◌, ◌<◌, ◌^◌, ◌/◌, ◌%◌, min}
use native.Mathlib.Nat.{eq-or-lt_of_le, pow-suc, zero-div, div-div-eq-div-mul}
use native.Mathlib.Omega.{arith}
use lib.Bits.{bit_and, and_step, and_shr}
use lib.Count.{count_trailing_zeros, under}
use lib.Dec.{eqb}
use borrow.Author.Tests.{eq-eqb, ne_eqb}
use Rattle.refusal.specs.Answer.{nowhere, at_place, lowest_from}
use Rattle.refusal.proofs.Checks.{lowest_alike}
use Rattle.signed_digit.specs.Masks.{holds}
use Rattle.form_masks.specs.Form.{places_from, overlap_in}
use Rattle.form_masks.specs.Inner.{lowest_in}

both_one : (i j : ℕ) → i < 2 → j < 2 → eqb i 1 && eqb j 1 ≡ eqb (min i j) 1
both_one zero zero h k = refl
both_one zero (suc zero) h k = refl
both_one zero (suc (suc j)) h k = absurd (omega arith)
both_one (suc zero) zero h k = refl
both_one (suc zero) (suc zero) h k = refl
both_one (suc zero) (suc (suc j)) h k = absurd (omega arith)
both_one (suc (suc i)) j h k = absurd (omega arith)

and_holds : (x y place : ℕ) → (holds x place && holds y place) ≡ holds (bit_and x y) place
and_holds x y place =
    let a : ℕ = x / 2 ^ place in
    let b : ℕ = y / 2 ^ place in
    let q : min (a % 2) (b % 2) ≡ bit_and a b % 2 = omega (arith, and_step a b) in
    both_one (a % 2) (b % 2) (omega arith) (omega arith)
    ∙ ap (λ (i : ℕ). eqb i 1) (q ∙ ap (λ (n : ℕ). n % 2) (sym (and_shr x y place)))

pub overlap_and : (p x y : ℕ) → overlap_in p x y ≡ lowest_in p (bit_and x y)
unfolding overlap_in lowest_in lowest_from
overlap_and p x y = from 0 p
  where
    from : (k p : ℕ) → lowest_from k (λ (place : ℕ). holds x place && holds y place) (places_from k p) ≡ lowest_from k (holds (bit_and x y)) (places_from k p)
    from k zero = refl
    from k (suc p) = lowest_alike (λ (place : ℕ). holds x place && holds y place) (holds (bit_and x y)) k k (places_from (suc k) p) (and_holds x y k) (from (suc k) p)

-- a place that is in both, with none lower in both, is the lowest
pub overlap_lowest : (x y p place : ℕ) → place < p → (holds x place && holds y place) ≡ true
    → ((k : ℕ) → k < place → (holds x k && holds y k) ≡ false) → overlap_in p x y ≡ at_place place
unfolding overlap_in lowest_from
overlap_lowest x y p place h b none = from 0 p (omega arith) (omega arith)
  where
    both : ℕ → Bool
    both k = holds x k && holds y k

    from : (k p : ℕ) → k ≤ place → place < k + p → lowest_from k both (places_from k p) ≡ at_place place
    from k zero l u = absurd (omega arith)
    from k (suc p) l u = go (eq-or-lt_of_le l) (from (suc k) p)
      where
        go : (k ≡ place) ⊎ (k < place) → (suc k ≤ place → place < suc k + p → lowest_from (suc k) both (places_from (suc k) p) ≡ at_place place)
            → cond (both k) (at_place k) (lowest_from (suc k) both (places_from (suc k) p)) ≡ at_place place
        go (inl e) ih = ap (λ (t : Bool). cond t (at_place k) (lowest_from (suc k) both (places_from (suc k) p))) (ap both e ∙ b) ∙ ap at_place e
        go (inr m) ih = ap (λ (t : Bool). cond t (at_place k) (lowest_from (suc k) both (places_from (suc k) p))) (none k m) ∙ ih (omega arith) (omega arith)

module _ (x k p : ℕ) where
  opened : lowest_from k (holds x) (places_from k (suc p)) ≡ cond (holds x k) (at_place k) (lowest_from (suc k) (holds x) (places_from (suc k) p))
  unfolding lowest_from
  opened = refl

  held : holds x k ≡ true → lowest_from k (holds x) (places_from k (suc p)) ≡ at_place k
  held h = opened ∙ ap (λ (b : Bool). cond b (at_place k) (lowest_from (suc k) (holds x) (places_from (suc k) p))) h

  passed : holds x k ≡ false → lowest_from k (holds x) (places_from k (suc p)) ≡ lowest_from (suc k) (holds x) (places_from (suc k) p)
  passed h = opened ∙ ap (λ (b : Bool). cond b (at_place k) (lowest_from (suc k) (holds x) (places_from (suc k) p))) h

-- 0 holds no place
pub lowest_nowhere : (p x : ℕ) → x ≡ 0 → lowest_in p x ≡ nowhere
unfolding lowest_in lowest_from
lowest_nowhere p x z = from 0 p
  where
    none : (k : ℕ) → holds x k ≡ false
    none k = ap (λ (n : ℕ). eqb (n / 2 ^ k % 2) 1) z ∙ ap (λ (n : ℕ). eqb (n % 2) 1) (zero-div (2 ^ k))

    from : (k p : ℕ) → lowest_from k (holds x) (places_from k p) ≡ nowhere
    from k zero = refl
    from k (suc p) = passed x k p (none k) ∙ from (suc k) p

-- the lowest place that a mask holds is the number of zeros below it
pub lowest_zeros : (p x : ℕ) → 0 < x → x < 2 ^ p → lowest_in p x ≡ at_place (count_trailing_zeros p x)
unfolding lowest_in count_trailing_zeros
lowest_zeros p x h l =
    let z : 0 + count_trailing_zeros p x ≡ count_trailing_zeros p x = omega arith in
    from 0 p x (omega arith) h l ∙ ap at_place z
  where
    -- y is the mask from place k on
    from : (k p y : ℕ) → y ≡ x / 2 ^ k → 0 < y → y < 2 ^ p → lowest_from k (holds x) (places_from k p) ≡ at_place (k + count_trailing_zeros p y)
    from k zero y e h l = absurd (omega arith)
    from k (suc p) y e h l = go (y % 2) refl (from (suc k) p (y / 2) half)
      where
        half : y / 2 ≡ x / 2 ^ suc k
        half = ap (λ (n : ℕ). n / 2) e ∙ div-div-eq-div-mul x (2 ^ k) 2 ∙ ap (λ (n : ℕ). x / n) (sym (pow-suc 2 k))

        bit : (r : ℕ) → y % 2 ≡ r → x / 2 ^ k % 2 ≡ r
        bit r q = ap (λ (n : ℕ). n % 2) (sym e) ∙ q

        go : (r : ℕ) → y % 2 ≡ r → (0 < y / 2 → y / 2 < 2 ^ p → lowest_from (suc k) (holds x) (places_from (suc k) p) ≡ at_place (suc k + count_trailing_zeros p (y / 2)))
            → lowest_from k (holds x) (places_from k (suc p)) ≡ at_place (k + under r (count_trailing_zeros p (y / 2)))
        go zero q ih = passed x k p (ne_eqb _ _ (λ (o : x / 2 ^ k % 2 ≡ 1). omega (arith, bit 0 q))) ∙ ih (omega arith) (omega (arith, pow-suc 2 p)) ∙ ap at_place (omega arith)
        go (suc zero) q ih = held x k p (eq-eqb _ _ (bit 1 q)) ∙ ap at_place (omega arith)
        go (suc (suc r)) q ih = absurd (omega arith)
