-- `joining_claims`: the claims of specs/Joining.antt. Assumes nothing.
use mathlib.Core.Path.{◌≡◌, refl, sym, ap, subst, ◌∙◌}
use mathlib.Core.Bool.{Bool, true, false, not, cond}
use mathlib.Core.List.{List, map}
use Prim.Native.Nat.{ℕ, zero, suc, ◌+◌, ◌-◌, ◌≤◌, ◌<◌}
use native.Mathlib.Nat.{le_refl}
use native.Mathlib.Omega.{arith}
use lib.IntN.{ℤ, pos, neg_ℤ, ◌+ℤ◌, ◌*ℤ◌, zero-*ℤ, +ℤ_idl, +ℤ_idr}
use lib.ListN.{length, get_or, take, length-map, get_or-map}
use lib.Seq.{take_all}
use Rattle.word.specs.Zero.{is_zero}
use Rattle.word.proofs.Zero.{zero_is}
use Rattle.sequence.specs.Sum.{sum_below}
use Rattle.sequence.specs.Count.{how_many}
use Rattle.sequence.proofs.Count.{count_next}
use Rattle.run_convolution.specs.Sums.{before, output_sum}
use Rattle.network.specs.Rows.{Network}
use Rattle.network.specs.Coefficients.{coefficient_of}
use Rattle.network.specs.Adders.{is_nonzero, nonzero_taps_of, row_adders, joining_adders_of, adders}
use Rattle.network.specs.Accepted.{KeepsRules}
use Rattle.network.specs.Evaluation.{tap_results}
use Rattle.network.specs.Figures.{sheet_coefficients}
use Rattle.network.proofs.Adders.{alike_at}
use Rattle.network.proofs.Evaluation.{taps_multiply}
use Rattle.guarantee.specs.Sheet.{sheet_samples}
use Rattle.guarantee.specs.Joining.{Joined, nothing, sum_of, joined_value, additions, join, joined_below, joined_products, joined_results, JoiningClaims}

-- ---- m products were joined, and z is their sum
abbrev Holds : Joined → ℤ → ℕ → Type 0
Holds nothing z m = (z ≡ pos 0) × (m ≡ 0)
Holds (sum_of v n) z m = (v ≡ z) × (m ≡ n + 1)

one_more : (s : Joined) (z p : ℤ) (m : ℕ) → Holds s z m → Holds (join s p) (z +ℤ p) (m + 1)
one_more nothing z p m e = (sym (ap (λ (y : ℤ). y +ℤ p) e.0 ∙ +ℤ_idl p), omega (arith, e.1))
one_more (sum_of v n) z p m e = (ap (λ (y : ℤ). y +ℤ p) e.0, omega (arith, e.1))

value_held : (s : Joined) (z : ℤ) (m : ℕ) → Holds s z m → joined_value s ≡ z
value_held nothing z m e = sym e.0
value_held (sum_of v n) z m e = e.0

additions_held : (s : Joined) (z : ℤ) (m : ℕ) → Holds s z m → additions s ≡ m - 1
additions_held nothing z m e = omega (arith, e.1)
additions_held (sum_of v n) z m e = omega (arith, e.1)

-- ---- tap by tap
module _ (h xs : List ℤ) where
  abbrev product : ℕ → ℤ
  product k = get_or h k (pos 0) *ℤ before xs k

  abbrev skipped : ℕ → Bool
  skipped k = is_zero (get_or h k (pos 0))

  next : (n : ℕ) (b : Bool) → skipped n ≡ b → (s : Joined) (z : ℤ) (m : ℕ) → Holds s z m → Holds (cond b s (join s (product n))) (z +ℤ product n) (m + cond (not b) 1 0)
  next n true e s z m w =
      let none : product n ≡ pos 0 = ap (λ (y : ℤ). y *ℤ before xs n) (zero_is (get_or h n (pos 0)) e) ∙ zero-*ℤ (before xs n) in
      let same : m ≡ m + 0 = omega arith in
      subst (λ (k : ℕ). Holds s (z +ℤ product n) k) same (subst (λ (y : ℤ). Holds s y m) (sym (ap (λ (y : ℤ). z +ℤ y) none ∙ +ℤ_idr z)) w)
  next n false e s z m w = one_more s z (product n) m w

  held : (n : ℕ) → n ≤ length h → Holds (joined_below n skipped product) (sum_below n product) (nonzero_taps_of (take n h))
  unfolding joined_below how_many
  held zero l = (refl, refl)
  held (suc n) l =
      subst (λ (m : ℕ). Holds (joined_below (suc n) skipped product) (sum_below (suc n) product) m) (sym (count_next is_nonzero h n (pos 0) l))
      (next n (skipped n) refl (joined_below n skipped product) (sum_below n product) (nonzero_taps_of (take n h)) (held n (omega arith)))

  whole : Holds (joined_products h xs) (output_sum h xs) (nonzero_taps_of h)
  unfolding output_sum
  whole = subst (λ (l : List ℤ). Holds (joined_products h xs) (sum_below (length h) product) (nonzero_taps_of l)) (take_all (length h) h (le_refl (length h))) (held (length h) (le_refl (length h)))

-- ---- the same taps are skipped, and the others give the same
same_below : (n : ℕ) (a b : ℕ → Bool) (f g : ℕ → ℤ) → ((k : ℕ) → k < n → a k ≡ b k) → ((k : ℕ) → k < n → f k ≡ g k) → joined_below n a f ≡ joined_below n b g
unfolding joined_below
same_below zero a b f g d e = refl
same_below (suc n) a b f g d e =
    rw (d n (omega arith), e n (omega arith), same_below n a b f g (λ k l. d k (omega arith)) (λ k l. e k (omega arith)))

by_tap_rows : (net : Network) (h : List ℤ) → KeepsRules net h → (xs : List ℤ) → joined_results net xs ≡ joined_products h xs
by_tap_rows net h p xs =
    let size : length net.taps ≡ length h = sym (ap length p.result ∙ length-map net.taps (coefficient_of net.rows)) in
    same_below (length net.taps) _ _ _ _ (λ k l. sym (alike_at net h p k l)) (λ k l. result k (before xs k))
    ∙ ap (λ (n : ℕ). joined_below n (skipped h xs) (product h xs)) size
  where
    result : (k : ℕ) (x : ℤ) → get_or (tap_results net x) k (pos 0) ≡ get_or h k (pos 0) *ℤ x
    result k x =
        ap (λ (l : List ℤ). get_or l k (pos 0)) (taps_multiply net h p x)
        ∙ ap (get_or (map (λ (c : ℤ). c *ℤ x) h) k) (sym (zero-*ℤ x))
        ∙ get_or-map (λ (c : ℤ). c *ℤ x) h k (pos 0)

counted : (h xs : List ℤ) → additions (joined_products h xs) ≡ joining_adders_of h
counted h xs = additions_held (joined_products h xs) (output_sum h xs) (nonzero_taps_of h) (whole h xs)

whole_filter : (net : Network) (h : List ℤ) → KeepsRules net h → (xs : List ℤ) → adders net ≡ row_adders net + additions (joined_results net xs)
whole_filter net h p xs =
    ap (λ (n : ℕ). row_adders net + n) (ap joining_adders_of (sym p.result) ∙ sym (counted h xs) ∙ ap additions (sym (by_tap_rows net h p xs)))

sheet_joined : joined_products sheet_coefficients sheet_samples ≡ sum_of (neg_ℤ (pos 98271)) 2
unfolding joined_below
sheet_joined = refl

pub joining_claims : JoiningClaims
joining_claims = record {
  output = λ h xs. value_held (joined_products h xs) (output_sum h xs) (nonzero_taps_of h) (whole h xs);
  counted = counted;
  by_tap_rows = by_tap_rows;
  whole_filter = whole_filter;
  sheet_joined = sheet_joined;
}
