-- Building takes no more adders than coefficients whose digits share nothing: one less than their nonzero digits (`no_more_than_digits`). For each odd part
-- there are fewer rows than it has nonzero digits (`steps_light`), and each further tap that has it has a nonzero digit too. Assumes nothing.
use mathlib.Core.Path.{◌≡◌, refl, ap, subst}
use mathlib.Core.Bool.{Bool, true, false, not, cond}
use mathlib.Core.List.{List, [], ◌∷◌}
use Prim.Native.Nat.{ℕ, zero, suc, ◌+◌, ◌-◌, ◌≤◌, ◌<◌, suc-le-suc}
use native.Mathlib.Nat.{le_of_suc-le-suc, not-suc-le-zero}
use native.Mathlib.Omega.{arith}
use lib.Dec.{eqb}
use lib.IntN.{ℤ, pos}
use lib.ListN.{length, get_or}
use Rattle.word.specs.Zero.{is_zero}
use Rattle.word.specs.Bounds.{Coefficient}
use Rattle.word.proofs.Zero.{zero_is}
use Rattle.sequence.specs.Count.{how_many}
use Rattle.signed_digit.specs.Weight.{weight}
use Rattle.signed_digit.specs.CanonicalForm.{canonical_nat, canonical}
use Rattle.coefficient.specs.Parts.{Parts, no_odd_part, parts, sign_of, odd_part_of, shift_of, parts_of}
use Rattle.network.specs.Rows.{first_row_of}
use Rattle.network.specs.Adders.{nonzero_taps_of, adders}
use Rattle.build_steps.specs.Parts.{Part, least_weight_of, comes_before, insert, insert_tap, taken_from, parts_to_build}
use Rattle.build_steps.specs.Steps.{built_rows}
use Rattle.build_steps.specs.TapRows.{built}
use Rattle.build_steps.specs.RowSteps.{row_0}
use Rattle.build_steps.specs.CanBuild.{CanBuild}
use Rattle.build_steps.specs.Digits.{nonzero_digits}
use Rattle.build_steps.proofs.Reduced.{parts_reduced}
use Rattle.build_steps.proofs.PartDigits.{odd_least, part_light}
use Rattle.build_steps.proofs.Steps.{part_weights, steps_light}
use Rattle.build_steps.proofs.Passes.{part_buildable, built_passed}
use Rattle.build_steps.proofs.Adders.{built_adders}

-- ---- one part more, one tap more, all taps: what the parts weigh and how many they are, beside the digits of the taps and how many are nonzero
insert_light : (p : Part) (qs : List Part) → 1 ≤ least_weight_of p.value
    → part_weights (insert p qs) + length qs + 1 ≤ part_weights qs + length (insert p qs) + least_weight_of p.value
unfolding insert part_weights
insert_light p [] h = omega arith
insert_light p (q ∷ qs) h = go (eqb p.value q.value) (comes_before p.value q.value) (insert_light p qs h)
  where
    go : (x y : Bool) → part_weights (insert p qs) + length qs + 1 ≤ part_weights qs + length (insert p qs) + least_weight_of p.value
        → part_weights (cond x (q ∷ qs) (cond y (p ∷ q ∷ qs) (q ∷ insert p qs))) + suc (length qs) + 1
        ≤ part_weights (q ∷ qs) + length (cond x (q ∷ qs) (cond y (p ∷ q ∷ qs) (q ∷ insert p qs))) + least_weight_of p.value
    go true y l = omega arith
    go false true l = omega arith
    go false false l = omega arith

abbrev Light : List Part → List ℤ → List Part → Type 0
Light taken cs grown = part_weights grown + length taken + nonzero_taps_of cs ≤ part_weights taken + length grown + nonzero_digits cs

more_taps : (n : ℤ) (cs : List ℤ) (b : Bool) → is_zero n ≡ b → nonzero_taps_of (n ∷ cs) ≡ cond (not b) 1 0 + nonzero_taps_of cs
unfolding how_many
more_taps n cs b z = ap (λ (x : Bool). cond (not x) 1 0 + nonzero_taps_of cs) z

more_digits : (n : ℤ) (cs : List ℤ) → nonzero_digits (n ∷ cs) ≡ weight (canonical 32 n) + nonzero_digits cs
unfolding nonzero_digits
more_digits n cs = refl

tap_light : (n : ℤ) (cs : List ℤ) (choice : ℕ) (taken grown : List Part) (b : Bool) → is_zero n ≡ b → Coefficient n
    → Light (insert_tap (parts_of n) choice taken) cs grown → Light taken (n ∷ cs) grown
unfolding parts_of insert_tap
tap_light n cs choice taken grown true z c l =
    let e : parts_of n ≡ no_odd_part = rw z in
    let m : Light taken cs grown = subst (λ (x : Parts). Light (insert_tap x choice taken) cs grown) e l in
    omega (arith, m, more_taps n cs true z, more_digits n cs)
tap_light n cs choice taken grown false z c l =
    let v = odd_part_of n in
    let e : parts_of n ≡ parts (sign_of n) v (shift_of n) = rw z in
    let r = parts_reduced n (sign_of n) v (shift_of n) c e in
    let p : Part = record { value = v; choice = choice } in
    let m : Light (insert p taken) cs grown = subst (λ (x : Parts). Light (insert_tap x choice taken) cs grown) e l in
    omega (arith, m, more_taps n cs false z, more_digits n cs, insert_light p taken (odd_least v r.odd), part_light (sign_of n) v (shift_of n) n c r)

all_light : (taken : List Part) (cs : List ℤ) (ks : List ℕ) → length cs ≤ length ks → ((i : ℕ) → i < length cs → Coefficient (get_or cs i (pos 0)))
    → Light taken cs (taken_from taken cs ks)
unfolding taken_from nonzero_digits how_many
all_light taken [] ks l c = omega arith
all_light taken (n ∷ cs) [] l c = absurd (not-suc-le-zero l)
all_light taken (n ∷ cs) (k ∷ ks) l c =
    let middle = insert_tap (parts_of n) k taken in
    tap_light n cs k taken (taken_from middle cs ks) (is_zero n) refl (c 0 (omega arith))
    (all_light middle cs ks (le_of_suc-le-suc l) (λ i h. c (suc i) (suc-le-suc h)))

-- zeros have no digits
zero_weighs : (n : ℤ) → is_zero n ≡ true → weight (canonical 32 n) ≡ 0
unfolding canonical_nat
zero_weighs n z = ap (λ (x : ℤ). weight (canonical 32 x)) (zero_is n z)

no_digits : (cs : List ℤ) → nonzero_taps_of cs ≡ 0 → nonzero_digits cs ≡ 0
unfolding nonzero_digits
no_digits [] e = refl
no_digits (n ∷ cs) e = go (is_zero n) refl (no_digits cs)
  where
    go : (b : Bool) → is_zero n ≡ b → (nonzero_taps_of cs ≡ 0 → nonzero_digits cs ≡ 0) → nonzero_digits (n ∷ cs) ≡ 0
    go true z h = omega (arith, zero_weighs n z, more_digits n cs, h (omega (arith, e, more_taps n cs true z)))
    go false z h = absurd (omega (arith, e, more_taps n cs false z))

-- ---- the theorem
fewer_rows : (cs : List ℤ) (ks : List ℕ) → CanBuild cs ks → length (built cs ks).rows + length (parts_to_build cs ks) ≤ 1 + part_weights (parts_to_build cs ks)
unfolding built built_rows
fewer_rows cs ks c = steps_light (first_row_of ∷ []) (parts_to_build cs ks) row_0 (part_buildable cs ks c)

by_count : (cs : List ℤ) (ks : List ℕ) → CanBuild cs ks → (m : ℕ) → nonzero_taps_of cs ≡ m → adders (built cs ks) ≤ nonzero_digits cs - 1
unfolding part_weights
by_count cs ks c zero e = omega (arith, e, no_digits cs e, built_adders cs ks c, fewer_rows cs ks c, all_light [] cs ks c.enough c.bounds)
by_count cs ks c (suc m) e =
    omega (arith, e, (built_passed cs ks c).rows_from, built_adders cs ks c, fewer_rows cs ks c, all_light [] cs ks c.enough c.bounds)

pub no_more_than_digits : (cs : List ℤ) (ks : List ℕ) → CanBuild cs ks → adders (built cs ks) ≤ nonzero_digits cs - 1
no_more_than_digits cs ks c = by_count cs ks c (nonzero_taps_of cs) refl
