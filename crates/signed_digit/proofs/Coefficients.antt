-- The theorems on the listing and the canonical form, at the 32 places of document 01's forms: for every number of magnitude at most
-- 2^31, and so for every 32-bit coefficient, -2^31 and 2^31 - 1 included.
use mathlib.Core.Path.{◌≡◌}
use mathlib.Core.List.{List}
use mathlib.Core.Logic.{◌↔◌}
use Prim.Native.Nat.{suc, ◌≤◌, ◌^◌}
use native.Mathlib.Omega.{arith}
use lib.IntN.{ℤ, nat_abs}
use lib.ListN.{length}
use Rattle.signed_digit.specs.String.{DigitString}
use Rattle.signed_digit.specs.Weight.{weight}
use Rattle.signed_digit.specs.Minimal.{Minimal}
use Rattle.signed_digit.specs.Listing.{Once, StandsIn}
use Rattle.signed_digit.specs.Fibonacci.{fibonacci}
use Rattle.signed_digit.specs.CanonicalForm.{canonical}
use Rattle.signed_digit.specs.Forms.{listing}
use Rattle.signed_digit.specs.Claims.{TheCanonical}
use Rattle.signed_digit.proofs.Canonical.{canonical_weight}
use Rattle.signed_digit.proofs.Fibonacci.{fibonacci_monotone}
use Rattle.signed_digit.proofs.Listing.{listing_stands, listing_count, listing_bound, canonical_form}

-- ---- 32 places
module _ (n : ℤ) (h : nat_abs n ≤ 2 ^ 31) where
  pub stands_32 : (s : DigitString) → StandsIn s (listing 32 n) ↔ Minimal n s
  stands_32 = listing_stands 31 n h

  pub count_32 : (l : List DigitString) → Once l → ((s : DigitString) → StandsIn s l ↔ Minimal n s) → length l ≡ length (listing 32 n)
  count_32 = listing_count 31 n h

  pub canonical_32 : TheCanonical 32 n
  canonical_32 = canonical_form 32 n (omega arith)

  pub weight_32 : weight (canonical 32 n) ≤ 16
  weight_32 = omega (arith, canonical_weight (canonical 32 n) canonical_32.is_canonical, canonical_32.places)

  pub bound_32 : length (listing 32 n) ≤ fibonacci (suc (weight (canonical 32 n)))
  bound_32 = listing_bound 32 n (canonical 32 n) canonical_32.minimal

  pub at_most_1597 : length (listing 32 n) ≤ 1597
  at_most_1597 = omega (arith, bound_32, fibonacci_monotone (suc (weight (canonical 32 n))) 17 (omega (arith, weight_32)))
