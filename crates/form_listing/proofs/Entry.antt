-- What `minimal_forms` leaves where it refuses, and where it lists. Assumes nothing.
use Rattle.std.proofs.Common.{◌≡◌, ℕ, ◌≤◌, List, ◌++◌, map, length, drop, ℤ, sym, ap, ◌∙◌}
use lib.ListN.{length-map}
use Rattle.refusal.specs.Answer.{Answer, given, refused, filled}
use Rattle.signed_digit.specs.String.{DigitString}
use Rattle.signed_digit.specs.Forms.{listing}
use Rattle.signed_digit.specs.Listed.{form_count_of}
use Rattle.signed_digit.proofs.FormCount.{long_enough}

-- a table that a refusal leaves
pub untouched : {A B : Type 0} (a : Answer A) (number place : ℕ) (results old : List B) → a ≡ refused number place → old ≡ filled a results old
untouched {A} a number place results old e = sym (ap (λ (x : Answer A). filled x results old) e)

-- ---- what the lister leaves is the answer's
module _ (n : ℤ) (P M : List ℕ) (hp : 1597 ≤ length P) (hm : 1597 ≤ length M) where
  pub answered : (r : ℕ) → r ≡ length (listing 32 n) → given r ≡ form_count_of n (length P) (length M)
  answered r e = ap given e ∙ sym (long_enough n (length P) (length M) hp hm)

  pub left : (f : DigitString → ℕ) (t new : List ℕ) → new ≡ map f (listing 32 n) ++ drop (length (listing 32 n)) t
      → new ≡ filled (form_count_of n (length P) (length M)) (map f (listing 32 n)) t
  left f t new e =
      e
      ∙ ap (λ (i : ℕ). map f (listing 32 n) ++ drop i t) (sym (length-map (listing 32 n) f))
      ∙ sym (ap (λ (a : Answer ℕ). filled a (map f (listing 32 n)) t) (long_enough n (length P) (length M) hp hm))
