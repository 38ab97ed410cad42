-- What is claimed of a check and of the lowest place that breaks a rule. proofs/Claims.antt proves it. Definitions only.
use Rattle.std.specs.Prelude.{ℕ, ◌<◌, ◌≡◌, ◌↔◌, Bool, true, false, List, length, get_or}
use Rattle.refusal.specs.Answer.{Answer, refused, refuse_if, Place, nowhere, at_place, refuse_at, lowest}

-- "the lowest place that breaks it": the element at place i does, and none before it; a stands past the end of the list
pub record Lowest {A : Type 0} (a : A) (breaks : A → Bool) (xs : List A) (i : ℕ) : Type 0 where
  pub within : i < length xs
  pub holds : breaks (get_or xs i a) ≡ true
  pub not_before : (k : ℕ) → k < i → breaks (get_or xs k a) ≡ false

-- for results and elements of any type
pub record RefusalClaims (A : Type 0) : Type 0 where
  -- "The first that applies is returned": a check that applies, whatever comes after it
  pub check_first : (applies : Bool) (number : ℕ) (rest : Answer A) → applies ≡ true → refuse_if applies number rest ≡ refused number 0
  pub place_first : (p : Place) (number i : ℕ) (rest : Answer A) → p ≡ at_place i → refuse_at p number rest ≡ refused number i
  -- one that does not apply leaves the answer to those after it
  pub check_next : (applies : Bool) (number : ℕ) (rest : Answer A) → applies ≡ false → refuse_if applies number rest ≡ rest
  pub place_next : (p : Place) (number : ℕ) (rest : Answer A) → p ≡ nowhere → refuse_at p number rest ≡ rest
  -- "the lowest place that breaks it"
  pub lowest_place : (a : A) (breaks : A → Bool) (xs : List A) (i : ℕ) → lowest breaks xs ≡ at_place i ↔ Lowest a breaks xs i
  -- there is none exactly where nothing breaks the rule
  pub no_place : (a : A) (breaks : A → Bool) (xs : List A) → lowest breaks xs ≡ nowhere ↔ ((i : ℕ) → i < length xs → breaks (get_or xs i a) ≡ false)
