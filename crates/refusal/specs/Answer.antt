-- What an entry answers and what it leaves in lent memory, as document 01, "Turned down", has it: for the contract of every entry that turns something down. Definitions only.
use Rattle.std.specs.Prelude.{ℕ, suc, Bool, true, false, cond, List, [], ◌∷◌, ◌++◌, length, drop, Option, Some, None, Result, Ok, Err}
use Rattle.refusal.specs.declared.Refusal.{Refusal}
use Rattle.refusal.specs.Table.{number_of, place_of}

-- an entry's result, or the number and the place of the table's row that turned the input down
pub data Answer (A : Type 0) : Type 0 where
  given : A → Answer A
  refused : ℕ → ℕ → Answer A

-- the answer that a case of `Refusal` stands for
abbrev pub turned_down_of : {A : Type 0} → Refusal → Answer A
turned_down_of r = refused (number_of r) (place_of r)

-- what an entry's `Result` says: its result, or the table's number and place
abbrev pub answer_of : {A : Type 0} → Result A Refusal → Answer A
answer_of (Ok a) = given a
answer_of (Err r) = turned_down_of r

-- "Checks run down the table": number where the check applies, at place 0, else what comes after it
abbrev pub refuse_if : {A : Type 0} → Bool → ℕ → Answer A → Answer A
refuse_if true number rest = refused number 0
refuse_if false number rest = rest

-- what comes after an answer that is given; a refusal stays
abbrev pub and_then : {A B : Type 0} → Answer A → (A → Answer B) → Answer B
and_then (given a) next = next a
and_then (refused number place) next = refused number place

-- where a rule is broken, if it is
pub data Place : Type 0 where
  nowhere : Place
  at_place : ℕ → Place

-- the place that an `Option` of an index names
abbrev pub found_at : Option ℕ → Place
found_at (Some k) = at_place k
found_at None = nowhere

-- the same check where its place is not always 0
abbrev pub refuse_at : {A : Type 0} → Place → ℕ → Answer A → Answer A
refuse_at nowhere number rest = rest
refuse_at (at_place k) number rest = refused number k

-- "the lowest place that breaks it", the first element's place being k
unfoldable pub lowest_from : {A : Type 0} → ℕ → (A → Bool) → List A → Place
lowest_from k breaks [] = nowhere
lowest_from k breaks (x ∷ xs) = cond (breaks x) (at_place k) (lowest_from (suc k) breaks xs)

-- "Places count from 0"
abbrev pub lowest : {A : Type 0} → (A → Bool) → List A → Place
lowest breaks xs = lowest_from 0 breaks xs

-- a place, or n where there is none
abbrev pub place_or : ℕ → Place → ℕ
place_or n nowhere = n
place_or n (at_place k) = k

-- a lent table afterwards: the results, "elements past those that the result fills are untouched"; "unchanged" on a refusal
abbrev pub filled : {A B : Type 0} → Answer A → List B → List B → List B
filled (given a) results old = results ++ drop (length results) old
filled (refused number place) results old = old

-- a lent number afterwards: a value of the result, or unchanged on a refusal
abbrev pub stored : {A B : Type 0} → Answer A → (A → B) → B → B
stored (given a) value old = value a
stored (refused number place) value old = old
