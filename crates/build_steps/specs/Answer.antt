-- What building answers. Document 01, "Turned down". Definitions only.
use Rattle.std.specs.Prelude.{Bool, not, ◌||◌, List, [], ◌∷◌, ℕ, eqb, ltb, ℤ, pos, length}
use Rattle.refusal.specs.Answer.{Answer, given, refused, refuse_if, refuse_at, Place, lowest}
use Rattle.signed_digit.specs.Forms.{listing}
use Rattle.coefficient.specs.Parts.{Parts, no_odd_part, parts, parts_of}
use Rattle.network.specs.Rows.{Network}
use Rattle.network.specs.Check.{short_tables}
use Rattle.build_steps.specs.TapRows.{built}

-- a tap and its choice
pub record Choice : Type 0 where
  pub tap : Parts
  pub number : ℕ

unfoldable pub choices_of : List ℤ → List ℕ → List Choice
choices_of [] numbers = []
choices_of (n ∷ ns) [] = []
choices_of (n ∷ ns) (k ∷ ks) = record { tap = parts_of n; number = k } ∷ choices_of ns ks

-- "choice not below the number of forms"; "for a zero tap it must be 0"
unfoldable pub no_such_form : Parts → ℕ → Bool
no_such_form no_odd_part k = not (eqb k 0)
no_such_form (parts sign odd_part shift) k = not (ltb k (length (listing 32 (pos odd_part))))

-- check 9: the lowest tap without the form that is chosen for it
abbrev pub missing_form : List ℤ → List ℕ → Place
missing_form coefficients choices = lowest (λ (c : Choice). no_such_form c.tap c.number) (choices_of coefficients choices)

-- 1, 2, 3 (choices one per tap, rows, tap rows) and 9, in the table's order
unfoldable pub build_answer : List ℤ → List ℕ → List ℕ → List ℕ → Answer Network
build_answer coefficients choices rows taps =
    refuse_if (eqb (length coefficients) 0) 1
    (refuse_if (ltb 256 (length coefficients)) 2
    (refuse_if (ltb (length choices) (length coefficients) || short_tables rows taps) 3
    (refuse_at (missing_form coefficients choices) 9
    (given (built coefficients choices)))))

-- what an entry returns of a network: the number of its rows
abbrev pub row_count_of : Answer Network → Answer ℕ
row_count_of (given net) = given (length net.rows)
row_count_of (refused number place) = refused number place
