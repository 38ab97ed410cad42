-- The figures on forms that document 01, "Bench figures", marks [P], and the tables that hold the forms of 45. Statements only; proofs/Figures.antt
-- proves `Figures`.
use Rattle.std.specs.Prelude.{◌≡◌, List, [], ◌∷◌, ℕ, ◌+◌, ◌-◌, ◌^◌, ◌≤◌, pos, neg_ℤ, length, drop, replicate}
use Rattle.refusal.specs.Answer.{given}
use Rattle.signed_digit.specs.String.{DigitString}
use Rattle.signed_digit.specs.Masks.{from_masks}
use Rattle.signed_digit.specs.Forms.{listing}
use Rattle.signed_digit.specs.Listed.{FormsListed, FormsCounted}

-- the form with 1 at the places of the first number and -1 at those of the second: 64-16-4+1 is form (64 + 1) (16 + 4)
abbrev pub form : ℕ → ℕ → DigitString
form plus minus = from_masks 32 plus minus

-- a plus table and a minus table whose front holds the forms of 45
abbrev pub plus45 : List ℕ → List ℕ
plus45 rest = (64 + 1) ∷ 64 ∷ (32 + 16 + 1) ∷ (32 + 16) ∷ (32 + 8 + 4 + 1) ∷ rest

abbrev pub minus45 : List ℕ → List ℕ
minus45 rest = (16 + 4) ∷ (16 + 2 + 1) ∷ 4 ∷ (2 + 1) ∷ 0 ∷ rest

pub record Figures : Type 0 where
  pub of_45 : listing 32 (pos 45) ≡
      form (64 + 1) (16 + 4) ∷ form 64 (16 + 2 + 1) ∷ form (32 + 16 + 1) 4 ∷ form (32 + 16) (2 + 1) ∷ form (32 + 8 + 4 + 1) 0 ∷ []
  pub of_180 : length (listing 32 (pos 180)) ≡ 5
  pub of_minus_45 : length (listing 32 (neg_ℤ (pos 45))) ≡ 5
  pub of_3 : listing 32 (pos 3) ≡ form 4 1 ∷ form (2 + 1) 0 ∷ []
  pub of_11 : listing 32 (pos 11) ≡ form 16 (4 + 1) ∷ form (8 + 4) 1 ∷ form (8 + 2 + 1) 0 ∷ []
  pub of_13 : listing 32 (pos 13) ≡ form (16 + 1) 4 ∷ form 16 (2 + 1) ∷ form (8 + 4 + 1) 0 ∷ []
  pub of_0 : listing 32 (pos 0) ≡ form 0 0 ∷ []
  pub of_1 : listing 32 (pos 1) ≡ form 1 0 ∷ []
  pub of_greatest : listing 32 (pos (2 ^ 31 - 1)) ≡ form (2 ^ 31) 1 ∷ []
  pub of_least : listing 32 (neg_ℤ (pos (2 ^ 31))) ≡ form 0 (2 ^ 31) ∷ []
  -- 45 as the entries give it: its tables, whatever they held before, tables of 1,597 zeros, and its count
  pub tables_45 : (plus minus : List ℕ) → 1597 ≤ length plus → 1597 ≤ length minus
      → FormsListed (pos 45) plus minus (given 5) (plus45 (drop 5 plus)) (minus45 (drop 5 minus))
  pub listed_45 : FormsListed (pos 45) (replicate 1597 0) (replicate 1597 0) (given 5) (plus45 (replicate 1592 0)) (minus45 (replicate 1592 0))
  pub counted_45 : FormsCounted (pos 45) 5
