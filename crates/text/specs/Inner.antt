-- What a writer into a lent area gives, and the most bytes of a number. Definitions only.
use Rattle.std.specs.Prelude.{◌≡◌, List, [], ◌∷◌, ℕ, ◌+◌, ◌/◌, ◌%◌, ◌≤◌, length}
use Rattle.std.proofs.lemmas.List.Edits.{sets}
use Rattle.text.specs.declared.Writer.{Writer}

-- the writer u wrote these bytes, no more than `most` of them, past those it had written, and is now v: the area is otherwise as it was
pub record Wrote (u : Writer) (bytes : List ℕ) (most : ℕ) (v : Writer) : Type 0 where
  pub same_area : v.area.ghost_name ≡ u.area.ghost_name
  pub same_length : length v.area.now ≡ length u.area.now
  pub next : v.at ≡ u.at + length bytes
  pub text : v.area.now ≡ sets u.area.now u.at bytes
  pub within : v.at ≤ u.at + most

-- the same, where the area may have room for just these bytes
abbrev pub WroteAll : Writer → List ℕ → Writer → Type 0
WroteAll u bytes v = Wrote u bytes (length bytes) v

-- the area l got these bytes from index `at` on, and is otherwise as it was: it is now e, and r is the index past them
pub record Stored (l : List ℕ) (at : ℕ) (bytes : List ℕ) (e : List ℕ) (r : ℕ) : Type 0 where
  pub next : r ≡ at + length bytes
  pub text : e ≡ sets l at bytes

-- two digits: n in decimal, after a zero where it is below 10
abbrev pub pair_of : ℕ → List ℕ
pair_of n = (48 + n / 10) ∷ (48 + n % 10) ∷ []

-- the most digits of a number of 32 bits, and the most bytes of a signed one
abbrev pub number_bytes : ℕ
number_bytes = 10

abbrev pub integer_bytes : ℕ
integer_bytes = 1 + number_bytes
