-- The lines, as the writers make them. Assumes nothing.
use borrow.Author.Tests.{eq-eqb, ne_eqb}
use mathlib.Core.Path.{◌≡◌, refl}
use mathlib.Core.List.{List, [], ◌∷◌, ◌++◌, append_assoc}
use Prim.Native.Nat.{ℕ, zero, suc, ◌+◌}
use lib.IntN.{ℤ}
use lib.Seq.{append_snoc}
use Rattle.network.specs.declared.Row.{Row}
use Rattle.network.specs.declared.TapRow.{TapRow}
use Rattle.network.specs.Rows.{none}
use Rattle.text.specs.Ascii.{ascii}
use Rattle.text.specs.Numbers.{decimal_by, decimal, integer}
use Rattle.text.specs.declared.Writer.{Writer}
use Rattle.text.specs.Inner.{Wrote}
use Rattle.text.proofs.Puts.{then}
use Rattle.sheet_lines.specs.Lines.{line, columns, node_line_of, later_line_of, tap_line_text, empty_tap_line_of, product_line_of, total_line_of, refused_line_of}
use Rattle.sheet_lines.specs.Inner.{to_sign, to_value, after_value}

-- ---- parts of a line
-- a field after what ends in a comma
pub comma : (a : List ℕ) {u v w : Writer} {m n : ℕ} {b : List ℕ} → Wrote u (a ++ (44 ∷ [])) m v → Wrote v b n w → Wrote u (a ++ (44 ∷ b)) (m + n) w
comma a p q = rw append_snoc at (then p q)

-- the fields up to the sign, and what comes after them
to_sign_append : (i left shift sign : ℕ) (b : List ℕ) → to_sign i left shift sign [] ++ b ≡ to_sign i left shift sign b
to_sign_append i left shift sign b = simp append_assoc

pub after_sign : {u v w : Writer} {m n : ℕ} {b : List ℕ} (i left shift sign : ℕ) → Wrote u (to_sign i left shift sign []) m v → Wrote v b n w
    → Wrote u (to_sign i left shift sign b) (m + n) w
after_sign {b = b} i left shift sign p q = rw (to_sign_append i left shift sign b) at (then p q)

-- the empty fields up to the value, and what comes after them
to_value_append : (i : ℕ) (b : List ℕ) → to_value i [] ++ b ≡ to_value i b
to_value_append i b = simp append_assoc

pub value_after : {u v w : Writer} {m n : ℕ} {b : List ℕ} (i : ℕ) → Wrote u (to_value i []) m v → Wrote v b n w → Wrote u (to_value i b) (m + n) w
value_after {b = b} i p q = rw (to_value_append i b) at (then p q)

-- ---- the kinds of line
pub node_first : (r : Row) → node_line_of 0 r ≡ ascii "node," ++ to_value 0 (decimal r.value ++ after_value)
unfolding node_line_of columns line
node_first r = refl

pub later_parts : (i : ℕ) (r : Row) → later_line_of i r ≡ ascii "node," ++ to_sign i r.left r.shift r.sign (decimal r.right ++ (44 ∷ (decimal r.value ++ after_value)))
unfolding columns line
later_parts i r = refl

pub node_later : (i : ℕ) (r : Row) → (i ≡ 0 → ⊥) → node_line_of i r ≡ later_line_of i r
unfolding node_line_of
node_later zero r h = absurd (h refl)
node_later (suc k) r h = refl

pub tap_none : (i : ℕ) (t : TapRow) (v : ℤ) → t.sign ≡ none → tap_line_text i t v ≡ empty_tap_line_of i
unfolding tap_line_text
tap_none i t v h = rw (eq-eqb t.sign none h)

pub tap_some : (i : ℕ) (t : TapRow) (v : ℤ) → (t.sign ≡ none → ⊥) → tap_line_text i t v ≡ product_line_of i t v
unfolding tap_line_text
tap_some i t v h = rw (ne_eqb t.sign none h)

pub empty_parts : (i : ℕ) → empty_tap_line_of i ≡ ascii "tap," ++ to_value i (48 ∷ after_value)
unfolding columns line decimal decimal_by
empty_parts i = refl

pub product_parts : (i : ℕ) (t : TapRow) (v : ℤ) → product_line_of i t v ≡ ascii "tap," ++ to_sign i t.row t.shift t.sign (44 ∷ (integer v ++ after_value))
unfolding columns line
product_parts i t v = refl

pub total_parts : (total : ℕ) → total_line_of total ≡ ascii "total," ++ to_value total after_value
unfolding total_line_of columns line
total_parts total = refl

pub refused_parts : (number place : ℕ) → refused_line_of number place ≡ ascii "refused," ++ to_value number (decimal place ++ after_value)
unfolding refused_line_of columns line
refused_parts number place = refl
