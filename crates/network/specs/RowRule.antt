-- The row rule. Document 01, "The network". `RowRule` says it in the document's words; `keeps_row_rule_of` computes it, and `row_rule` and `row_kept` of
-- specs/Claims.antt claim that the two say the same. Definitions only.
use Rattle.std.specs.Prelude.{ℕ, zero, suc, ◌*◌, ◌-◌, ◌%◌, ◌^◌, ◌≤◌, ◌<◌, ◌≡◌, Bool, false, cond, ◌&&◌, ◌||◌, List, T, eqb, leb, ltb, ℤ, pos, negsuc, ◌+ℤ◌, ◌-ℤ◌}
use Rattle.network.specs.declared.Row.{Row}
use Rattle.network.specs.Rows.{plus, minus, reversed, row_in}

-- "a sign: `+` is 2^s·left + right, `-` is 2^s·left - right, `r` is right - 2^s·left", a being 2^s·left and b right
abbrev pub combined : ℕ → ℤ → ℤ → ℤ
combined sign a b = cond (eqb sign plus) (a +ℤ b) (cond (eqb sign minus) (a -ℤ b) (b -ℤ a))

-- the sign of a row is one of the three
abbrev pub is_row_sign : ℕ → Bool
is_row_sign sign = eqb sign plus || eqb sign minus || eqb sign reversed

-- 2^s·left, left standing for the value of the row that is named
abbrev pub lifted : ℕ → ℕ → ℕ
lifted s left = 2 ^ s * left

-- ---- in the document's words

-- "Row 0 is 0, 0, 0, `+`, 1"
pub record FirstRow (r : Row) : Type 0 where
  pub left : r.left ≡ 0
  pub right : r.right ≡ 0
  pub shift : r.shift ≡ 0
  pub sign : r.sign ≡ plus
  pub value : r.value ≡ 1

-- r as row i, a later one
pub record LaterRow (rows : List Row) (i : ℕ) (r : Row) : Type 0 where
  -- "A later row names two earlier rows (left and right, possibly the same)"
  pub left : r.left < i
  pub right : r.right < i
  -- "a shift s from 1 to 31"
  pub shift_from : 1 ≤ r.shift
  pub shift_to : r.shift ≤ 31
  -- "and a sign"
  pub sign : T (is_row_sign r.sign)
  -- "A stored value other than the one worked out breaks the row rule"
  pub worked : pos r.value ≡ combined r.sign (pos (lifted r.shift (row_in rows r.left).value)) (pos (row_in rows r.right).value)
  -- "A row's value is odd, from 1 to 2^31 - 1"
  pub odd : r.value % 2 ≡ 1
  pub value_from : 1 ≤ r.value
  pub value_to : r.value ≤ 2 ^ 31 - 1
  -- "and 2^s·left is at most 2^32"
  pub bounded : lifted r.shift (row_in rows r.left).value ≤ 2 ^ 32

-- the row rule for row i of a network
abbrev pub RowRule : List Row → ℕ → Type 0
RowRule rows zero = FirstRow (row_in rows 0)
RowRule rows (suc i) = LaterRow rows (suc i) (row_in rows (suc i))

-- ---- computed

abbrev pub is_first_of : Row → Bool
is_first_of r = eqb r.left 0 && eqb r.right 0 && eqb r.shift 0 && eqb r.sign plus && eqb r.value 1

abbrev pub shift_within : ℕ → Bool
shift_within s = leb 1 s && leb s 31

-- z is the natural number n
abbrev pub is_natural : ℤ → ℕ → Bool
is_natural (pos m) n = eqb m n
is_natural (negsuc m) n = false

-- the value v is the one that the sign gives for a and b
abbrev pub is_worked_of : ℕ → ℕ → ℕ → ℕ → Bool
is_worked_of sign a b v = is_row_sign sign && is_natural (combined sign (pos a) (pos b)) v

abbrev pub value_within : ℕ → Bool
value_within v = eqb (v % 2) 1 && leb 1 v && leb v (2 ^ 31 - 1)

-- shift, sign and value of a later row, left and right being the values of the rows that it names
abbrev pub is_sum_of : Row → ℕ → ℕ → Bool
is_sum_of r left right =
    shift_within r.shift && is_worked_of r.sign (lifted r.shift left) right r.value && value_within r.value && leb (lifted r.shift left) (2 ^ 32)

abbrev pub is_later : List Row → ℕ → Row → Bool
is_later rows i r = ltb r.left i && ltb r.right i && is_sum_of r (row_in rows r.left).value (row_in rows r.right).value

-- row i of a network keeps the row rule
unfoldable pub keeps_row_rule_of : List Row → ℕ → Bool
keeps_row_rule_of rows zero = is_first_of (row_in rows 0)
keeps_row_rule_of rows (suc i) = is_later rows (suc i) (row_in rows (suc i))
