-- How long a network's text can get. Assumes nothing.
use mathlib.Core.Path.{◌≡◌, refl}
use mathlib.Core.Bool.{Bool, true, false}
use mathlib.Core.Logic.{⊎_elim}
use mathlib.Core.List.{List, [], ◌∷◌, ◌++◌}
use Prim.Native.Nat.{ℕ, suc, ◌+◌, ◌*◌, ◌≤◌, ◌<◌}
use native.Mathlib.Omega.{arith}
use lib.Dec.{eqb}
use lib.IntN.{ℤ}
use lib.ListN.{length, length-append}
use Rattle.word.proofs.Order.{lt_or_le}
use Rattle.network.specs.declared.Row.{Row}
use Rattle.network.specs.declared.TapRow.{TapRow}
use Rattle.network.specs.Rows.{Network, plus, minus, row_in, tap_row_in}
use Rattle.network.specs.RowRule.{RowRule, LaterRow}
use Rattle.network.specs.TapRowRule.{TapRowRule, is_empty_lem, is_product_lem}
use Rattle.network.specs.Accepted.{KeepsRules}
use Rattle.text.specs.Numbers.{decimal}
use Rattle.text.specs.Lines.{lines_from}
use Rattle.text.proofs.Decimals.{decimal_le}
use Rattle.verilog_text.specs.Text.{row_assign, tap_right, tap_assign, verilog_text_of}
use Rattle.verilog_text.specs.Written.{most_bytes}
use Rattle.verilog_text.proofs.Lengths.{digits_of, digits_below_of, digits_below_lem, later_length, text_length}

-- a number up to j has no more digits than j
digits_up_to : (l j : ℕ) → l ≤ j → j < 10000 → digits_below_of j + digits_of l ≤ digits_below_of (suc j)
unfolding digits_below_of
digits_up_to l j h k =
    ⊎_elim (λ a. omega (arith, decimal_le 1 l (omega arith) (omega arith)))
    (λ b. ⊎_elim (λ a. omega (arith, decimal_le 2 l (omega arith) (omega arith)))
    (λ c. ⊎_elim (λ a. omega (arith, decimal_le 3 l (omega arith) (omega arith)))
    (λ d. omega (arith, decimal_le 4 l (omega arith) (omega arith))) (lt_or_le l 1000)) (lt_or_le l 100)) (lt_or_le l 10)

-- ---- rows

pub record Small (j : ℕ) (r : Row) : Type 0 where
  pub left : r.left ≤ j
  pub right : r.right ≤ j
  pub shift : r.shift ≤ 31

row_step : (j : ℕ) (r : Row) (n e rest : ℕ) {line : ℕ} → r.left ≤ j → r.right ≤ j → r.shift ≤ 31 → suc j < 10000
    → digits_below_of (suc (suc j)) + 2 * digits_below_of (suc j) + rest ≤ digits_below_of (suc e) + 2 * digits_below_of e + 27 * n
    → line ≡ length (row_assign (suc j) r) + rest
    → digits_below_of (suc j) + 2 * digits_below_of j + line ≤ digits_below_of (suc e) + 2 * digits_below_of e + 27 * suc n
row_step j r n e rest a b c l g h =
    omega (
      arith,
      later_length (suc j) r,
      digits_up_to (suc j) (suc j) (omega arith) l,
      digits_up_to r.left j a (omega arith),
      digits_up_to r.right j b (omega arith),
      decimal_le 2 r.shift (omega arith) (omega arith),
    )

rows_room : (j : ℕ) (rs : List Row) (e : ℕ) → e ≡ j + length rs → e < 10000 → ((i : ℕ) → i < length rs → Small (j + i) (row_in rs i))
    → digits_below_of (suc j) + 2 * digits_below_of j + length (lines_from row_assign (suc j) rs) ≤ digits_below_of (suc e) + 2 * digits_below_of e + 27 * length rs
unfolding lines_from
rows_room j [] e q h f = let z : e ≡ j = omega arith in rw z (omega arith)
rows_room j (r ∷ rs) e q h f =
    let w = f 0 (omega arith) in
    let a : r.left ≤ j = omega (arith, w.left) in
    let b : r.right ≤ j = omega (arith, w.right) in
    let n : length (row_assign (suc j) r ++ lines_from row_assign (suc (suc j)) rs) ≡ length (row_assign (suc j) r) + length (lines_from row_assign (suc (suc j)) rs) = length-append (row_assign (suc j) r) (lines_from row_assign (suc (suc j)) rs) in
    row_step j r (length rs) e (length (lines_from row_assign (suc (suc j)) rs)) a b w.shift (omega arith) (rows_room (suc j) rs e (omega arith) h (λ i l. later j i (row_in rs i) (f (suc i) (omega arith)))) n
  where
    later : (j i : ℕ) (r : Row) → Small (j + suc i) r → Small (suc j + i) r
    later j i r w = record { left = omega (arith, w.left); right = omega (arith, w.right); shift = w.shift }

-- ---- taps

tap_right_lem : (t : TapRow) → length (decimal t.row) ≤ 4 → length (decimal t.shift) ≤ 2 → (p q : Bool) → length (tap_right p q t) ≤ 15
tap_right_lem t a b true q = simp length-append (omega arith)
tap_right_lem t a b false true = simp length-append (omega arith)
tap_right_lem t a b false false = omega arith

tap_length : (k : ℕ) (t : TapRow) → t.row < 10000 → t.shift ≤ 31 → length (tap_assign k t) ≤ 28 + length (decimal k)
tap_length k t l m =
    let r = tap_right_lem t (decimal_le 4 t.row (omega arith) (omega arith)) (decimal_le 2 t.shift (omega arith) (omega arith)) (eqb t.sign plus) (eqb t.sign minus) in
    simp length-append (omega arith)

taps_room : (k : ℕ) (ts : List TapRow) (e : ℕ) → e ≡ k + length ts → e ≤ 10000 → ((j : ℕ) → j < length ts → ((tap_row_in ts j).row < 10000) × ((tap_row_in ts j).shift ≤ 31))
    → digits_below_of k + length (lines_from tap_assign k ts) ≤ digits_below_of e + 28 * length ts
unfolding lines_from
taps_room k [] e q h f = let z : e ≡ k = omega arith in rw z (omega arith)
taps_room k (t ∷ ts) e q h f =
    let w = f 0 (omega arith) in
    let n : length (tap_assign k t ++ lines_from tap_assign (suc k) ts) ≡ length (tap_assign k t) + length (lines_from tap_assign (suc k) ts) = length-append (tap_assign k t) (lines_from tap_assign (suc k) ts) in
    let g = tap_length k t w.0 w.1 in
    let d = digits_up_to k k (omega arith) (omega arith) in
    let i = taps_room (suc k) ts e (omega arith) h (λ j l. f (suc j) (omega arith)) in
    omega arith

-- ---- the statement

digits_most : (n : ℕ) → n ≤ 4096 → digits_below_of n ≤ 15274
unfolding digits_below_of
digits_most n h = omega arith

digits_few : (n : ℕ) → n ≤ 256 → digits_below_of n ≤ 658
unfolding digits_below_of
digits_few n h = omega arith

digits_left : (n : ℕ) → n ≤ 4095 → digits_below_of n ≤ 15270
unfolding digits_below_of
digits_left n h = omega arith

digits_one : digits_below_of 1 ≡ 1
unfolding digits_below_of
digits_one = refl

first_length : (r : Row) (rs : List Row) → length (lines_from row_assign 0 (r ∷ rs)) ≡ 15 + length (lines_from row_assign 1 rs)
unfolding lines_from
first_length r rs = omega arith

all_rows : (rows : List Row) → 1 ≤ length rows → length rows ≤ 4096 → ((i : ℕ) → i < length rows → RowRule rows i) → length (lines_from row_assign 0 rows) ≤ 156393
all_rows [] l h f = absurd (omega arith)
all_rows (r ∷ rs) l h f =
    let z : length rs ≡ 0 + length rs = omega arith in
    let w = rows_room 0 rs (length rs) z (omega arith) (λ i g. small i (row_in rs i) (f (suc i) (omega arith))) in
    let n : length (lines_from row_assign 0 (r ∷ rs)) ≡ 15 + length (lines_from row_assign 1 rs) = first_length r rs in
    let a = digits_most (suc (length rs)) (omega arith) in
    let b = digits_left (length rs) (omega arith) in
    let c = digits_one in
    omega arith
  where
    small : (i : ℕ) (q : Row) → LaterRow (r ∷ rs) (suc i) q → Small (0 + i) q
    small i q w = record { left = omega (arith, w.left); right = omega (arith, w.right); shift = w.shift_to }

all_taps : (rows : List Row) (ts : List TapRow) → length rows ≤ 4096 → length ts ≤ 256 → ((j : ℕ) → j < length ts → TapRowRule rows (tap_row_in ts j)) → length (lines_from tap_assign 0 ts) ≤ 7826
all_taps rows ts l h f =
    let z : length ts ≡ 0 + length ts = omega arith in
    let w = taps_room 0 ts (length ts) z (omega arith) (λ j g. small (tap_row_in ts j) (f j g)) in
    let a = digits_few (length ts) h in
    omega arith
  where
    small : (t : TapRow) → TapRowRule rows t → (t.row < 10000) × (t.shift ≤ 31)
    small t (is_empty_lem w) = (omega (arith, w.row), omega (arith, w.shift))
    small t (is_product_lem w) = (omega (arith, w.row), w.shift)

-- no text of a network that keeps the rules, of at most 256 taps, is longer
pub text_room : (net : Network) (h : List ℤ) → KeepsRules net h → length net.taps ≤ 256 → length (verilog_text_of net) ≤ most_bytes
text_room net h p few =
    let m = length net.taps in
    let n = length net.rows in
    let top : n ≤ 4096 = p.rows_to in
    omega (
      arith,
      text_length net,
      digits_below_lem m (omega arith),
      digits_below_lem n (omega arith),
      digits_few m few,
      digits_most n top,
      all_rows net.rows p.rows_from top p.rows,
      all_taps net.rows net.taps top few p.taps,
    )
