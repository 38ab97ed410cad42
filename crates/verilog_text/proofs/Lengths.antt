-- How long the lines of a text are, and the text. Assumes nothing.
use borrow.Author.Tests.{eq-eqb, ne_eqb}
use mathlib.Core.Path.{◌≡◌, refl, sym, ap, ◌∙◌}
use mathlib.Core.Bool.{Bool, true, false}
use mathlib.Core.List.{List, ◌++◌}
use mathlib.Core.Logic.{⊎_elim}
use Prim.Native.Nat.{ℕ, zero, suc, ◌+◌, ◌-◌, ◌*◌, ◌≤◌, ◌<◌}
use native.Mathlib.Numerals.{add-one}
use native.Mathlib.Omega.{arith}
use lib.Dec.{eqb}
use lib.ListN.{length, length-append}
use Rattle.word.proofs.Order.{lt_or_le}
use Rattle.network.specs.declared.Row.{Row}
use Rattle.network.specs.declared.TapRow.{TapRow}
use Rattle.network.specs.Rows.{Network, plus, minus}
use Rattle.text.specs.Numbers.{decimal}
use Rattle.text.specs.Lines.{lines_from, numbered_from}
use Rattle.text.proofs.Decimals.{digits_one, digits_two, digits_three, digits_four}
use Rattle.text.proofs.Lines.{numbered_next, length_next}
use Rattle.verilog_text.specs.Text.{port, module_line, wire_line, row_right, later_assign, row_assign, tap_right, tap_assign, last_line, verilog_text_of}

-- ---- the digits of a number, and of n numbers from i on
abbrev pub digits_of : ℕ → ℕ
digits_of n = length (decimal n)

abbrev pub digits_from : ℕ → ℕ → ℕ
digits_from i n = length (numbered_from decimal i n)

-- those of all numbers below n, n at most 10000, by the numbers that have a second digit, a third and a fourth
unfoldable pub digits_below_of : ℕ → ℕ
digits_below_of n = n + (n - 10) + (n - 100) + (n - 1000)

below_next : (n : ℕ) → n < 10000 → digits_below_of n + digits_of n ≡ digits_below_of (suc n)
unfolding digits_below_of
below_next n h =
    ⊎_elim (λ (a : n < 10). omega (arith, digits_one n a))
    (λ (b : 10 ≤ n). ⊎_elim (λ (a : n < 100). omega (arith, digits_two n b a))
    (λ (c : 100 ≤ n). ⊎_elim (λ (a : n < 1000). omega (arith, digits_three n c a))
    (λ (d : 1000 ≤ n). omega (arith, digits_four n d h)) (lt_or_le n 1000)) (lt_or_le n 100)) (lt_or_le n 10)

pub digits_below_lem : (n : ℕ) → n ≤ 10000 → digits_from 0 n ≡ digits_below_of n
unfolding digits_below_of numbered_from
digits_below_lem zero h = refl
digits_below_lem (suc n) h =
    let next = length_next (numbered_from decimal 0) decimal (numbered_next decimal) n in
    let e : digits_from 0 (suc n) ≡ digits_from 0 n + digits_of n = ap (digits_from 0) (sym (add-one n)) ∙ next in
    e ∙ ap (λ (k : ℕ). k + digits_of n) (digits_below_lem n (omega arith)) ∙ below_next n (omega arith)

-- a text of so many bytes beside its number, for n numbers
numbered_length : (text_of : ℕ → List ℕ) (beside : ℕ) → ((i : ℕ) → length (text_of i) ≡ beside + digits_of i)
    → (i n : ℕ) → length (numbered_from text_of i n) ≡ beside * n + digits_from i n
unfolding numbered_from
numbered_length text_of beside each i zero = omega arith
numbered_length text_of beside each i (suc n) =
    let a = length-append (text_of i) (numbered_from text_of (suc i) n) in
    let b = length-append (decimal i) (numbered_from decimal (suc i) n) in
    let c : beside * suc n ≡ beside + beside * n = omega arith in
    omega (arith, each i, numbered_length text_of beside each (suc i) n)

pub port_length : (k : ℕ) → length (port k) ≡ 24 + digits_of k
port_length k = omega arith

pub wire_length : (i : ℕ) → length (wire_line i) ≡ 22 + digits_of i
wire_length i = simp length-append (omega arith)

pub ports_length : (m : ℕ) → length (numbered_from port 0 m) ≡ 24 * m + digits_from 0 m
ports_length m = numbered_length port 24 port_length 0 m

pub wires_length : (n : ℕ) → length (numbered_from wire_line 0 n) ≡ 22 * n + digits_from 0 n
wires_length n = numbered_length wire_line 22 wire_length 0 n

-- ---- rows: of all signs as long
row_right_lem : (r : Row) (p q : Bool) → length (row_right p q r) ≡ 12 + digits_of r.left + digits_of r.shift + digits_of r.right
row_right_lem r true q = simp length-append (omega arith)
row_right_lem r false true = simp length-append (omega arith)
row_right_lem r false false = simp length-append (omega arith)

pub later_length : (i : ℕ) (r : Row) → length (later_assign i r) ≡ 25 + digits_of i + digits_of r.left + digits_of r.shift + digits_of r.right
later_length i r = simp length-append (omega (arith, row_right_lem r (eqb r.sign plus) (eqb r.sign minus)))

pub row_later : (i : ℕ) (r : Row) → (i ≡ 0 → ⊥) → row_assign i r ≡ later_assign i r
row_later zero r h = absurd (h refl)
row_later (suc i) r h = refl

-- ---- taps, by their signs
tap_by_lem : (k : ℕ) (t : TapRow) → length (tap_assign k t) ≡ 13 + digits_of k + length (tap_right (eqb t.sign plus) (eqb t.sign minus) t)
tap_by_lem k t = simp length-append (omega arith)

pub tap_plus : (k : ℕ) (t : TapRow) → t.sign ≡ plus → length (tap_assign k t) ≡ 19 + digits_of k + digits_of t.row + digits_of t.shift
tap_plus k t e = tap_by_lem k t ∙ rw (eq-eqb t.sign plus e) (simp length-append (omega arith))

pub tap_minus : (k : ℕ) (t : TapRow) → (t.sign ≡ plus → ⊥) → t.sign ≡ minus → length (tap_assign k t) ≡ 22 + digits_of k + digits_of t.row + digits_of t.shift
tap_minus k t f e = tap_by_lem k t ∙ rw (ne_eqb t.sign plus f, eq-eqb t.sign minus e) (simp length-append (omega arith))

pub tap_none : (k : ℕ) (t : TapRow) → (t.sign ≡ plus → ⊥) → (t.sign ≡ minus → ⊥) → length (tap_assign k t) ≡ 14 + digits_of k
tap_none k t f g = tap_by_lem k t ∙ rw (ne_eqb t.sign plus f, ne_eqb t.sign minus g) (omega arith)

-- ---- the text
pub head_length : (m : ℕ) → length (module_line m) ≡ 40 + length (numbered_from port 0 m)
head_length m = simp length-append (omega arith)

-- by its parts
pub text_parts : (net : Network) → length (verilog_text_of net)
    ≡ length (module_line (length net.taps))
    + (length (numbered_from wire_line 0 (length net.rows)) + (length (lines_from row_assign 0 net.rows) + (length (lines_from tap_assign 0 net.taps) + 10)))
unfolding verilog_text_of
text_parts net =
    let m = length net.taps in
    let n = length net.rows in
    let taps = lines_from tap_assign 0 net.taps ++ last_line in
    let rows = lines_from row_assign 0 net.rows ++ taps in
    omega (
      arith,
      length-append (module_line m) (numbered_from wire_line 0 n ++ rows),
      length-append (numbered_from wire_line 0 n) rows,
      length-append (lines_from row_assign 0 net.rows) taps,
      length-append (lines_from tap_assign 0 net.taps) (last_line),
    )

pub text_length : (net : Network) → length (verilog_text_of net)
    ≡ 50 + (24 * length net.taps + digits_from 0 (length net.taps)) + (22 * length net.rows + digits_from 0 (length net.rows))
    + length (lines_from row_assign 0 net.rows) + length (lines_from tap_assign 0 net.taps)
text_length net =
    omega (arith, text_parts net, head_length (length net.taps), ports_length (length net.taps), wires_length (length net.rows))
