-- The tokens of a network's text, line by line. Assumes nothing.
use mathlib.Core.Path.{◌≡◌, refl, ap, ◌∙◌}
use mathlib.Core.Bool.{Bool, true, false}
use mathlib.Core.Logic.{⊎_elim}
use mathlib.Core.List.{List, [], ◌∷◌, ◌++◌, append_assoc, append-nil}
use Prim.Native.Nat.{ℕ, zero, suc, ◌+◌, ◌*◌, ◌-◌, ◌≤◌, ◌<◌}
use native.Mathlib.Omega.{arith}
use borrow.Author.Tests.{lt-ltb, le-ltb, le-leb, lt-leb, ne_eqb}
use lib.Dec.{eqb}
use lib.ListN.{length, length-append}
use Rattle.network.specs.declared.Row.{Row}
use Rattle.network.specs.declared.TapRow.{TapRow}
use Rattle.network.specs.Rows.{Network, plus, minus}
use Rattle.text.specs.Ascii.{ascii}
use Rattle.text.specs.Numbers.{decimal, decimal_by}
use Rattle.word.proofs.Order.{lt_or_le}
use Rattle.text.specs.Numbers.{number_from}
use Rattle.text.proofs.Readback.{decimal_back}
use Rattle.verilog_text.proofs.Digits.{AllDigits, no_more, a_digit, all_digits}
use Rattle.verilog.specs.Tokens.{Token, name, number, mark, no_token, in_name, in_number, digit, class_of, scan, tokens}
use Rattle.verilog_text.specs.Promise.{tap_net}
use Rattle.verilog_text.proofs.Expected.{row_net}
use Rattle.text.specs.Lines.{lines_from, numbered_from}
use Rattle.verilog_text.specs.Text.{port, wire_line, row_right, row_assign, tap_right, tap_assign, module_line, last_line, verilog_text_of}

-- ---- digits

digit_class : (b : ℕ) → 48 ≤ b → b ≤ 57 → class_of b ≡ digit
unfolding class_of
digit_class b h k = rw (lt-leb 97 b (omega arith), lt-leb 65 b (omega arith), ne_eqb b 95 (λ e. omega arith), le-leb 48 b h, le-leb b 57 k)

in_a_name : (s : List ℕ) {ds : List ℕ} (ys : List ℕ) → AllDigits ds → scan (in_name s) (ds ++ ys) ≡ scan (in_name (s ++ ds)) ys
unfolding scan number_from
in_a_name s ys no_more = rw (append-nil s)
in_a_name s ys (a_digit d {bs = ds} h k w) = rw (digit_class d h k) (in_a_name (s ++ (d ∷ [])) ys w ∙ ap (λ (l : List ℕ). scan (in_name l) ys) (append_assoc s (d ∷ []) ds))

in_a_number : (n : ℕ) {ds : List ℕ} (ys : List ℕ) → AllDigits ds → scan (in_number n) (ds ++ ys) ≡ scan (in_number (number_from n ds)) ys
unfolding scan number_from
in_a_number n ys no_more = refl
in_a_number n ys (a_digit d {bs = ds} h k w) = rw (digit_class d h k) (in_a_number (10 * n + (d - 48)) ys w)

some_by : (f n : ℕ) → 0 < length (decimal_by f n)
unfolding decimal_by
some_by zero n = omega arith
some_by (suc f) n =
    ⊎_elim (λ a. rw (lt-ltb n 10 a) (omega arith))
    (λ a. rw (le-ltb n 10 a) (simp length-append (omega arith)))
    (lt_or_le n 10)

pub some_digit : (n : ℕ) → 0 < length (decimal n)
unfolding decimal
some_digit n = some_by n n

a_number : {ds : List ℕ} (ys : List ℕ) → 0 < length ds → AllDigits ds → scan no_token (ds ++ ys) ≡ scan (in_number (number_from 0 ds)) ys
unfolding scan number_from
a_number ys l no_more = absurd (omega arith)
a_number ys l (a_digit d {bs = ds} h k w) = rw (digit_class d h k) (in_a_number (d - 48) ys w ∙ ap (λ (n : ℕ). scan (in_number (number_from n ds)) ys) (omega arith))

-- a letter and a number: a name
pub name_then : (c i : ℕ) (ys : List ℕ) → scan (in_name (c ∷ [])) (decimal i ++ ys) ≡ scan (in_name (c ∷ decimal i)) ys
name_then c i ys = in_a_name (c ∷ []) ys (all_digits i)

pub number_then : (n : ℕ) (ys : List ℕ) → scan no_token (decimal n ++ ys) ≡ scan (in_number n) ys
number_then n ys = a_number ys (some_digit n) (all_digits n) ∙ ap (λ (k : ℕ). scan (in_number k) ys) (decimal_back n)

-- ---- the expected tokens

abbrev pub wire : ℕ → List Token
wire i = name (ascii "wire") ∷ name (ascii "signed") ∷ mark 91 ∷ number 63 ∷ mark 58 ∷ number 0 ∷ mark 93 ∷ name (row_net i) ∷ []

abbrev pub row_tokens : Bool → Bool → Row → List Token
row_tokens true q r = mark 40 ∷ name (row_net r.left) ∷ mark 60 ∷ number r.shift ∷ mark 41 ∷ mark 43 ∷ name (row_net r.right) ∷ []
row_tokens false true r = mark 40 ∷ name (row_net r.left) ∷ mark 60 ∷ number r.shift ∷ mark 41 ∷ mark 45 ∷ name (row_net r.right) ∷ []
row_tokens false false r = name (row_net r.right) ∷ mark 45 ∷ mark 40 ∷ name (row_net r.left) ∷ mark 60 ∷ number r.shift ∷ mark 41 ∷ []

abbrev pub row_assign_tokens : ℕ → Row → List Token
row_assign_tokens zero r = name (ascii "assign") ∷ name (row_net 0) ∷ mark 61 ∷ name (ascii "x") ∷ []
row_assign_tokens (suc i) r = name (ascii "assign") ∷ name (row_net (suc i)) ∷ mark 61 ∷ row_tokens (eqb r.sign plus) (eqb r.sign minus) r

abbrev pub tap_tokens : Bool → Bool → TapRow → List Token
tap_tokens true q t = name (row_net t.row) ∷ mark 60 ∷ number t.shift ∷ []
tap_tokens false true t = mark 45 ∷ mark 40 ∷ name (row_net t.row) ∷ mark 60 ∷ number t.shift ∷ mark 41 ∷ []
tap_tokens false false t = number 0 ∷ []

abbrev pub tap_assign_tokens : ℕ → TapRow → List Token
tap_assign_tokens k t = name (ascii "assign") ∷ name (tap_net k) ∷ mark 61 ∷ tap_tokens (eqb t.sign plus) (eqb t.sign minus) t

abbrev pub port_tokens : ℕ → ℕ → List Token
port_tokens k zero = []
port_tokens k (suc m) =
    mark 44 ∷ name (ascii "output") ∷ name (ascii "signed") ∷ mark 91 ∷ number 63 ∷ mark 58 ∷ number 0 ∷ mark 93 ∷ name (tap_net k) ∷ port_tokens (suc k) m

abbrev pub input_tokens : List Token
input_tokens = name (ascii "input") ∷ name (ascii "signed") ∷ mark 91 ∷ number 15 ∷ mark 58 ∷ number 0 ∷ mark 93 ∷ name (ascii "x") ∷ []

abbrev pub head_tokens : ℕ → List Token
head_tokens m = name (ascii "module") ∷ name (ascii "smoother") ∷ mark 40 ∷ (input_tokens ++ (port_tokens 0 m ++ (mark 41 ∷ [])))

-- statements, each closed by `;`, and what follows
abbrev pub wire_tokens : ℕ → ℕ → List Token → List Token
wire_tokens i zero ts = ts
wire_tokens i (suc n) ts = wire i ++ (mark 59 ∷ wire_tokens (suc i) n ts)

abbrev pub rows_tokens : ℕ → List Row → List Token → List Token
rows_tokens i [] ts = ts
rows_tokens i (r ∷ rs) ts = row_assign_tokens i r ++ (mark 59 ∷ rows_tokens (suc i) rs ts)

abbrev pub taps_tokens : ℕ → List TapRow → List Token → List Token
taps_tokens k [] ts = ts
taps_tokens k (r ∷ rs) ts = tap_assign_tokens k r ++ (mark 59 ∷ taps_tokens (suc k) rs ts)

abbrev pub text_tokens : Network → List Token
text_tokens net =
    head_tokens (length net.taps) ++ (mark 59 ∷ wire_tokens 0 (length net.rows) (rows_tokens 0 net.rows (taps_tokens 0 net.taps (name (ascii "endmodule") ∷ []))))

-- ---- lines

scan_wire : (i : ℕ) (ys : List ℕ) → scan no_token (wire_line i ++ ys) ≡ wire i ++ (mark 59 ∷ scan no_token ys)
unfolding scan class_of
scan_wire i ys = rw (append_assoc (decimal i) (ascii ";\n") ys, name_then 110 i)

later_row : (i : ℕ) (r : Row) (ys : List ℕ) (p q : Bool)
    → scan no_token ((ascii "assign n" ++ (decimal (suc i) ++ (ascii " = " ++ (row_right p q r ++ ascii ";\n")))) ++ ys)
    ≡ name (ascii "assign") ∷ name (row_net (suc i)) ∷ mark 61 ∷ (row_tokens p q r ++ (mark 59 ∷ scan no_token ys))
unfolding scan class_of
later_row i r ys true q = simp append_assoc (rw (name_then 110 (suc i), name_then 110 r.left, number_then r.shift, name_then 110 r.right))
later_row i r ys false true = simp append_assoc (rw (name_then 110 (suc i), name_then 110 r.left, number_then r.shift, name_then 110 r.right))
later_row i r ys false false = simp append_assoc (rw (name_then 110 (suc i), name_then 110 r.right, name_then 110 r.left, number_then r.shift))

first_row_lem : (r : Row) (ys : List ℕ) → scan no_token (row_assign zero r ++ ys) ≡ row_assign_tokens zero r ++ (mark 59 ∷ scan no_token ys)
unfolding scan class_of decimal decimal_by
first_row_lem r ys = refl

scan_row : (i : ℕ) (r : Row) (ys : List ℕ) → scan no_token (row_assign i r ++ ys) ≡ row_assign_tokens i r ++ (mark 59 ∷ scan no_token ys)
scan_row zero r ys = first_row_lem r ys
scan_row (suc i) r ys = later_row i r ys (eqb r.sign plus) (eqb r.sign minus)

scan_tap_by : (k : ℕ) (t : TapRow) (ys : List ℕ) (p q : Bool)
    → scan no_token ((ascii "assign t" ++ (decimal k ++ (ascii " = " ++ (tap_right p q t ++ ascii ";\n")))) ++ ys)
    ≡ name (ascii "assign") ∷ name (tap_net k) ∷ mark 61 ∷ (tap_tokens p q t ++ (mark 59 ∷ scan no_token ys))
unfolding scan class_of
scan_tap_by k t ys true q = simp append_assoc (rw (name_then 116 k, name_then 110 t.row, number_then t.shift))
scan_tap_by k t ys false true = simp append_assoc (rw (name_then 116 k, name_then 110 t.row, number_then t.shift))
scan_tap_by k t ys false false = simp append_assoc (rw (name_then 116 k))

scan_tap : (k : ℕ) (t : TapRow) (ys : List ℕ) → scan no_token (tap_assign k t ++ ys) ≡ tap_assign_tokens k t ++ (mark 59 ∷ scan no_token ys)
scan_tap k t ys = scan_tap_by k t ys (eqb t.sign plus) (eqb t.sign minus)

-- ---- lines one after the other

scan_wires : (i n : ℕ) (ys : List ℕ) → scan no_token (numbered_from wire_line i n ++ ys) ≡ wire_tokens i n (scan no_token ys)
unfolding numbered_from
scan_wires i zero ys = refl
scan_wires i (suc n) ys =
    ap (scan no_token) (append_assoc (wire_line i) (numbered_from wire_line (suc i) n) ys) ∙ scan_wire i (numbered_from wire_line (suc i) n ++ ys)
    ∙ ap (λ (ts : List Token). wire i ++ (mark 59 ∷ ts)) (scan_wires (suc i) n ys)

scan_rows : (i : ℕ) (rs : List Row) (ys : List ℕ) → scan no_token (lines_from row_assign i rs ++ ys) ≡ rows_tokens i rs (scan no_token ys)
unfolding lines_from
scan_rows i [] ys = refl
scan_rows i (r ∷ rs) ys =
    ap (scan no_token) (append_assoc (row_assign i r) (lines_from row_assign (suc i) rs) ys) ∙ scan_row i r (lines_from row_assign (suc i) rs ++ ys)
    ∙ ap (λ (ts : List Token). row_assign_tokens i r ++ (mark 59 ∷ ts)) (scan_rows (suc i) rs ys)

scan_taps : (k : ℕ) (rs : List TapRow) (ys : List ℕ) → scan no_token (lines_from tap_assign k rs ++ ys) ≡ taps_tokens k rs (scan no_token ys)
unfolding lines_from
scan_taps k [] ys = refl
scan_taps k (r ∷ rs) ys =
    ap (scan no_token) (append_assoc (tap_assign k r) (lines_from tap_assign (suc k) rs) ys) ∙ scan_tap k r (lines_from tap_assign (suc k) rs ++ ys)
    ∙ ap (λ (ts : List Token). tap_assign_tokens k r ++ (mark 59 ∷ ts)) (scan_taps (suc k) rs ys)

scan_ports : (s : List ℕ) (k m : ℕ) (ys : List ℕ)
    → scan (in_name s) (numbered_from port k m ++ (ascii ");\n" ++ ys)) ≡ name s ∷ (port_tokens k m ++ (mark 41 ∷ mark 59 ∷ scan no_token ys))
unfolding scan class_of numbered_from
scan_ports s k zero ys = refl
scan_ports s k (suc m) ys =
    rw (append_assoc (decimal k) (numbered_from port (suc k) m) (ascii ");\n" ++ ys), name_then 116 k)
    (ap (λ (ts : List Token). name s ∷ mark 44 ∷ name (ascii "output") ∷ name (ascii "signed") ∷ mark 91 ∷ number 63 ∷ mark 58 ∷ number 0 ∷ mark 93 ∷ ts)
    (scan_ports (tap_net k) (suc k) m ys))

scan_head : (m : ℕ) (ys : List ℕ) → scan no_token (module_line m ++ ys) ≡ head_tokens m ++ (mark 59 ∷ scan no_token ys)
unfolding scan class_of
scan_head m ys =
    rw (append_assoc (numbered_from port 0 m) (ascii ");\n") ys, scan_ports (ascii "x") 0 m ys, append_assoc (port_tokens 0 m) (mark 41 ∷ []) (mark 59 ∷ scan no_token ys))

scan_end : scan no_token last_line ≡ name (ascii "endmodule") ∷ []
unfolding scan class_of
scan_end = refl

-- ---- the statement

pub tokens_of_text : (net : Network) → tokens (verilog_text_of net) ≡ text_tokens net
unfolding verilog_text_of
tokens_of_text net =
    let end = last_line in
    scan_head (length net.taps) (numbered_from wire_line 0 (length net.rows) ++ (lines_from row_assign 0 net.rows ++ (lines_from tap_assign 0 net.taps ++ end)))
    ∙ ap (λ (ts : List Token). head_tokens (length net.taps) ++ (mark 59 ∷ ts))
    (scan_wires 0 (length net.rows) (lines_from row_assign 0 net.rows ++ (lines_from tap_assign 0 net.taps ++ end))
    ∙ ap (wire_tokens 0 (length net.rows))
    (scan_rows 0 net.rows (lines_from tap_assign 0 net.taps ++ end) ∙ ap (rows_tokens 0 net.rows) (scan_taps 0 net.taps end ∙ ap (taps_tokens 0 net.taps) scan_end)))
