-- A network as Verilog text, line by line. Document 02, request 1. Definitions only.
use Rattle.std.specs.Prelude.{Bool, true, false, List, ◌++◌, ℕ, zero, suc, eqb, length}
use Rattle.network.specs.declared.Row.{Row}
use Rattle.network.specs.declared.TapRow.{TapRow}
use Rattle.network.specs.Rows.{Network, plus, minus}
use Rattle.text.specs.Ascii.{ascii}
use Rattle.text.specs.Numbers.{decimal}
use Rattle.text.specs.Lines.{lines_from, numbered_from}

-- "The first line is `module smoother(input signed [15:0] x, output signed [63:0] t0, ..);`, with one output for each tap"
abbrev pub port : ℕ → List ℕ
port k = ascii ", output signed [63:0] t" ++ decimal k

abbrev pub module_line : ℕ → List ℕ
module_line m = ascii "module smoother(input signed [15:0] x" ++ (numbered_from port 0 m ++ ascii ");\n")

-- "Then comes `wire signed [63:0] n0;` and its like for each row"
abbrev pub wire_line : ℕ → List ℕ
wire_line i = ascii "wire signed [63:0] n" ++ (decimal i ++ ascii ";\n")

-- a row shifted: `n1 <<< 4`
abbrev pub shifted_row : ℕ → ℕ → List ℕ
shifted_row i s = ascii "n" ++ (decimal i ++ (ascii " <<< " ++ decimal s))

-- the right side of a row: "`(n1 <<< 4) - n1` (with + for sign `+`) and, for `r`, `n0 - (n1 <<< 4)`". The first Bool says that the sign is `+`, the second that
-- it is `-`
abbrev pub row_right : Bool → Bool → Row → List ℕ
row_right true q r = ascii "(" ++ (shifted_row r.left r.shift ++ (ascii ") + n" ++ decimal r.right))
row_right false true r = ascii "(" ++ (shifted_row r.left r.shift ++ (ascii ") - n" ++ decimal r.right))
row_right false false r = ascii "n" ++ (decimal r.right ++ (ascii " - (" ++ (shifted_row r.left r.shift ++ ascii ")")))

-- "Rows read `assign n0 = x;`, `assign n2 = ..;`"
abbrev pub later_assign : ℕ → Row → List ℕ
later_assign i r = ascii "assign n" ++ (decimal i ++ (ascii " = " ++ (row_right (eqb r.sign plus) (eqb r.sign minus) r ++ ascii ";\n")))

abbrev pub row_assign : ℕ → Row → List ℕ
row_assign zero r = ascii "assign n0 = x;\n"
row_assign (suc i) r = later_assign (suc i) r

-- the right side of a tap: "`n1 <<< 0`, `-(n1 <<< 1)` when negative, and `0` when empty". The Bools say the same as above
abbrev pub tap_right : Bool → Bool → TapRow → List ℕ
tap_right true q t = shifted_row t.row t.shift
tap_right false true t = ascii "-(" ++ (shifted_row t.row t.shift ++ ascii ")")
tap_right false false t = ascii "0"

-- "Taps read `assign t0 = ..;`"
abbrev pub tap_by : Bool → Bool → ℕ → TapRow → List ℕ
tap_by p q k t = ascii "assign t" ++ (decimal k ++ (ascii " = " ++ (tap_right p q t ++ ascii ";\n")))

abbrev pub tap_assign : ℕ → TapRow → List ℕ
tap_assign k t = tap_by (eqb t.sign plus) (eqb t.sign minus) k t

-- "The last line is `endmodule`"
abbrev pub last_line : List ℕ
last_line = ascii "endmodule\n"

-- "one module per network, each line closed by a line feed": the module line, the wires, "then one assign a line for the rows and then the taps, in order"
unfoldable pub verilog_text_of : Network → List ℕ
verilog_text_of net =
    module_line (length net.taps)
    ++ (numbered_from wire_line 0 (length net.rows) ++ (lines_from row_assign 0 net.rows ++ (lines_from tap_assign 0 net.taps ++ last_line)))
