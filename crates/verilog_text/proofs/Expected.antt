-- The module that a network's text describes. Assumes nothing.
use mathlib.Core.Bool.{Bool, true, false}
use mathlib.Core.List.{List, [], ◌∷◌, ◌++◌}
use Prim.Native.Nat.{ℕ, zero, suc}
use lib.Dec.{eqb}
use lib.ListN.{length}
use Rattle.network.specs.declared.Row.{Row}
use Rattle.network.specs.declared.TapRow.{TapRow}
use Rattle.network.specs.Rows.{Network, plus, minus}
use Rattle.text.specs.Ascii.{ascii}
use Rattle.text.specs.Numbers.{decimal}
use Rattle.verilog.specs.Expressions.{Expression, net, literal, negated, sum, difference, shifted}
use Rattle.verilog.specs.Syntax.{Assign, Module, net_of}
use Rattle.verilog_text.specs.Promise.{tap_net, nets_from}

-- n0, n1, ..
abbrev pub row_net : ℕ → List ℕ
row_net i = 110 ∷ decimal i

abbrev pub lifting : ℕ → ℕ → Expression
lifting i s = shifted (net (row_net i)) (literal s)

abbrev pub row_expression : Bool → Bool → Row → Expression
row_expression true q r = sum (lifting r.left r.shift) (net (row_net r.right))
row_expression false true r = difference (lifting r.left r.shift) (net (row_net r.right))
row_expression false false r = difference (net (row_net r.right)) (lifting r.left r.shift)

abbrev pub row_right_side : ℕ → Row → Expression
row_right_side zero r = net (ascii "x")
row_right_side (suc i) r = row_expression (eqb r.sign plus) (eqb r.sign minus) r

abbrev pub assign_row : ℕ → Row → Assign
assign_row i r = record { left = row_net i; right = row_right_side i r }

abbrev pub tap_expression : Bool → Bool → TapRow → Expression
tap_expression true q t = lifting t.row t.shift
tap_expression false true t = negated (lifting t.row t.shift)
tap_expression false false t = literal 0

abbrev pub assign_tap : ℕ → TapRow → Assign
assign_tap k t = record { left = tap_net k; right = tap_expression (eqb t.sign plus) (eqb t.sign minus) t }

abbrev pub assign_rows : ℕ → List Row → List Assign
assign_rows i [] = []
assign_rows i (r ∷ rs) = assign_row i r ∷ assign_rows (suc i) rs

abbrev pub assign_taps : ℕ → List TapRow → List Assign
assign_taps k [] = []
assign_taps k (t ∷ ts) = assign_tap k t ∷ assign_taps (suc k) ts

abbrev pub module_for : Network → Module
module_for w =
    record {
      called = ascii "smoother";
      input = net_of (ascii "x") 16 true;
      outputs = nets_from 116 0 (length w.taps);
      wires = nets_from 110 0 (length w.rows);
      assigns = assign_rows 0 w.rows ++ assign_taps 0 w.taps;
    }
