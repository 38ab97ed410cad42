-- The module of a network's text. Assumes nothing.
use mathlib.Core.Path.{◌≡◌, refl, ap, ◌∙◌}
use mathlib.Core.Bool.{Bool, true, false}
use mathlib.Core.List.{List, [], ◌∷◌, ◌++◌, append_assoc}
use Prim.Native.Nat.{ℕ, zero, suc}
use lib.Dec.{eqb}
use lib.ListN.{length}
use Rattle.network.specs.declared.Row.{Row}
use Rattle.network.specs.declared.TapRow.{TapRow}
use Rattle.network.specs.Rows.{Network, plus, minus}
use Rattle.text.specs.Ascii.{ascii}
use Rattle.verilog.specs.Reading.{Reading, reads, when_read}
use Rattle.verilog.specs.Tokens.{Token, name, number, mark}
use Rattle.verilog.specs.Expressions.{run}
use Rattle.verilog.specs.Syntax.{Net, Assign, Module, net_of, cut_at, Body, an_assign, with_item, body_of, Header, unclosed, output_nets, ports_of, header_of, rest_of, read_module, module_of}
use Rattle.verilog_text.specs.Promise.{tap_net, nets_from}
use Rattle.verilog_text.proofs.Expected.{row_net, row_expression, tap_expression, assign_row, assign_tap, assign_rows, assign_taps, module_for}
use Rattle.verilog_text.specs.Text.{verilog_text_of}
use Rattle.verilog_text.proofs.Scanning.{wire, row_tokens, row_assign_tokens, tap_tokens, port_tokens, input_tokens, head_tokens, wire_tokens, rows_tokens, taps_tokens, tokens_of_text}

-- ---- the statements after the module line

abbrev body_at : List Token → Reading Body
body_at ts = body_of (cut_at 59 ts).first (cut_at 59 ts).rest

abbrev body : List Net → List Assign → Body
body ns bs = record { wires = ns; assigns = bs }

body_end : body_at (name (ascii "endmodule") ∷ []) ≡ reads (body [] [])
unfolding cut_at body_of
body_end = refl

body_tap : (k : ℕ) (t : TapRow) (p q : Bool) (ts : List Token)
    → body_at (name (ascii "assign") ∷ name (tap_net k) ∷ mark 61 ∷ (tap_tokens p q t ++ (mark 59 ∷ ts)))
    ≡ when_read (body_at ts) (λ (b : Body). with_item b (an_assign (record { left = tap_net k; right = tap_expression p q t })))
unfolding cut_at body_of run
body_tap k t true q ts = refl
body_tap k t false true ts = refl
body_tap k t false false ts = refl

body_taps : (k : ℕ) (ts : List TapRow) → body_at (taps_tokens k ts (name (ascii "endmodule") ∷ [])) ≡ reads (body [] (assign_taps k ts))
body_taps k [] = body_end
body_taps k (t ∷ ts) =
    body_tap k t (eqb t.sign plus) (eqb t.sign minus) (taps_tokens (suc k) ts (name (ascii "endmodule") ∷ []))
    ∙ ap (λ (o : Reading Body). when_read o (λ (b : Body). with_item b (an_assign (assign_tap k t)))) (body_taps (suc k) ts)

body_later : (i : ℕ) (r : Row) (p q : Bool) (ts : List Token)
    → body_at (name (ascii "assign") ∷ name (row_net (suc i)) ∷ mark 61 ∷ (row_tokens p q r ++ (mark 59 ∷ ts)))
    ≡ when_read (body_at ts) (λ (b : Body). with_item b (an_assign (record { left = row_net (suc i); right = row_expression p q r })))
unfolding cut_at body_of run
body_later i r true q ts = refl
body_later i r false true ts = refl
body_later i r false false ts = refl

body_row : (i : ℕ) (r : Row) (ts : List Token)
    → body_at (row_assign_tokens i r ++ (mark 59 ∷ ts)) ≡ when_read (body_at ts) (λ (b : Body). with_item b (an_assign (assign_row i r)))
unfolding cut_at body_of run
body_row zero r ts = refl
body_row (suc i) r ts = body_later i r (eqb r.sign plus) (eqb r.sign minus) ts

body_rows : (i : ℕ) (rs : List Row) (bs : List Assign) (ts : List Token) → body_at ts ≡ reads (body [] bs) → body_at (rows_tokens i rs ts) ≡ reads (body [] (assign_rows i rs ++ bs))
body_rows i [] bs ts e = e
body_rows i (r ∷ rs) bs ts e =
    body_row i r (rows_tokens (suc i) rs ts)
    ∙ ap (λ (o : Reading Body). when_read o (λ (b : Body). with_item b (an_assign (assign_row i r)))) (body_rows (suc i) rs bs ts e)

body_wire : (i : ℕ) (ns : List Net) (bs : List Assign) (ts : List Token) → body_at ts ≡ reads (body ns bs)
    → body_at (wire i ++ (mark 59 ∷ ts)) ≡ reads (body (net_of (row_net i) 64 true ∷ ns) bs)
unfolding cut_at body_of
body_wire i ns bs ts e = rw e

body_wires : (i n : ℕ) (bs : List Assign) (ts : List Token) → body_at ts ≡ reads (body [] bs) → body_at (wire_tokens i n ts) ≡ reads (body (nets_from 110 i n) bs)
body_wires i zero bs ts e = e
body_wires i (suc n) bs ts e = body_wire i (nets_from 110 (suc i) n) bs (wire_tokens (suc i) n ts) (body_wires (suc i) n bs ts e)

-- ---- the module line

cut_ports : (k m : ℕ) (ts : List Token)
    → cut_at 59 (port_tokens k m ++ (mark 41 ∷ mark 59 ∷ ts)) ≡ record { first = port_tokens k m ++ (mark 41 ∷ []); rest = (cut_at 59 ts).first ∷ (cut_at 59 ts).rest }
unfolding cut_at
cut_ports k zero ts = refl
cut_ports k (suc m) ts = rw (cut_ports (suc k) m ts)

cut_head : (m : ℕ) (ts : List Token) → cut_at 59 (head_tokens m ++ (mark 59 ∷ ts)) ≡ record { first = head_tokens m; rest = (cut_at 59 ts).first ∷ (cut_at 59 ts).rest }
unfolding cut_at
cut_head m ts = rw (append_assoc (port_tokens 0 m) (mark 41 ∷ []) (mark 59 ∷ ts), cut_ports 0 m ts)

unclosed_close : (ts : List Token) → unclosed (ts ++ (mark 41 ∷ [])) ≡ reads ts
unclosed_close [] = refl
unclosed_close (t ∷ []) = refl
unclosed_close (t ∷ u ∷ ts) = ap (λ (o : Reading (List Token)). when_read o (λ ws. reads (t ∷ ws))) (unclosed_close (u ∷ ts))

abbrev output_piece : ℕ → List Token
output_piece k = name (ascii "output") ∷ name (ascii "signed") ∷ mark 91 ∷ number 63 ∷ mark 58 ∷ number 0 ∷ mark 93 ∷ name (tap_net k) ∷ []

abbrev output_pieces : ℕ → ℕ → List (List Token)
output_pieces k zero = []
output_pieces k (suc m) = output_piece k ∷ output_pieces (suc k) m

comma_ports : (k m : ℕ) → cut_at 44 (port_tokens k m) ≡ record { first = []; rest = output_pieces k m }
unfolding cut_at
comma_ports k zero = refl
comma_ports k (suc m) = rw (comma_ports (suc k) m)

comma_head : (m : ℕ) → cut_at 44 (input_tokens ++ port_tokens 0 m) ≡ record { first = input_tokens; rest = output_pieces 0 m }
unfolding cut_at
comma_head m = rw (comma_ports 0 m)

outputs_are : (k m : ℕ) → output_nets (output_pieces k m) ≡ reads (nets_from 116 k m)
unfolding output_nets
outputs_are k zero = refl
outputs_are k (suc m) = rw (outputs_are (suc k) m)

abbrev header : ℕ → Header
header m = record { called = ascii "smoother"; input = net_of (ascii "x") 16 true; outputs = nets_from 116 0 m }

header_is : (m : ℕ) → header_of (head_tokens m) ≡ reads (header m)
header_is m =
    ap (λ (o : Reading (List Token)). when_read o (λ ws. ports_of (ascii "smoother") (cut_at 44 ws))) (unclosed_close (input_tokens ++ port_tokens 0 m))
    ∙ ap (ports_of (ascii "smoother")) (comma_head m)
    ∙ rw (outputs_are 0 m)

abbrev built : Header → Body → Module
built h b = record { called = h.called; input = h.input; outputs = h.outputs; wires = b.wires; assigns = b.assigns }

-- ---- the statement

pub module_of_text : (net : Network) → module_of (verilog_text_of net) ≡ reads (module_for net)
unfolding module_of
module_of_text net =
    let m = length net.taps in
    let bs = assign_rows 0 net.rows ++ assign_taps 0 net.taps in
    let assigns = rows_tokens 0 net.rows (taps_tokens 0 net.taps (name (ascii "endmodule") ∷ [])) in
    let after = wire_tokens 0 (length net.rows) assigns in
    ap (λ (ts : List Token). read_module (cut_at 59 ts)) (tokens_of_text net)
    ∙ ap read_module (cut_head m after)
    ∙ ap (λ (o : Reading Header). when_read o (λ h. rest_of h ((cut_at 59 after).first ∷ (cut_at 59 after).rest))) (header_is m)
    ∙ ap (λ (o : Reading Body). when_read o (λ (b : Body). reads (built (header m) b)))
    (body_wires 0 (length net.rows) bs assigns (body_rows 0 net.rows (assign_taps 0 net.taps) _ (body_taps 0 net.taps)))
