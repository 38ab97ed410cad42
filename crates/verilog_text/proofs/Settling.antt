-- No two values settle a network's text. Assumes nothing.
use mathlib.Core.Path.{◌≡◌, sym, ◌∙◌}
use mathlib.Core.Bool.{true}
use mathlib.Core.List.{List, ◌∷◌}
use Prim.Native.Nat.{ℕ, zero, suc, ◌+◌, ◌≤◌, ◌<◌}
use native.Mathlib.Omega.{arith}
use lib.IntN.{ℤ}
use lib.ListN.{length}
use mir.Syntax.{w16}
use mir.Val.{SFits}
use Rattle.network.specs.Rows.{Network}
use Rattle.network.specs.Accepted.{KeepsRules}
use Rattle.text.specs.Numbers.{decimal}
use Rattle.verilog.specs.Syntax.{Net, net_of}
use Rattle.verilog.specs.Values.{Values}
use Rattle.verilog.specs.Meaning.{Every, none, each, Settled, Agree}
use Rattle.verilog_text.specs.Promise.{nets_from}
use Rattle.verilog_text.proofs.Expected.{module_for}
use Rattle.verilog_text.proofs.Products.{every_join, settled_right}

every_net : (P : Net → Type 0) (c j n : ℕ) → ((i : ℕ) → j ≤ i → i < j + n → P (net_of (c ∷ decimal i) 64 true)) → Every P (nets_from c j n)
every_net P c j zero f = none
every_net P c j (suc n) f = each (f j (omega arith) (omega arith)) (every_net P c (suc j) n (λ i h k. f i (omega arith) (omega arith)))

module _ (net : Network) (h : List ℤ) (passed : KeepsRules net h) (x : ℤ) (fits : SFits w16 x) where
  pub settled_alone : (v w : Values) → Settled (module_for net) x v → Settled (module_for net) x w → Agree (module_for net) v w
  settled_alone v w s t =
      let a = settled_right net h passed x fits v s in
      let b = settled_right net h passed x fits w t in
      each (a.input ∙ sym b.input)
      (every_join
      (every_net (λ (n : Net). v n.called ≡ w n.called) 116 0 (length net.taps) (λ i l k. a.taps i (omega arith) ∙ sym (b.taps i (omega arith))))
      (every_net (λ (n : Net). v n.called ≡ w n.called) 110 0 (length net.rows) (λ i l k. a.rows i (omega arith) ∙ sym (b.rows i (omega arith)))))
