-- The nets n0, n1, .. and t0, t1, .. are found by their names, and names differ. Assumes nothing.
use mathlib.Core.Path.{◌≡◌, refl, sym, ap, ◌∙◌}
use mathlib.Core.Bool.{Bool, true, false, true≢false}
use mathlib.Core.Logic.{⊎_elim}
use mathlib.Core.List.{List, [], ◌∷◌, ◌++◌, append-nil}
use Prim.Native.Nat.{ℕ, zero, suc, ◌+◌, ◌≤◌, ◌<◌}
use native.Mathlib.Omega.{arith}
use lib.ListN.{length}
use Rattle.network.specs.Rows.{Network}
use Rattle.text.specs.Numbers.{decimal}
use Rattle.word.proofs.Order.{lt_or_le}
use Rattle.text.specs.Numbers.{number_from}
use Rattle.text.proofs.Readback.{decimal_back}
use Rattle.verilog.specs.Syntax.{Net, same, net_of}
use Rattle.verilog.specs.Sound.{nets_of}
use Rattle.verilog.proofs.Same.{same_self}
use Rattle.verilog_text.specs.Promise.{tap_net, nets_from}
use Rattle.verilog_text.proofs.Expected.{row_net, module_for}
use Rattle.verilog_text.proofs.Assigned.{Wide}

pub decimal_equal : (i j : ℕ) → decimal i ≡ decimal j → i ≡ j
decimal_equal i j e = sym (decimal_back i) ∙ ap (number_from 0) e ∙ decimal_back j

-- another name, later on
pub later_name : (c i j : ℕ) → j ≤ i → same (c ∷ decimal j) (c ∷ decimal i) ≡ false → suc j ≤ i
later_name c i j h e =
    ⊎_elim (λ l. l)
    (λ l. let q : j ≡ i = omega arith in absurd (true≢false (sym (same_self (c ∷ decimal j)) ∙ ap (λ (k : ℕ). same (c ∷ decimal j) (c ∷ decimal k)) q ∙ e)))
    (lt_or_le j i)

-- ---- found

module _ (c : ℕ) (ns : List Net) where
  by_test : (i j n : ℕ) → (b : Bool) → same (c ∷ decimal j) (c ∷ decimal i) ≡ b → (b ≡ false → Wide (nets_from c (suc j) n ++ ns) (c ∷ decimal i))
      → Wide (net_of (c ∷ decimal j) 64 true ∷ (nets_from c (suc j) n ++ ns)) (c ∷ decimal i)
  by_test i j n true e f = record { width = rw e; signed = rw e }
  by_test i j n false e f = let w = f refl in record { width = rw e w.width; signed = rw e w.signed }

  found : (i j n : ℕ) → j ≤ i → i < j + n → Wide (nets_from c j n ++ ns) (c ∷ decimal i)
  found i j zero h k = absurd (omega arith)
  found i j (suc n) h k = by_test i j n (same (c ∷ decimal j) (c ∷ decimal i)) refl (λ e. found i (suc j) n (later_name c i j h e) (omega arith))

-- rows are not looked for among taps
past_taps : (k m : ℕ) (s : List ℕ) (ns : List Net) → Wide ns (110 ∷ s) → Wide (nets_from 116 k m ++ ns) (110 ∷ s)
past_taps k zero s ns w = w
past_taps k (suc m) s ns w = let u = past_taps (suc k) m s ns w in record { width = u.width; signed = u.signed }

module _ (net : Network) where
  pub row_wide : (i : ℕ) → i < length net.rows → Wide (nets_of (module_for net)) (row_net i)
  row_wide i l =
      let w : Wide (nets_from 110 0 (length net.rows)) (row_net i) = rw (append-nil (nets_from 110 0 (length net.rows))) at (found 110 [] i 0 (length net.rows) (omega arith) (omega arith)) in
      let u = past_taps 0 (length net.taps) (decimal i) (nets_from 110 0 (length net.rows)) w in
      record { width = u.width; signed = u.signed }

  pub tap_wide : (k : ℕ) → k < length net.taps → Wide (nets_of (module_for net)) (tap_net k)
  tap_wide k l =
      let u = found 116 (nets_from 110 0 (length net.rows)) k 0 (length net.taps) (omega arith) (omega arith) in
      record { width = u.width; signed = u.signed }
