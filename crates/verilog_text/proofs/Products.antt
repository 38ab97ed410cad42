-- Whatever settles a network's text: every row has its value times the sample, every tap its coefficient times the sample. Assumes nothing.
use mathlib.Core.Path.{◌≡◌, refl, sym, subst, ap, ◌∙◌}
use mathlib.Core.Bool.{Bool, true, false, cond}
use mathlib.Core.List.{List, [], ◌∷◌, ◌++◌}
use Prim.Native.Nat.{ℕ, zero, suc, ◌+◌, ◌≤◌, ◌<◌}
use native.Mathlib.Omega.{arith}
use lib.Dec.{eqb}
use lib.IntN.{ℤ, pos, neg_ℤ, ◌+ℤ◌, ◌-ℤ◌, ◌*ℤ◌, zero-*ℤ}
use lib.ListN.{length}
use mir.Syntax.{w16}
use mir.Val.{SFits}
use Rattle.network.specs.declared.Row.{Row}
use Rattle.network.specs.declared.TapRow.{TapRow}
use Rattle.network.specs.Rows.{Network, plus, minus, row_in, tap_row_in}
use Rattle.network.specs.RowRule.{RowRule, combined, lifted}
use Rattle.network.specs.Coefficients.{with_sign, coefficient_of}
use Rattle.network.specs.TapRowRule.{TapRowRule, is_empty_lem, is_product_lem}
use Rattle.network.specs.Evaluation.{shifted_up}
use Rattle.word.proofs.Multiples.{one_times}
use Rattle.network.proofs.Multiples.{combined_times, signed_times, shifted_times}
use Rattle.network.specs.Accepted.{KeepsRules}
use Rattle.text.specs.Ascii.{ascii}
use Rattle.run_convolution.specs.Words.{wrapped}
use Rattle.verilog.specs.Syntax.{Net, Assign}
use Rattle.verilog.specs.Sound.{nets_of}
use Rattle.verilog.specs.Values.{Values, pattern_of}
use Rattle.verilog.specs.Meaning.{assigned, Every, none, each, Holds, Settled}
use Rattle.verilog_text.specs.Promise.{tap_net}
use Rattle.verilog_text.proofs.Expected.{row_net, row_expression, tap_expression, assign_row, assign_tap, assign_rows, assign_taps, module_for}
use Rattle.verilog_text.proofs.Assigned.{nothing_is, shift_is, minus_is, sum_is, difference_is, reversed_is, input_is}
use Rattle.verilog_text.proofs.Names.{row_wide, tap_wide}

-- ---- every assign of a list

module _ {A : Type 0} {P : A → Type 0} where
  pub every_split : (bs cs : List A) → Every P (bs ++ cs) → Every P bs × Every P cs
  every_split [] cs w = (none, w)
  every_split (b ∷ bs) cs (each p w) = let u = every_split bs cs w in (each p u.0, u.1)

  pub every_join : {bs cs : List A} → Every P bs → Every P cs → Every P (bs ++ cs)
  every_join none w = w
  every_join (each p u) w = each p (every_join u w)

module _ (P : Assign → Type 0) where
  every_row : (j : ℕ) (rs : List Row) → Every P (assign_rows j rs) → (i : ℕ) → i < length rs → P (assign_row (j + i) (row_in rs i))
  every_row j [] w i l = absurd (omega arith)
  every_row j (r ∷ rs) (each p w) zero l = let e : j ≡ j + 0 = omega arith in rw e at p
  every_row j (r ∷ rs) (each p w) (suc i) l = let e : suc j + i ≡ j + suc i = omega arith in rw e at (every_row (suc j) rs w i (omega arith))

  every_tap : (j : ℕ) (rs : List TapRow) → Every P (assign_taps j rs) → (i : ℕ) → i < length rs → P (assign_tap (j + i) (tap_row_in rs i))
  every_tap j [] w i l = absurd (omega arith)
  every_tap j (r ∷ rs) (each p w) zero l = let e : j ≡ j + 0 = omega arith in rw e at p
  every_tap j (r ∷ rs) (each p w) (suc i) l = let e : suc j + i ≡ j + suc i = omega arith in rw e at (every_tap (suc j) rs w i (omega arith))

zero_plus : (i : ℕ) → 0 + i ≡ i
zero_plus i = omega arith

module _ (net : Network) (h : List ℤ) (passed : KeepsRules net h) (x : ℤ) (fits : SFits w16 x) where
  abbrev nets : List Net
  nets = nets_of (module_for net)

  abbrev rows : List Row
  rows = net.rows

  -- row i times the sample, tap k times the sample
  abbrev pub row_product : ℕ → ℕ
  row_product i = wrapped (pos (row_in rows i).value *ℤ x)

  abbrev pub tap_product_of : ℕ → ℕ
  tap_product_of k = wrapped (coefficient_of rows (tap_row_in net.taps k) *ℤ x)

  module _ (v : Values) (input : v (ascii "x") ≡ pattern_of 16 x) where
    later_is : (i : ℕ) (r : Row) → suc i < length rows → r.left < length rows → r.right < length rows → (a b : ℤ)
        → v (row_net r.left) ≡ wrapped a → v (row_net r.right) ≡ wrapped b → (p q : Bool)
        → assigned nets v (record { left = row_net (suc i); right = row_expression p q r })
        ≡ wrapped (cond p (shifted_up r.shift a +ℤ b) (cond q (shifted_up r.shift a -ℤ b) (b -ℤ shifted_up r.shift a)))
    later_is i r l la lb a b ea eb true q =
        sum_is nets v (row_net (suc i)) (row_wide net (suc i) l) (row_net r.left) (row_wide net r.left la) r.shift a ea (row_net r.right) (row_wide net r.right lb) b eb
    later_is i r l la lb a b ea eb false true =
        difference_is nets v (row_net (suc i)) (row_wide net (suc i) l) (row_net r.left) (row_wide net r.left la) r.shift a ea (row_net r.right) (row_wide net r.right lb) b eb
    later_is i r l la lb a b ea eb false false =
        reversed_is nets v (row_net (suc i)) (row_wide net (suc i) l) (row_net r.left) (row_wide net r.left la) r.shift a ea (row_net r.right) (row_wide net r.right lb) b eb

    -- the right side of row i, the rows before it having their products
    row_is : (i : ℕ) → i < length rows → RowRule rows i → ((k : ℕ) → k < i → v (row_net k) ≡ row_product k) → assigned nets v (assign_row i (row_in rows i)) ≡ row_product i
    row_is zero l rule before =
        input_is nets v (row_net 0) (row_wide net 0 l) (ascii "x") refl refl x fits input ∙ ap wrapped (sym (ap (λ (n : ℕ). pos n *ℤ x) rule.value ∙ one_times x))
    row_is (suc i) l rule before =
        let r = row_in rows (suc i) in
        let left = (row_in rows r.left).value in
        let right = (row_in rows r.right).value in
        let la : r.left < suc i = rule.left in
        let lb : r.right < suc i = rule.right in
        later_is i r l (omega arith) (omega arith) (pos left *ℤ x) (pos right *ℤ x) (before r.left la) (before r.right lb) (eqb r.sign plus) (eqb r.sign minus)
        ∙ ap wrapped (ap (λ (p : ℤ). combined r.sign p (pos right *ℤ x)) (shifted_times x r.shift left)
        ∙ combined_times x r.sign (pos (lifted r.shift left)) (pos right)
        ∙ ap (λ (z : ℤ). z *ℤ x) (sym rule.worked))

    tap_by_lem : (k : ℕ) (t : TapRow) → k < length net.taps → t.row < length rows → (a : ℤ) → v (row_net t.row) ≡ wrapped a → (p q : Bool)
        → assigned nets v (record { left = tap_net k; right = tap_expression p q t })
        ≡ wrapped (cond p (shifted_up t.shift a) (cond q (neg_ℤ (shifted_up t.shift a)) (pos 0)))
    tap_by_lem k t l la a ea true q = shift_is nets v (tap_net k) (tap_wide net k l) (row_net t.row) (row_wide net t.row la) t.shift a ea
    tap_by_lem k t l la a ea false true = minus_is nets v (tap_net k) (tap_wide net k l) (row_net t.row) (row_wide net t.row la) t.shift a ea
    tap_by_lem k t l la a ea false false = nothing_is nets v (tap_net k) (tap_wide net k l)

    -- the right side of a tap, the rows having their products
    tap_is : (k : ℕ) (t : TapRow) → k < length net.taps → TapRowRule rows t → ((i : ℕ) → i < length rows → v (row_net i) ≡ row_product i)
        → assigned nets v (assign_tap k t) ≡ wrapped (coefficient_of rows t *ℤ x)
    unfolding coefficient_of
    tap_is k t l (is_empty_lem w) products = rw w.sign (nothing_is nets v (tap_net k) (tap_wide net k l) ∙ ap wrapped (sym (zero-*ℤ x)))
    tap_is k t l (is_product_lem w) products =
        let value = (row_in rows t.row).value in
        tap_by_lem k t l w.row (pos value *ℤ x) (products t.row w.row) (eqb t.sign plus) (eqb t.sign minus)
        ∙ ap wrapped (ap (with_sign t.sign) (shifted_times x t.shift value) ∙ signed_times x t.sign (pos (lifted t.shift value)))

    -- ---- all rows, in order

    all_rows : ((i : ℕ) → i < length rows → Holds nets v (assign_row i (row_in rows i))) → (n : ℕ) → n ≤ length rows → (i : ℕ) → i < n → v (row_net i) ≡ row_product i
    all_rows holds zero l i k = absurd (omega arith)
    all_rows holds (suc n) l i k =
        holds i (omega arith) ∙ row_is i (omega arith) (passed.rows i (omega arith)) (λ j g. all_rows holds n (omega arith) j (omega arith))

  -- ---- what settles

  -- every row and every tap has its product
  pub record Right (v : Values) : Type 0 where
    pub input : v (ascii "x") ≡ pattern_of 16 x
    pub rows : (i : ℕ) → i < length net.rows → v (row_net i) ≡ row_product i
    pub taps : (k : ℕ) → k < length net.taps → v (tap_net k) ≡ tap_product_of k

  pub settled_right : (v : Values) → Settled (module_for net) x v → Right v
  settled_right v s =
      let split = every_split (assign_rows 0 net.rows) (assign_taps 0 net.taps) s.assigns in
      let rs : (i : ℕ) → i < length net.rows → v (row_net i) ≡ row_product i =
      λ i l. all_rows v s.input (λ j g. subst (λ (k : ℕ). Holds nets v (assign_row k (row_in net.rows j))) (zero_plus j) (every_row (Holds nets v) 0 net.rows split.0 j g)) (length net.rows) (omega arith) i l in
      record {
        input = s.input;
        rows = rs;
        taps = λ k l. subst (λ (j : ℕ). Holds nets v (assign_tap j (tap_row_in net.taps k))) (zero_plus k) (every_tap (Holds nets v) 0 net.taps split.1 k l) ∙ tap_is v s.input k (tap_row_in net.taps k) l (passed.taps k l) rs;
      }
