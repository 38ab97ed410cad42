-- The assigns of a network's text stand in order (`text_ordered`). Assumes nothing.
use mathlib.Core.Path.{◌≡◌, refl, ap, ◌∙◌}
use mathlib.Core.Bool.{Bool, true, false, not, ◌&&◌}
use mathlib.Core.List.{List, [], ◌∷◌, ◌++◌}
use Prim.Native.Nat.{ℕ, zero, suc, ◌+◌, ◌<◌}
use native.Mathlib.Omega.{arith}
use lib.Dec.{eqb}
use lib.IntN.{ℤ}
use lib.ListN.{length}
use Rattle.network.specs.declared.Row.{Row}
use Rattle.network.specs.declared.TapRow.{TapRow}
use Rattle.network.specs.Rows.{Network, plus, minus, row_in}
use Rattle.network.specs.RowRule.{RowRule}
use Rattle.network.specs.Accepted.{KeepsRules}
use Rattle.text.specs.Ascii.{ascii}
use Rattle.text.specs.Numbers.{decimal}
use Rattle.verilog.specs.Sound.{amongst, left_in, uses_none, ordered}
use Rattle.verilog_text.proofs.Expected.{row_net, row_expression, row_right_side, tap_expression, assign_rows, assign_taps, module_for}
use Rattle.verilog_text.proofs.NameLists.{names, left_rows, left_taps, in_neither, miss, other}

three : (a b c : Bool) → a ≡ true → b ≡ false → c ≡ true → (a && not b && c) ≡ true
three a b c p q r = rw (p, q, r)

neither_last : (a b : Bool) → a ≡ false → b ≡ false → (not a && true && not b) ≡ true
neither_last a b p q = rw (p, q)

neither_first : (a b : Bool) → a ≡ false → b ≡ false → (not b && (not a && true)) ≡ true
neither_first a b p q = rw (p, q)

-- ---- taps use rows only

tap_uses : (all : List (List ℕ)) → ((s : List ℕ) → amongst (110 ∷ s) all ≡ false) → (t : TapRow) (p q : Bool) → uses_none all (tap_expression p q t) ≡ true
unfolding uses_none
tap_uses all f t true q = rw (f (decimal t.row))
tap_uses all f t false true = rw (f (decimal t.row))
tap_uses all f t false false = refl

taps_ordered : (k : ℕ) (ts : List TapRow) → ordered (assign_taps k ts) ≡ true
unfolding ordered
taps_ordered k [] = refl
taps_ordered k (t ∷ ts) =
    let e : left_in (assign_taps (suc k) ts) ≡ names 116 (suc k) (length ts) = left_taps (suc k) ts in
    rw e
    (three _ _ _
    (tap_uses (names 116 k (suc (length ts))) (λ s. other 110 116 s k (suc (length ts)) (λ q. omega arith)) t (eqb t.sign plus) (eqb t.sign minus))
    (miss 116 k (suc k) (length ts) (omega arith))
    (taps_ordered (suc k) ts))

-- ---- a row uses earlier rows only

row_uses : (all : List (List ℕ)) (r : Row) → amongst (row_net r.left) all ≡ false → amongst (row_net r.right) all ≡ false → (p q : Bool)
    → uses_none all (row_expression p q r) ≡ true
unfolding uses_none
row_uses all r a b true q = neither_last _ _ a b
row_uses all r a b false true = neither_last _ _ a b
row_uses all r a b false false = neither_first _ _ a b

right_uses : (rows : List Row) (i : ℕ) → RowRule rows i → (all : List (List ℕ)) → ((l : ℕ) → l < i → amongst (row_net l) all ≡ false) → amongst (ascii "x") all ≡ false
    → uses_none all (row_right_side i (row_in rows i)) ≡ true
unfolding uses_none
right_uses rows zero rule all f e = rw e
right_uses rows (suc i) rule all f e =
    let r = row_in rows (suc i) in
    row_uses all r (f r.left rule.left) (f r.right rule.right) (eqb r.sign plus) (eqb r.sign minus)

rows_ordered : (j : ℕ) (rs : List Row) (ts : List TapRow)
    → ((i : ℕ) → i < length rs → (k : ℕ) → k ≡ j + i → (all : List (List ℕ)) → ((l : ℕ) → l < k → amongst (row_net l) all ≡ false) → amongst (ascii "x") all ≡ false
    → uses_none all (row_right_side k (row_in rs i)) ≡ true)
    → ordered (assign_rows j rs ++ assign_taps 0 ts) ≡ true
unfolding ordered
rows_ordered j [] ts f = taps_ordered 0 ts
rows_ordered j (r ∷ rs) ts f =
    let after = names 110 (suc j) (length rs) in
    let e : left_in (assign_rows (suc j) rs ++ assign_taps 0 ts) ≡ after ++ names 116 0 (length ts) =
    left_rows (suc j) rs (assign_taps 0 ts) ∙ ap (λ (l : List (List ℕ)). after ++ l) (left_taps 0 ts) in
    rw e
    (three _ _ _
    (f 0 (omega arith) j (omega arith) (names 110 j (suc (length rs)) ++ names 116 0 (length ts))
    (λ l h. in_neither (row_net l) (names 110 j (suc (length rs))) (names 116 0 (length ts)) (miss 110 l j (suc (length rs)) h) (other 110 116 (decimal l) 0 (length ts) (λ q. omega arith)))
    (in_neither (ascii "x") (names 110 j (suc (length rs))) (names 116 0 (length ts)) (other 120 110 [] j (suc (length rs)) (λ q. omega arith)) (other 120 116 [] 0 (length ts) (λ q. omega arith))))
    (in_neither (row_net j) after (names 116 0 (length ts)) (miss 110 j (suc j) (length rs) (omega arith)) (other 110 116 (decimal j) 0 (length ts) (λ q. omega arith)))
    (rows_ordered (suc j) rs ts (λ i l k q. f (suc i) (omega arith) k (omega arith))))

-- ---- the statement

pub text_ordered : (net : Network) (h : List ℤ) → KeepsRules net h → ordered (module_for net).assigns ≡ true
text_ordered net h passed =
    rows_ordered 0 net.rows net.taps (λ i l k q. let e : k ≡ i = omega arith in rw e (right_uses net.rows i (passed.rows i l)))
