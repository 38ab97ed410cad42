-- The module of a network's text is sound: names differ, every output and wire is assigned once, what is used is declared, and was assigned before. Assumes nothing.
use mathlib.Core.Path.{◌≡◌, refl, ap, ◌∙◌}
use mathlib.Core.Bool.{Bool, true, false, not, ◌&&◌}
use mathlib.Core.List.{List, [], ◌∷◌, ◌++◌}
use Prim.Native.Nat.{ℕ, zero, suc, ◌+◌, ◌^◌, ◌≤◌, ◌<◌}
use native.Mathlib.Omega.{arith}
use borrow.Author.Tests.{lt-ltb, ne_eqb}
use lib.Dec.{eqb, ltb}
use lib.IntN.{ℤ}
use lib.ListN.{length}
use Rattle.network.specs.declared.Row.{Row}
use Rattle.network.specs.declared.TapRow.{TapRow}
use Rattle.network.specs.Rows.{Network, plus, minus, row_in, tap_row_in}
use Rattle.network.specs.RowRule.{RowRule}
use Rattle.network.specs.TapRowRule.{TapRowRule, is_empty_lem, is_product_lem}
use Rattle.network.specs.Accepted.{KeepsRules}
use Rattle.text.specs.Ascii.{ascii}
use Rattle.text.specs.Numbers.{decimal}
use Rattle.verilog_text.proofs.Digits.{AllDigits, no_more, a_digit, all_digits}
use Rattle.verilog.specs.Syntax.{Assign}
use Rattle.verilog.specs.Sound.{amongst, distinct, within, keywords, any_keyword, closed, all_closed, called_in, left_in, targets, sound}
use Rattle.verilog_text.specs.Promise.{tap_net, nets_from}
use Rattle.verilog_text.proofs.Expected.{row_net, row_expression, row_right_side, tap_expression, assign_tap, assign_rows, assign_taps, module_for}
use Rattle.verilog_text.proofs.Scanning.{some_digit}
use Rattle.verilog_text.proofs.Ordering.{text_ordered}
use Rattle.verilog_text.proofs.NameLists.{names, called_nets, called_only, left_rows, left_taps, in_first, in_second, in_neither, hit, miss, other}

-- ---- names differ

distinct_one : (c j n : ℕ) → distinct (names c j n) ≡ true
distinct_one c j zero = refl
distinct_one c j (suc n) = rw (miss c j (suc j) n (omega arith)) (distinct_one c (suc j) n)

distinct_two : (c j n d k m : ℕ) → (d ≡ c → ⊥) → distinct (names c j n ++ names d k m) ≡ true
distinct_two c j zero d k m h = distinct_one d k m
distinct_two c j (suc n) d k m h =
    rw (in_neither (c ∷ decimal j) (names c (suc j) n) (names d k m) (miss c j (suc j) n (omega arith)) (other c d (decimal j) k m h)) (distinct_two c (suc j) n d k m h)

-- ---- all of them among others

within_names : (all more : List (List ℕ)) (c j n : ℕ) → ((i : ℕ) → j ≤ i → i < j + n → amongst (c ∷ decimal i) all ≡ true) → within more all ≡ true
    → within (names c j n ++ more) all ≡ true
within_names all more c j zero f e = e
within_names all more c j (suc n) f e = rw (f j (omega arith) (omega arith)) (within_names all more c (suc j) n (λ i h k. f i (omega arith) (omega arith)) e)

within_only : (all : List (List ℕ)) (c j n : ℕ) → ((i : ℕ) → j ≤ i → i < j + n → amongst (c ∷ decimal i) all ≡ true) → within (names c j n) all ≡ true
within_only all c j zero f = refl
within_only all c j (suc n) f = rw (f j (omega arith) (omega arith)) (within_only all c (suc j) n (λ i h k. f i (omega arith) (omega arith)))

-- ---- no keywords

-- a letter n or t, and a digit: keywords have letters there
n_digit : {s : List ℕ} → AllDigits s → 0 < length s → amongst (110 ∷ s) keywords ≡ false
n_digit no_more l = absurd (omega arith)
n_digit (a_digit d low high w) l =
    rw (ne_eqb 97 d (λ e. omega arith), ne_eqb 101 d (λ e. omega arith), ne_eqb 109 d (λ e. omega arith), ne_eqb 111 d (λ e. omega arith))

t_digit : {s : List ℕ} → AllDigits s → 0 < length s → amongst (116 ∷ s) keywords ≡ false
t_digit no_more l = absurd (omega arith)
t_digit (a_digit d low high w) l = rw (ne_eqb 97 d (λ e. omega arith), ne_eqb 105 d (λ e. omega arith), ne_eqb 114 d (λ e. omega arith))

keyword_free : (k m i n : ℕ) → any_keyword (names 116 k m ++ names 110 i n) ≡ false
keyword_free k zero i zero = refl
keyword_free k zero i (suc n) = rw (n_digit (all_digits i) (some_digit i)) (keyword_free k zero (suc i) n)
keyword_free k (suc m) i n = rw (t_digit (all_digits k) (some_digit k)) (keyword_free (suc k) m i n)

-- ---- what is used is declared

closed_rows : (all : List (List ℕ)) (j : ℕ) (rs : List Row) (bs : List Assign)
    → ((i : ℕ) → i < length rs → (k : ℕ) → k ≡ j + i → closed all (row_right_side k (row_in rs i)) ≡ true) → all_closed all bs ≡ true → all_closed all (assign_rows j rs ++ bs) ≡ true
closed_rows all j [] bs f e = e
closed_rows all j (r ∷ rs) bs f e =
    rw (f 0 (omega arith) j (omega arith)) (closed_rows all (suc j) rs bs (λ i l k q. f (suc i) (omega arith) k (omega arith)) e)

closed_taps : (all : List (List ℕ)) (j : ℕ) (ts : List TapRow)
    → ((i : ℕ) → i < length ts → closed all (assign_tap 0 (tap_row_in ts i)).right ≡ true) → all_closed all (assign_taps j ts) ≡ true
closed_taps all j [] f = refl
closed_taps all j (t ∷ ts) f = rw (f 0 (omega arith)) (closed_taps all (suc j) ts (λ i l. f (suc i) (omega arith)))

-- ---- the statement

module _ (net : Network) (h : List ℤ) (passed : KeepsRules net h) where
  abbrev pub n : ℕ
  n = length net.rows

  abbrev pub m : ℕ
  m = length net.taps

  abbrev taps_rows : List (List ℕ)
  taps_rows = names 116 0 m ++ names 110 0 n

  abbrev pub rows_taps : List (List ℕ)
  rows_taps = names 110 0 n ++ names 116 0 m

  targets_are : called_in (targets (module_for net)) ≡ taps_rows
  targets_are = called_nets 116 0 m (nets_from 110 0 n) ∙ ap (λ (l : List (List ℕ)). names 116 0 m ++ l) (called_only 110 0 n)

  pub lefts_are : left_in (module_for net).assigns ≡ rows_taps
  lefts_are = left_rows 0 net.rows (assign_taps 0 net.taps) ∙ ap (λ (l : List (List ℕ)). names 110 0 n ++ l) (left_taps 0 net.taps)

  row_declared : (i : ℕ) → i < n → amongst (row_net i) (ascii "x" ∷ taps_rows) ≡ true
  row_declared i l = in_second (row_net i) (names 116 0 m) (names 110 0 n) (hit 110 i 0 n (omega arith) (omega arith))

  both : (a b : Bool) → a ≡ true → b ≡ true → (a && b) ≡ true
  both a b e f = rw (e, f)

  lifting_closed : (i s : ℕ) → i < n → s ≤ 31 → (amongst (row_net i) (ascii "x" ∷ taps_rows) && ltb s (2 ^ 31)) ≡ true
  lifting_closed i s l k = both _ _ (row_declared i l) (lt-ltb s (2 ^ 31) (omega arith))

  row_closed : (r : Row) → r.left < n → r.right < n → r.shift ≤ 31 → (p q : Bool) → closed (ascii "x" ∷ taps_rows) (row_expression p q r) ≡ true
  unfolding closed
  row_closed r a b s true q = both _ _ (lifting_closed r.left r.shift a s) (row_declared r.right b)
  row_closed r a b s false true = both _ _ (lifting_closed r.left r.shift a s) (row_declared r.right b)
  row_closed r a b s false false = both _ _ (row_declared r.right b) (lifting_closed r.left r.shift a s)

  right_closed : (i : ℕ) → i < n → RowRule net.rows i → closed (ascii "x" ∷ taps_rows) (row_right_side i (row_in net.rows i)) ≡ true
  unfolding closed
  right_closed zero l rule = refl
  right_closed (suc i) l rule =
      let r = row_in net.rows (suc i) in
      let a : r.left < suc i = rule.left in
      let b : r.right < suc i = rule.right in
      row_closed r (omega arith) (omega arith) rule.shift_to (eqb r.sign plus) (eqb r.sign minus)

  tap_closed_by : (t : TapRow) → t.row < n → t.shift ≤ 31 → (p q : Bool) → closed (ascii "x" ∷ taps_rows) (tap_expression p q t) ≡ true
  unfolding closed
  tap_closed_by t l s true q = lifting_closed t.row t.shift l s
  tap_closed_by t l s false true = lifting_closed t.row t.shift l s
  tap_closed_by t l s false false = refl

  tap_closed : (t : TapRow) → TapRowRule net.rows t → closed (ascii "x" ∷ taps_rows) (assign_tap 0 t).right ≡ true
  unfolding closed
  tap_closed t (is_empty_lem w) = rw w.sign
  tap_closed t (is_product_lem w) = tap_closed_by t w.row w.shift (eqb t.sign plus) (eqb t.sign minus)

  assigns_closed : all_closed (ascii "x" ∷ taps_rows) (module_for net).assigns ≡ true
  assigns_closed =
      closed_rows (ascii "x" ∷ taps_rows) 0 net.rows (assign_taps 0 net.taps)
      (λ i l k q. let e : k ≡ i = omega arith in rw e (right_closed i l (passed.rows i l)))
      (closed_taps (ascii "x" ∷ taps_rows) 0 net.taps (λ k l. tap_closed (tap_row_in net.taps k) (passed.taps k l)))

  six : (a b c d e f : Bool) → a ≡ true → b ≡ true → c ≡ true → d ≡ true → e ≡ true → f ≡ true → (a && b && c && d && e && f) ≡ true
  six a b c d e f pa pb pc pd pe pf = rw (pa, pb, pc, pd, pe, pf)

  pub text_sound : sound (module_for net) ≡ true
  unfolding sound
  text_sound =
      rw (targets_are, lefts_are)
      (six _ _ _ _ _ _
      (ap not (keyword_free 0 m 0 n))
      (rw (in_neither (ascii "x") (names 116 0 m) (names 110 0 n) (other 120 116 [] 0 m (λ e. omega arith)) (other 120 110 [] 0 n (λ e. omega arith))) (distinct_two 116 0 m 110 0 n (λ e. omega arith)))
      (within_names taps_rows (names 116 0 m) 110 0 n (λ i l k. in_second (row_net i) (names 116 0 m) (names 110 0 n) (hit 110 i 0 n l k))
      (within_only taps_rows 116 0 m (λ i l k. in_first (tap_net i) (names 116 0 m) (names 110 0 n) (hit 116 i 0 m l k))))
      (within_names rows_taps (names 110 0 n) 116 0 m (λ i l k. in_second (tap_net i) (names 110 0 n) (names 116 0 m) (hit 116 i 0 m l k))
      (within_only rows_taps 110 0 n (λ i l k. in_first (row_net i) (names 110 0 n) (names 116 0 m) (hit 110 i 0 n l k))))
      assigns_closed
      (text_ordered net h passed))
