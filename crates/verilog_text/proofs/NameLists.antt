-- Lists of the names n(j), n(j+1), .. and t(k), t(k+1), .., and which names are among them. Assumes nothing.
use mathlib.Core.Path.{◌≡◌, refl, ap, ◌∙◌}
use mathlib.Core.Bool.{Bool, true, false, cond}
use mathlib.Core.List.{List, [], ◌∷◌, ◌++◌}
use Prim.Native.Nat.{ℕ, zero, suc, ◌+◌, ◌≤◌, ◌<◌}
use native.Mathlib.Omega.{arith}
use lib.ListN.{length}
use Rattle.network.specs.declared.Row.{Row}
use Rattle.network.specs.declared.TapRow.{TapRow}
use Rattle.text.specs.Numbers.{decimal}
use Rattle.verilog.proofs.Same.{unequal}
use Rattle.verilog.specs.Syntax.{Net, Assign, same}
use Rattle.verilog.specs.Sound.{amongst, called_in, left_in}
use Rattle.verilog_text.specs.Promise.{tap_net, nets_from}
use Rattle.verilog_text.proofs.Expected.{row_net, assign_rows, assign_taps}
use Rattle.verilog_text.proofs.Names.{decimal_equal, later_name}

-- ---- lists of names

abbrev pub names : ℕ → ℕ → ℕ → List (List ℕ)
names c j zero = []
names c j (suc n) = (c ∷ decimal j) ∷ names c (suc j) n

pub called_nets : (c j n : ℕ) (ns : List Net) → called_in (nets_from c j n ++ ns) ≡ names c j n ++ called_in ns
called_nets c j zero ns = refl
called_nets c j (suc n) ns = ap (λ (l : List (List ℕ)). (c ∷ decimal j) ∷ l) (called_nets c (suc j) n ns)

pub called_only : (c j n : ℕ) → called_in (nets_from c j n) ≡ names c j n
called_only c j zero = refl
called_only c j (suc n) = ap (λ (l : List (List ℕ)). (c ∷ decimal j) ∷ l) (called_only c (suc j) n)

pub left_rows : (j : ℕ) (rs : List Row) (bs : List Assign) → left_in (assign_rows j rs ++ bs) ≡ names 110 j (length rs) ++ left_in bs
left_rows j [] bs = refl
left_rows j (r ∷ rs) bs = ap (λ (l : List (List ℕ)). row_net j ∷ l) (left_rows (suc j) rs bs)

pub left_taps : (j : ℕ) (ts : List TapRow) → left_in (assign_taps j ts) ≡ names 116 j (length ts)
left_taps j [] = refl
left_taps j (t ∷ ts) = ap (λ (l : List (List ℕ)). tap_net j ∷ l) (left_taps (suc j) ts)

-- ---- a name among them

either_list : (s : List ℕ) (xs ys : List (List ℕ)) → amongst s (xs ++ ys) ≡ cond (amongst s xs) true (amongst s ys)
either_list s [] ys = refl
either_list s (t ∷ xs) ys = go (either_list s xs ys) (same t s)
  where
    go : amongst s (xs ++ ys) ≡ cond (amongst s xs) true (amongst s ys) → (b : Bool)
        → cond b true (amongst s (xs ++ ys)) ≡ cond (cond b true (amongst s xs)) true (amongst s ys)
    go e true = refl
    go e false = e

pub in_first : (s : List ℕ) (xs ys : List (List ℕ)) → amongst s xs ≡ true → amongst s (xs ++ ys) ≡ true
in_first s xs ys e = either_list s xs ys ∙ rw e

pub in_second : (s : List ℕ) (xs ys : List (List ℕ)) → amongst s ys ≡ true → amongst s (xs ++ ys) ≡ true
in_second s xs ys e = either_list s xs ys ∙ rw e (go (amongst s xs))
  where
    go : (b : Bool) → cond b true true ≡ true
    go true = refl
    go false = refl

pub in_neither : (s : List ℕ) (xs ys : List (List ℕ)) → amongst s xs ≡ false → amongst s ys ≡ false → amongst s (xs ++ ys) ≡ false
in_neither s xs ys e f = either_list s xs ys ∙ rw (e, f)

head_of : (a b : ℕ) (s t : List ℕ) → a ∷ s ≡ b ∷ t → a ≡ b
head_of a b s t e = cc

tail_of : (a b : ℕ) (s t : List ℕ) → a ∷ s ≡ b ∷ t → s ≡ t
tail_of a b s t e = cc

pub hit : (c i j n : ℕ) → j ≤ i → i < j + n → amongst (c ∷ decimal i) (names c j n) ≡ true
hit c i j zero h k = absurd (omega arith)
hit c i j (suc n) h k = go (same (c ∷ decimal j) (c ∷ decimal i)) refl (λ g. hit c i (suc j) n g (omega arith))
  where
    go : (b : Bool) → same (c ∷ decimal j) (c ∷ decimal i) ≡ b → (suc j ≤ i → amongst (c ∷ decimal i) (names c (suc j) n) ≡ true)
        → amongst (c ∷ decimal i) (names c j (suc n)) ≡ true
    go true e f = rw e
    go false e f = rw e (f (later_name c i j h e))

pub miss : (c i j n : ℕ) → i < j → amongst (c ∷ decimal i) (names c j n) ≡ false
miss c i j zero h = refl
miss c i j (suc n) h =
    rw (unequal (c ∷ decimal j) (c ∷ decimal i) (λ e. let q : j ≡ i = decimal_equal j i (tail_of c c (decimal j) (decimal i) e) in omega arith)) (miss c i (suc j) n (omega arith))

pub other : (c d : ℕ) (s : List ℕ) (j n : ℕ) → (d ≡ c → ⊥) → amongst (c ∷ s) (names d j n) ≡ false
other c d s j zero h = refl
other c d s j (suc n) h = rw (unequal (d ∷ decimal j) (c ∷ s) (λ e. h (head_of d c (decimal j) s e))) (other c d s (suc j) n h)
