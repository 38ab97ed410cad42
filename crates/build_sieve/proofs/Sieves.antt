-- The sieve while rows join it, and the cells of a stretch of values. Assumes nothing.
use mathlib.Core.Path.{◌≡◌, refl, sym, ap, subst, ◌∙◌}
use mathlib.Core.Bool.{Bool, true, false, cond}
use mathlib.Core.List.{List}
use mathlib.Core.Logic.{⊎_elim}
use Prim.Native.Nat.{ℕ, ◌+◌, ◌*◌, ◌-◌, ◌^◌, ◌≤◌, ◌<◌}
use native.Mathlib.Nat.{le_trans, mul-le-mul_right}
use native.Mathlib.Omega.{arith}
use borrow.Author.Count.{below_more}
use borrow.Author.Tests.{ltb-false}
use lib.Dec.{ltb}
use lib.ListN.{length, get_or, set, length-set, replicate}
use lib.Seq.{get_or-set_same, get_or-set_other}
use Rattle.sequence.proofs.Members.{same_at}
use Rattle.build_index.specs.Inner.{value_at}
use Rattle.std.proofs.lemmas.Bool.{cases_eq}
use Rattle.build_sieve.specs.Inner.{shift_for_of, cell_within, SieveOf}
use Rattle.build_sieve.proofs.Cells.{cell_low}

-- ---- a cell is one of the marks

pub shift_small : (m : ℕ) → shift_for_of m < 32
unfolding shift_for_of
shift_small m = go (ltb m 8192) (ltb m 32768)
  where
    go : (a b : Bool) → cond a 21 (cond b 19 17) < 32
    go true b = omega arith
    go false true = omega arith
    go false false = omega arith

cells_fit : (m : ℕ) → 2048 ≤ m → 2 ^ (32 - shift_for_of m) ≤ m
unfolding shift_for_of
cells_fit m h = go (ltb m 8192) (ltb m 32768) refl refl
  where
    go : (a b : Bool) → ltb m 8192 ≡ a → ltb m 32768 ≡ b → 2 ^ (32 - cond a 21 (cond b 19 17)) ≤ m
    go true b e f = h
    go false true e f = ltb-false m 8192 e
    go false false e f = ltb-false m 32768 f

pub cell_in : (m x : ℕ) → 2048 ≤ m → cell_within m x < m
cell_in m x h = let s = shift_small m in omega (arith, cell_low (shift_for_of m) x (omega arith), cells_fit m h)

-- ---- a row more

-- row i, of value x, joins: its cell keeps its marks and has y for one
module _ (t values marks : List ℕ) (i x y : ℕ) (s : SieveOf t values marks i) (room : i + 8 ≤ length values) (e : x ≡ value_at t i)
    (kept : get_or marks (cell_within (length marks) x) 0 ≤ y) (high : 128 ≤ y * (i + 1)) where
  abbrev cell : ℕ
  cell = cell_within (length marks) x

  within : cell < length marks
  within = cell_in (length marks) x s.cells

  -- no mark becomes lower
  read_mark : (c : ℕ) → get_or marks c 0 ≤ get_or (set marks cell y) c 0
  read_mark c =
      ⊎_elim (λ (same : c ≡ cell). subst (λ (k : ℕ). get_or marks k 0 ≤ get_or (set marks cell y) k 0) (sym same) (omega (arith, kept, get_or-set_same marks cell y 0 within)))
      (λ (other : c ≡ cell → ⊥). omega (arith, get_or-set_other marks cell c y 0 other)) (cases_eq c cell)

  marked_next : (k : ℕ) → k < i + 1 → 128 ≤ get_or (set marks cell y) (cell_within (length marks) (value_at t k)) 0 * (k + 1)
  marked_next =
      below_more (λ k. 128 ≤ get_or (set marks cell y) (cell_within (length marks) (value_at t k)) 0 * (k + 1)) i
      (λ k b. le_trans (s.marked k b) (mul-le-mul_right (k + 1) (read_mark (cell_within (length marks) (value_at t k)))))
      (subst (λ (z : ℕ). 128 ≤ get_or (set marks cell y) (cell_within (length marks) z) 0 * (i + 1)) e
      (subst (λ (z : ℕ). 128 ≤ z * (i + 1)) (sym (get_or-set_same marks cell y 0 within)) high))

  pub sieve_next : SieveOf t (set values i x) (set marks (cell_within (length marks) x) y) (i + 1)
  sieve_next =
      let q : length marks ≡ length (set marks cell y) = sym (simp length-set) in
      record {
        room = simp length-set (omega arith);
        cells = simp length-set s.cells;
        values_are =
            below_more (λ k. get_or (set values i x) k 0 ≡ value_at t k) i
            (λ k b. get_or-set_other values i k x 0 (λ f. omega arith) ∙ s.values_are k b)
            (get_or-set_same values i x 0 (omega arith) ∙ e);
        rest = λ k b. get_or-set_other values i k x 0 (λ f. omega arith) ∙ s.rest k (omega arith);
        marked = subst (λ (m : ℕ). (k : ℕ) → k < i + 1 → 128 ≤ get_or (set marks cell y) (cell_within m (value_at t k)) 0 * (k + 1)) q marked_next;
      }

-- what is said of n rows holds of every table that has them
pub sieve_kept : (t t' values marks : List ℕ) (n : ℕ) → ((i : ℕ) → i < n → value_at t' i ≡ value_at t i) → SieveOf t values marks n → SieveOf t' values marks n
sieve_kept t t' values marks n same s = record {
  room = s.room;
  cells = s.cells;
  values_are = λ i b. s.values_are i b ∙ sym (same i b);
  rest = s.rest;
  marked = λ i b. subst (λ (y : ℕ). 128 ≤ get_or marks (cell_within (length marks) y) 0 * (i + 1)) (sym (same i b)) (s.marked i b);
}

-- no rows: the values are cleared
pub sieve_none : (t values marks : List ℕ) (a : ℕ) → values ≡ replicate {A = ℕ} a 0 → 7 ≤ length values → 2048 ≤ length marks → SieveOf t values marks 0
sieve_none t values marks a e h l = record {
  room = h;
  cells = l;
  values_are = λ i k. absurd (omega arith);
  rest = λ i k. ap (λ (xs : List ℕ). get_or xs i 0) e ∙ same_at a i 0;
  marked = λ i k. absurd (omega arith);
}
