-- What the sieve tells of the left rows: where a cell has no mark of a row below m, no such row goes with the right row. Assumes nothing.
use mathlib.Core.Path.{◌≡◌, sym, ap, subst, ◌∙◌}
use mathlib.Core.List.{List}
use mathlib.Core.Logic.{⊎_elim}
use Prim.Native.Nat.{ℕ, zero, suc, ◌+◌, ◌*◌, ◌-◌, ◌/◌, ◌%◌, ◌^◌, ◌≤◌, ◌<◌}
use native.Mathlib.Nat.{mul_assoc, mul-le-mul_left, pow-succ'}
use native.Mathlib.Omega.{arith}
use lib.ListN.{length, get_or}
use Rattle.std.proofs.lemmas.Bool.{cases_lt}
use Rattle.network.specs.RowRule.{lifted}
use Rattle.build_index.specs.declared.IndexedRows.{IndexedRows}
use Rattle.build_index.specs.Inner.{value_at}
use Rattle.build_sieve.specs.declared.SieveTables.{SieveTables}
use Rattle.build_sieve.specs.declared.Pairs.{Pairs}
use Rattle.build_sieve.specs.Inner.{cell_of, shift_for_of, cell_within, mark_at, InMarks}
use Rattle.build_sieve.proofs.Cells.{cell_lifted}
use Rattle.build_sieve.proofs.Sieves.{cell_in}
use Rattle.build_left_rows.specs.Inner.{NoTurn, Sifting, InBlock}
use Rattle.build_left_rows.proofs.Turns.{fewer_turns}

-- the cells of the numbers that belong to the right rows from one on: a cell without a mark of a row below m tells that no row below m, lifted, is the number
pub record Telling (table marks cells : List ℕ) (at count n : ℕ) (number : ℕ → ℕ) : Type 0 where
  pub in_marks : InMarks marks cells count
  pub tells : (j m : ℕ) → j < count → at + j < n → m ≤ n → mark_at marks cells j * m < 128
      → (s i : ℕ) → s < 32 → i < m → lifted s (value_at table i) ≡ number (value_at table (at + j)) → ⊥

module _ (r : IndexedRows) (w : SieveTables) (v : ℕ) (s : Sifting r w v) where
  abbrev t : List ℕ
  t = r.table.now

  abbrev values : List ℕ
  values = w.values.now

  abbrev marks : List ℕ
  marks = w.marks.now

  -- ---- the values, and the zeros after them
  pub values_small : (i : ℕ) → get_or w.values.now i 0 < 2 ^ 31
  values_small i =
      ⊎_elim (λ (l : i < r.count). omega (arith, s.sieve.values_are i l, s.bounded i l)) (λ (l : r.count ≤ i). omega (arith, s.sieve.rest i l)) (cases_lt i r.count)

  pub values_new : (i : ℕ) → get_or w.values.now i 0 ≡ v → ⊥
  values_new i e =
      ⊎_elim (λ (l : i < r.count). s.new i l (sym (s.sieve.values_are i l) ∙ e)) (λ (l : r.count ≤ i). omega (arith, s.sieve.rest i l, s.new_odd, e)) (cases_lt i r.count)

  -- ---- a number whose cell has no mark of a row below m is no such row, lifted
  abbrev None : ℕ → ℕ → Type 0
  None m x = get_or marks (cell_within (length marks) x) 0 * m < 128

  no_row : (m x k i : ℕ) → i < r.count → i < m → x ≡ 2 ^ k * value_at t i → x < 2 ^ 32 → None m x → ⊥
  no_row m x k i l b e h none =
      let q = ap (cell_of (shift_for_of (length marks))) e ∙ cell_lifted (shift_for_of (length marks)) k (value_at t i) (omega (arith, s.odd i l)) (omega (arith, e, h)) in
      let own = get_or marks (cell_within (length marks) (value_at t i)) 0 in
      let first : own * (i + 1) ≤ own * m = mul-le-mul_left own (omega arith) in
      omega (arith, s.sieve.marked i l, first, ap (λ (c : ℕ). get_or marks c 0 * m) q, none)

  half_lifted : (x k l : ℕ) → x ≡ lifted (suc k) l → x / 2 ≡ 2 ^ k * l
  half_lifted x k l e =
      let q : lifted (suc k) l ≡ 2 * (2 ^ k * l) = rw (pow-succ' 2 k) (mul_assoc 2 (2 ^ k) l) in
      omega (arith, e, q)

  no_sum : (m x k i : ℕ) → m ≤ r.count → x % 2 ≡ 1 → x < 2 ^ 31 → i < m → lifted k (value_at t i) ≡ v + x → None m ((v + x) / 2) → ⊥
  no_sum m x zero i few odd small l e none = omega (arith, s.odd i (omega arith), s.new_odd, e)
  no_sum m x (suc k) i few odd small l e none = no_row m ((v + x) / 2) k i (omega arith) l (half_lifted (v + x) k (value_at t i) (sym e)) (omega (arith, s.new_small)) none

  -- ---- a stretch of right rows
  module _ (at count : ℕ) (p : Pairs) (b : InBlock w at count v p) where
    pub sums_tell : Telling r.table.now w.marks.now p.sums at count r.count (λ (x : ℕ). v + x)
    sums_tell = record {
      in_marks = λ j l. omega (arith, b.cells.sums_are j l, cell_in (length marks) ((v + get_or values (at + j) 0) / 2) s.sieve.cells);
      tells = λ j m l q few u k i h d e.
          no_sum m (value_at t (at + j)) k i few (s.odd (at + j) q) (s.bounded (at + j) q) d e
          (subst (λ (x : ℕ). None m ((v + x) / 2)) (s.sieve.values_are (at + j) q) (subst (λ (c : ℕ). get_or marks c 0 * m < 128) (b.cells.sums_are j l) u));
    }

    pub differences_tell : Telling r.table.now w.marks.now p.differences at count r.count (λ (x : ℕ). (v - x) + (x - v))
    differences_tell = record {
      in_marks = λ j l. omega (arith, b.cells.differences_are j l, cell_in (length marks) ((v - get_or values (at + j) 0) + (get_or values (at + j) 0 - v)) s.sieve.cells);
      tells = λ j m l q few u k i h d e.
          no_row m ((v - value_at t (at + j)) + (value_at t (at + j) - v)) k i (omega arith) d (sym e) (omega (arith, s.new_small, s.bounded (at + j) q))
          (subst (λ (x : ℕ). None m ((v - x) + (x - v))) (s.sieve.values_are (at + j) q) (subst (λ (c : ℕ). get_or marks c 0 * m < 128) (b.cells.differences_are j l) u));
    }

module _ (table marks cells : List ℕ) (at count n : ℕ) (number : ℕ → ℕ) (w : Telling table marks cells at count n number) (m : ℕ) (h : m ≤ 32 * n) where
  -- a cell with no mark of the rows that have a turn below m
  pub no_turn_told : (j : ℕ) → j < count → at + j < n → mark_at marks cells j * ((m + 31) / 32) < 128 → NoTurn table m (number (value_at table (at + j)))
  no_turn_told j l b u s i k e = w.tells j ((m + 31) / 32) l b (omega arith) u s i k (omega arith)

  -- a mask names the cells that have one, and what they belong to was looked up
  pub named_or_told : (mask low j i : ℕ) → low ≤ m → j < count → at + j < n
      → (mask / 2 ^ i % 2 ≡ 0 → mark_at marks cells j * ((m + 31) / 32) < 128)
      → (mask / 2 ^ i % 2 ≡ 1 → NoTurn table low (number (value_at table (at + j))))
      → NoTurn table low (number (value_at table (at + j)))
  named_or_told mask low j i less l b zero_is one_is =
      ⊎_elim (λ (none : mask / 2 ^ i % 2 < 1). fewer_turns table m low (number (value_at table (at + j))) less (no_turn_told j l b (zero_is (omega arith))))
      (λ (some : 1 ≤ mask / 2 ^ i % 2). one_is (omega arith))
      (cases_lt (mask / 2 ^ i % 2) 1)

-- fewer cells
pub first_cells : (s : SieveTables) (at count v : ℕ) (p : Pairs) (k : ℕ) → k ≤ count → InBlock s at count v p → InBlock s at k v p
first_cells s at count v p k h b = record {
  within = omega (arith, b.within);
  from = b.from;
  few = omega (arith, b.few);
  cells = record { sums_are = λ j l. b.cells.sums_are j (omega arith); differences_are = λ j l. b.cells.differences_are j (omega arith) };
}
