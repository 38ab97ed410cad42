-- The turns of the search that no right row goes with. The turns are numbered: left row i at shift s is turn 32·i + s. For the contracts of internal
-- functions. Definitions only.
use Rattle.std.specs.Prelude.{◌≡◌, List, ℕ, ◌+◌, ◌*◌, ◌-◌, ◌%◌, ◌^◌, ◌≤◌, ◌<◌, length}
use Rattle.network.specs.RowRule.{lifted}
use Rattle.build_index.specs.declared.IndexedRows.{IndexedRows}
use Rattle.build_index.specs.Inner.{value_at, HasIndex}
use Rattle.build_sieve.specs.declared.SieveTables.{SieveTables}
use Rattle.build_sieve.specs.declared.Pairs.{Pairs}
use Rattle.build_sieve.specs.Inner.{shift_for_of, AreSieved, Cells}
use Rattle.build_left_rows.specs.declared.Pass.{Pass}

-- ---- one right row

-- in no turn below m is 2^s·left the number x
abbrev pub NoTurn : List ℕ → ℕ → ℕ → Type 0
NoTurn table m x = (s i : ℕ) → s < 32 → 32 * i + s < m → lifted s (value_at table i) ≡ x → ⊥

-- with a right row of value r, no turn below m makes v with any sign
pub record NoLeft (table : List ℕ) (m v r : ℕ) : Type 0 where
  pub no_sum : NoTurn table m (v + r)
  pub no_difference : NoTurn table m ((v - r) + (r - v))

-- ---- a pass over the right rows

-- rows of odd values with their index and their sieve, for a new row of value v
pub record Sifting (r : IndexedRows) (s : SieveTables) (v : ℕ) : Type 0 where
  pub index : HasIndex r
  pub sieve : AreSieved r s
  pub odd : (i : ℕ) → i < r.count → value_at r.table.now i % 2 ≡ 1
  pub bounded : (i : ℕ) → i < r.count → value_at r.table.now i < 2 ^ 31
  pub new_odd : v % 2 ≡ 1
  pub new_small : v < 2 ^ 31
  pub new : (i : ℕ) → i < r.count → value_at r.table.now i ≡ v → ⊥

abbrev pub Passing : Pass → Type 0
Passing p = Sifting p.rows.now p.sieve.now p.v

-- the cells of so many values
pub record InBlock (s : SieveTables) (at count v : ℕ) (pairs : Pairs) : Type 0 where
  pub within : at + count ≤ length s.values.now
  pub from : at ≤ 4096
  pub few : count ≤ 32
  pub cells : Cells s.values.now at count v (shift_for_of (length s.marks.now)) pairs
