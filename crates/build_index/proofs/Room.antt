-- Room for fewer rows, and in tables of the same lengths. Assumes nothing.
use mathlib.Core.Path.{◌≡◌}
use Prim.Native.Nat.{ℕ, ◌≤◌}
use native.Mathlib.Omega.{arith}
use lib.ListN.{length}
use Rattle.build_index.specs.declared.Rows.{Rows}
use Rattle.build_index.specs.Inner.{HasRoom}

pub less_room : (r : Rows) (j k : ℕ) → j ≤ k → HasRoom r k → HasRoom r j
less_room r j k h m = record { few = omega (arith, m.few); words = omega (arith, m.words); linked = omega (arith, m.linked) }

pub same_room : (r r' : Rows) (k : ℕ) → length r'.table.now ≡ length r.table.now → length r'.links.now ≡ length r.links.now → HasRoom r k → HasRoom r' k
same_room r r' k t l m = record { few = m.few; words = omega (arith, m.words, t); linked = omega (arith, m.linked, l) }
