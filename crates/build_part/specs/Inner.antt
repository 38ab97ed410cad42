-- What is known where the steps of one odd part are taken. For the contracts of internal functions. Definitions only.
use Rattle.std.specs.Prelude.{List, ℕ, ◌+◌, ◌^◌, ◌≤◌, ◌<◌, length}
use Rattle.build_steps.specs.Parts.{Part}
use Rattle.build_steps.specs.Steps.{step}
use Rattle.build_steps.specs.RowSteps.{Lawful}
use Rattle.build_steps.specs.CanBuild.{Buildable}
use Rattle.build_index.specs.declared.Rows.{Rows}
use Rattle.build_index.specs.Inner.{value_at, IsIndexed, HasRoom}
use Rattle.build_sieve.specs.Inner.{SieveOf}
use Rattle.build_chain.specs.Inner.{rows_in}

-- an odd part with its choice
abbrev pub part_of : ℕ → ℕ → Part
part_of v choice = record { value = v; choice = choice }

-- rows that keep the row rule, with their index and sieve, of values up to most, for one odd part more, in this room
pub record Ready (r : Rows) (values marks : List ℕ) (most : ℕ) (p : Part) : Type 0 where
  pub index : IsIndexed r
  pub lawful : Lawful (rows_in r)
  pub bounded : (i : ℕ) → i < r.count → value_at r.table.now i ≤ most
  pub small : most < 2 ^ 31
  pub part : Buildable p
  pub room : HasRoom r (length (step (rows_in r) p))
  pub sieve : SieveOf r.table.now values marks r.count
  pub sieve_room : length (step (rows_in r) p) + 7 ≤ length values
