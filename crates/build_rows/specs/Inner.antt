-- What is known while rows are built. For the contracts of internal functions. Definitions only.
use Rattle.std.specs.Prelude.{◌≡◌, List, [], ◌∷◌, map, ℕ, ◌+◌, ◌≤◌, ◌<◌, length}
use Rattle.std.specs.List.{All}
use Rattle.network.specs.Rows.{first_row_of}
use Rattle.build_steps.specs.Steps.{steps}
use Rattle.build_steps.specs.CanBuild.{Buildable}
use Rattle.build_odd_parts.specs.declared.OddPart.{OddPart}
use Rattle.build_odd_parts.specs.Inner.{part_in}
use Rattle.build_index.specs.declared.Rows.{Rows}
use Rattle.build_index.specs.Inner.{IsIndexed, HasRoom}
use Rattle.build_sieve.specs.declared.Sieve.{Sieve}
use Rattle.build_sieve.specs.Inner.{HasSieve}

-- an empty index and sieve, and odd parts that can be built, in this room
pub record CanStart (taken : List OddPart) (choices : List ℕ) (r : Rows) (s : Sieve) : Type 0 where
  pub none : r.count ≡ 0
  pub index : IsIndexed r
  pub room : HasRoom r (length (steps (first_row_of ∷ []) (map (part_in choices) taken)))
  pub sieve : HasSieve r s
  pub sieve_room : length (steps (first_row_of ∷ []) (map (part_in choices) taken)) + 7 ≤ length s.values.now
  pub taps : All (λ (q : OddPart). q.tap < length choices) taken
  pub parts : All (λ (q : OddPart). Buildable (part_in choices q)) taken
