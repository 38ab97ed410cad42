-- `build_sieve::SieveTables::fill` meets its contract. Assumes nothing.
use Prim.Native.Nat.{◌+◌}
use native.Mathlib.Omega.{arith}
use Rattle.build_sieve.proofs.SieveTables.fill.Goals as goal

pub cell_of-requires : goal.cell_of-requires
cell_of-requires c =
    (c.requires.sizes.0, omega (arith, c.requires.small (c.args.at + c.loop-j.j), c.requires.sizes.1))

pub cell_between-requires : goal.cell_between-requires
cell_between-requires c =
    (c.requires.sizes.0, c.requires.sizes.1, c.requires.small (c.args.at + c.loop-j.j))
