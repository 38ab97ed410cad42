-- `text::pair_at` meets its contract. Assumes nothing.
use mathlib.Core.Path.{ap}
use Prim.Native.Nat.{ℕ, ◌+◌, ◌/◌, ◌%◌}
use native.Mathlib.Numerals.{add-one}
use native.Mathlib.Omega.{arith}
use lib.ListN.{length-set, set}
use Rattle.text.proofs.pair_at.Goals as goal

pub bounds-area-at-2 : goal.bounds-area-at-2
bounds-area-at-2 c = simp length-set (omega (arith, c.requires))

pub returns : goal.returns
returns c =
    let args = c.args in
    let n = args.n in
    record {
      next = omega arith;
      text = ap (λ (k : ℕ). set (set args.area.now args.at (48 + n / 10)) k (48 + n % 10)) (add-one args.at);
    }
