-- `build_left_rows::Pass::lower_named` meets its contract. Assumes nothing.
use Prim.Native.Nat.{ℕ, ◌+◌, ◌-◌, ◌≤◌}
use mathlib.Core.Path.{◌≡◌, sym, subst}
use native.Mathlib.Omega.{arith}
use lib.Count.{count_trailing_zeros}
use lib.ListN.{get_or}
use Rattle.build_left_rows.proofs.NamedRows.{Named, read_place, read_next, read_all, fewer_named}
use Rattle.build_left_rows.proofs.Pass.lower_named.Goals as goal

pub bounds-self-j : goal.bounds-self-j
bounds-self-j g c =
    let args = c.args in
    let loop = c.loop-rest in
    let P = Named (goal.F-post g args.number) args.self.now.rows.now.table.now args.self.now.sieve.now.values.now args.at loop.low in
    omega (arith, read_place P args.mask loop.rest (loop.j - args.at) loop.invariant.3 c.requires.named.0 (omega arith), loop.invariant.0, c.requires.named.1)

pub loop-rest-preserved : goal.loop-rest-preserved
loop-rest-preserved g c =
    let args = c.args in
    let loop = c.loop-rest in
    let table = args.self.now.rows.now.table.now in
    let values = args.self.now.sieve.now.values.now in
    let low = c.lower-low.result in
    let number = goal.F-post g args.number in
    let k = loop.j - args.at in
    let zeros = count_trailing_zeros 32 loop.rest in
    let some : 1 ≤ loop.rest = omega arith in
    let place = read_place (Named number table values args.at loop.low) args.mask loop.rest k loop.invariant.3 c.requires.named.0 some in
    let here : args.at + (k + zeros) ≡ loop.j + zeros = omega (arith, loop.invariant.0) in (
      omega (arith, loop.invariant.0),
      omega (arith, place, loop.invariant.0),
      omega (arith, c.lower-low.ensures.0, loop.invariant.2),
      read_next (Named number table values args.at low) args.mask loop.rest k (fewer_named number table values args.at loop.low low args.mask loop.rest k c.lower-low.ensures.0 loop.invariant.3)
          c.requires.named.0 some (loop.j + zeros + 1 - args.at) (omega (arith, loop.invariant.0))
          (c.number.result, subst (λ (i : ℕ). number (get_or values i 0) c.number.result) (sym here) c.number.ensures, c.lower-low.ensures.1),
    )

pub returns : goal.returns
returns g c =
    let args = c.args in
    let loop = c.loop-rest in
    let P = Named (goal.F-post g args.number) args.self.now.rows.now.table.now args.self.now.sieve.now.values.now args.at loop.low in
    (loop.invariant.2, read_all P args.mask loop.rest (loop.j - args.at) loop.invariant.3 c.loop-rest-test.false)
