-- `form_listing::grow` meets its contract: one copy more. Assumes nothing.
use Rattle.std.proofs.Common.{refl, arith}
use Rattle.form_links.proofs.Growth.{part_next}
use Rattle.form_listing.proofs.grow.Goals as goal

pub loop-i-preserved : goal.loop-i-preserved
loop-i-preserved c =
    let loop = c.loop-i in
    part_next c.args.table.now c.args.at c.args.n c.args.offset c.requires loop.table loop.i _ (omega (arith, c.loop-i-test.true)) (omega (arith, loop.auto.i)) refl loop.invariant
