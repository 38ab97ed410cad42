-- `build_tables::within` meets its contract: arrays of zeros are an empty index and an empty sieve. Assumes nothing.
use Rattle.std.proofs.Common.{refl, rules}
use Rattle.build_index.proofs.Reading.{index_read}
use Rattle.build_tables.proofs.Plans.{parts_ordered, can_start, written}
use Rattle.build_tables.proofs.within.Goals as goal

pub add_rows-requires : goal.add_rows-requires
add_rows-requires g c =
    let a = c.args in
    can_start a.coefficients.now a.choices.now a.rows.now a.taps.now a.parts.now c.requires.can_build_into c.requires.ordered _ _ _ _ _ _ refl refl refl refl refl refl c.requires.index.0 c.requires.index.1 c.requires.sieve.0 c.requires.sieve.1

pub write_tap_rows-requires : goal.write_tap_rows-requires
write_tap_rows-requires g c = (index_read c.read.ensures c.add_rows.ensures.grown.index, search rules)

pub returns : goal.returns
returns g c =
    let a = c.args in
    let lent = c.add_rows.ensures.grown.lent.table in
    let ordered = parts_ordered a.coefficients.now a.choices.now a.rows.now a.taps.now a.parts.now c.requires.can_build_into c.requires.ordered in
    written a.coefficients.now a.choices.now a.parts.now ordered _ c.add_rows.new.rows a.rows.now _ a.taps.now c.write_tap_rows.new.taps refl (search rules) c.add_rows.ensures.grown (rw (c.read.ensures.table, c.read.ensures.count) at c.write_tap_rows.ensures)
