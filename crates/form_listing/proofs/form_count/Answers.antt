-- `form_listing::form_count` meets its contract. The invariant of its loop: the walk over the links stands where a walk over the canonical digits of the
-- magnitude stands too, with the forms of the digits passed as its `forms`; a number and its negative have as many. At the end, where no link is left, these are
-- all forms. The measure is `links`, since the next link is taken out of it in each turn. Assumes nothing.
use Rattle.std.proofs.Common.{◌≡◌, length, ℤ, nat_abs, ap, ◌∙◌, arith, w32, SFits}
use Rattle.signed_digit.specs.Forms.{listing}
use Rattle.word.proofs.Bounds.{i32_coefficient, coefficient_magnitude}
use Rattle.signed_digit.proofs.Coefficients.{at_most_1597}
use Rattle.form_listing.proofs.Machine.{given, bounded, read_once}
use Rattle.form_walk.proofs.Stands.{at_link, skip_fits, next_fits}
use Rattle.form_walk.proofs.Counted.{OnWay, itself, over_nought, over_digit, Counting, count_start, counting_next, count_end}
use Rattle.form_walk.specs.declared.Walk.{Walk}
use Rattle.form_listing.proofs.form_count.Goals as goal

pub loop-w-init : goal.loop-w-init
loop-w-init c = count_start (given c.args.n) (bounded c.args.n c.ranges.n) c.canonical.result c.canonical.ensures.masks c.start-w.result c.start-w.ensures

pub skip-requires : goal.skip-requires
skip-requires c =
    let m = nat_abs (given c.args.n) in
    skip_fits m (OnWay m) (itself m) (over_nought m) (over_digit m) c.loop-w.w c.loop-w.invariant c.loop-w-test.true

pub next-w-requires : goal.next-w-requires
next-w-requires c =
    let m = nat_abs (given c.args.n) in
    next_fits m (OnWay m) (itself m) (over_nought m) (over_digit m) c.skip.result
    (at_link m (OnWay m) (itself m) (over_nought m) (over_digit m) c.loop-w.w c.loop-w.invariant c.loop-w-test.true c.skip.result c.skip.ensures)

pub loop-w-preserved : goal.loop-w-preserved
loop-w-preserved c =
    let m = nat_abs (given c.args.n) in
    counting_next m c.skip.result c.next-w.result
    (at_link m (OnWay m) (itself m) (over_nought m) (over_digit m) c.loop-w.w c.loop-w.invariant c.loop-w-test.true c.skip.result c.skip.ensures) c.next-w.ensures

-- the forms passed are all forms, of n itself
counted : (n : ℤ) (r : SFits w32 n) (w : Walk) → Counting (nat_abs (given n)) w → w.links ≡ 0 → w.forms ≡ length (listing 32 n)
counted n r w i e = count_end (given n) (bounded n r) w i e ∙ ap (λ (z : ℤ). length (listing 32 z)) (read_once n r)

pub returns : goal.returns
returns c = record { number = counted c.args.n c.ranges.n c.loop-w.w c.loop-w.invariant c.loop-w-test.false }

pub overflow_cast-result : goal.overflow_cast-result
overflow_cast-result c =
    let e = counted c.args.n c.ranges.n c.loop-w.w c.loop-w.invariant c.loop-w-test.false in
    record { fits = omega (arith, e, at_most_1597 c.args.n (coefficient_magnitude c.args.n (i32_coefficient c.args.n c.ranges.n))) }
