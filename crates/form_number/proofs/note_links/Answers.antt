-- `form_number::note_links` meets its contract. The invariant of its loop: the walk stands where a walk over the canonical digits of the magnitude stands too, and
-- the first `k` places of the table hold the links that it has passed. There is room for each, since two links stand two places apart at least and the last below
-- place 34. The measure is `links`, since the next link is taken out of it in each turn. Assumes nothing.
use Rattle.std.proofs.Common.{◌^◌, ◌<◌, ◌≤◌, nat_abs, ap, arith}
use Rattle.form_walk.specs.declared.Walk.{Walk}
use Rattle.form_walk.proofs.Stands.{at_link, skip_fits, next_fits}
use Rattle.form_walk.proofs.Counted.{OnWay, itself, over_nought, over_digit, CountingLink, started, count_start, counting_next}
use Rattle.form_listing.proofs.Machine.{given, bounded}
use Rattle.form_number.specs.Inner.{none_yet}
use Rattle.form_number.proofs.Noted.{note_next, some_room, few_forms, spaced_next}
use Rattle.form_number.proofs.note_links.Goals.{After-skip-link}
use Rattle.form_number.proofs.note_links.Goals as goal

-- at the next link
link : (c : After-skip-link) → CountingLink (nat_abs (given c.args.n)) c.skip-link.result
link c =
    let m = nat_abs (given c.args.n) in
    at_link m (OnWay m) (itself m) (over_nought m) (over_digit m) c.loop-walk.walk c.loop-walk.invariant.counting c.loop-walk-test.true c.skip-link.result c.skip-link.ensures

fits : (c : After-skip-link) → (c.skip-link.result.forms ≤ 2 ^ 34) × (c.skip-link.result.moved ≤ 2 ^ 34) × (c.skip-link.result.bit ≤ 2 ^ 33)
fits c =
    let m = nat_abs (given c.args.n) in
    next_fits m (OnWay m) (itself m) (over_nought m) (over_digit m) c.skip-link.result (link c)

room : (c : After-skip-link) → c.loop-walk.k < 17
room c = some_room c.loop-walk.k c.loop-walk.walk c.skip-link.result c.loop-walk.invariant.spaced c.skip-link.ensures (fits c).2

pub loop-walk-init : goal.loop-walk-init
loop-walk-init c =
    let form = c.canonical in
    let n = given c.args.n in
    let b = bounded c.args.n c.ranges.n in
    let s = started n b form.result form.ensures.masks c.start-walk.result c.start-walk.ensures in
    record {
      counting = count_start n b form.result form.ensures.masks c.start-walk.result c.start-walk.ensures;
      noted = none_yet;
      spaced = record { few = omega arith; bit = omega (arith, ap (λ (w : Walk). w.bit) s); forms = omega (arith, ap (λ (w : Walk). w.forms) s); moved = omega (arith, ap (λ (w : Walk). w.moved) s) };
    }

pub skip-link-requires : goal.skip-link-requires
skip-link-requires c =
    let m = nat_abs (given c.args.n) in
    skip_fits m (OnWay m) (itself m) (over_nought m) (over_digit m) c.loop-walk.walk c.loop-walk.invariant.counting c.loop-walk-test.true

pub overflow_cast-links : goal.overflow_cast-links
overflow_cast-links c =
    let s = (goal.at.overflow_cast-links c).After-skip-link in
    record { fits = few_forms c.loop-walk.k c.loop-walk.walk c.skip-link.result c.loop-walk.invariant.spaced c.skip-link.ensures (fits s).2 }

pub offset-requires : goal.offset-requires
offset-requires c = (fits (goal.at.offset-requires c).After-skip-link).2

pub bounds-links-k : goal.bounds-links-k
bounds-links-k c = omega (arith, room (goal.at.bounds-links-k c).After-skip-link)

pub next-walk-requires : goal.next-walk-requires
next-walk-requires c = fits (goal.at.next-walk-requires c).After-skip-link

pub loop-walk-preserved : goal.loop-walk-preserved
loop-walk-preserved c =
    let s = (goal.at.loop-walk-preserved c).After-skip-link in
    let loop = c.loop-walk in
    let v = c.skip-link.result in
    let u = c.next-walk.result in
    let e = c.skip-link.ensures in
    record {
      counting = counting_next (nat_abs (given c.args.n)) v u (link s) c.next-walk.ensures;
      noted = note_next c.start-walk.result loop.walk v u loop.links loop.k loop.invariant.noted c.loop-walk-test.true e c.next-walk.ensures (omega (arith, room s)) _
          (ap (λ o. record { front = v.forms; offset = o }) c.offset.ensures);
      spaced = spaced_next loop.k loop.walk v loop.invariant.spaced e (fits s).2 u c.next-walk.ensures;
    }
