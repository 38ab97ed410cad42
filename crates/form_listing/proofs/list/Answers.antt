-- `form_listing::list` meets its contract.
--
-- The idea: beside the walk over the links goes a walk over the canonical digits of the magnitude, one by one from the low end, which the code does not do. Its
-- laws (form_links) say what the tables hold after each digit. Between two links that some form takes nothing is written; at such a link the forms that take it
-- follow those that do not, as `widen` writes them.
--
-- The invariant of the loop (`Listing` of proofs/Listed.antt): the walk stands at a spot between two digits, its numbers are that spot's, and the front of the
-- tables holds the masks of every minimal form of the digits passed, in order, each with the canonical digits still to come above them. From the count of
-- all forms on the tables are as they were. For a negative number the two tables change parts.
--
-- The measure is `links`, since the next link is taken out of it in each turn. Where no link is left, the digits that remain add no form, and the front of the
-- tables is the listing. There is room for each copy, since the forms passed with those that follow them are at most all forms, and these at most 1597.
-- Assumes nothing.
use Rattle.std.proofs.Common.{◌≡◌, ℕ, ◌≤◌, List, ◌++◌, map, length, drop, set, ℤ, ap, ◌∙◌, w32, SFits}
use Rattle.signed_digit.specs.Masks.{plus_mask, minus_mask}
use Rattle.signed_digit.specs.Forms.{listing}
use Rattle.form_listing.proofs.Machine.{given, bounded, read_once}
use Rattle.form_listing.proofs.Listed.{Ready, ready, list_start, list_skip, list_link, widen_fits, link_fits, list_next, list_end, past_front}
use Rattle.form_masks.specs.declared.Form.{Form}
use Rattle.form_masks.specs.Form.{form_of}
use Rattle.signed_digit.specs.CanonicalForm.{canonical}
use Rattle.form_listing.proofs.list.Goals as goal

-- the tables with the canonical form in front are ready
are_ready : (n : ℤ) → SFits w32 n → (f : Form) → f ≡ form_of (canonical 32 (given n)) → (p m : List ℕ) → 1597 ≤ length p → 1597 ≤ length m
    → Ready (given n) (set p 0 f.plus) (set m 0 f.minus)
are_ready n r f e p m i j = ready (given n) (bounded n r) f e p m i j

pub returns : goal.returns
returns c =
    let n = c.args.n in
    let z = given n in
    let k = read_once n c.ranges.n in
    let p = c.args.plus.now in
    let m = c.args.minus.now in
    let f = c.canonical-first in
    let R = are_ready n c.ranges.n f.result f.ensures.masks p m c.requires.0 c.requires.1 in
    let e = list_end z (set p 0 f.result.plus) (set m 0 f.result.minus) R c.loop-walk.plus c.loop-walk.minus c.loop-walk.walk (c.loop-walk.invariant R) c.loop-walk-test.false in
    record {
      count = e.0 ∙ ap (λ (i : ℤ). length (listing 32 i)) k;
      plus = e.1 ∙ ap (λ (t : List ℕ). map plus_mask (listing 32 z) ++ t) (past_front z (bounded n c.ranges.n) p f.result.plus)
          ∙ ap (λ (i : ℤ). map plus_mask (listing 32 i) ++ drop (length (listing 32 i)) p) k;
      minus = e.2 ∙ ap (λ (t : List ℕ). map minus_mask (listing 32 z) ++ t) (past_front z (bounded n c.ranges.n) m f.result.minus)
          ∙ ap (λ (i : ℤ). map minus_mask (listing 32 i) ++ drop (length (listing 32 i)) m) k;
    }

pub loop-walk-init : goal.loop-walk-init
loop-walk-init c R =
    list_start (given c.args.n) (set c.args.plus.now 0 c.canonical-first.result.plus) (set c.args.minus.now 0 c.canonical-first.result.minus) R
    c.canonical-first.result c.canonical-first.ensures.masks c.start-walk.result c.start-walk.ensures

pub skip-link-requires : goal.skip-link-requires
skip-link-requires c =
    let f = c.canonical-first in
    let R = are_ready c.args.n c.ranges.n f.result f.ensures.masks c.args.plus.now c.args.minus.now c.requires.0 c.requires.1 in
    list_skip (given c.args.n) (set c.args.plus.now 0 f.result.plus) (set c.args.minus.now 0 f.result.minus) R
    c.loop-walk.plus c.loop-walk.minus c.loop-walk.walk (c.loop-walk.invariant R) c.loop-walk-test.true

pub widen-requires : goal.widen-requires
widen-requires c =
    let f = c.canonical-first in
    let P = set c.args.plus.now 0 f.result.plus in
    let M = set c.args.minus.now 0 f.result.minus in
    let R = are_ready c.args.n c.ranges.n f.result f.ensures.masks c.args.plus.now c.args.minus.now c.requires.0 c.requires.1 in
    widen_fits (given c.args.n) P M R c.loop-walk.plus c.loop-walk.minus c.skip-link.result
    (list_link (given c.args.n) P M R c.loop-walk.plus c.loop-walk.minus c.loop-walk.walk (c.loop-walk.invariant R) c.loop-walk-test.true c.skip-link.result c.skip-link.ensures)

pub next-walk-requires : goal.next-walk-requires
next-walk-requires c =
    let f = c.canonical-first in
    let P = set c.args.plus.now 0 f.result.plus in
    let M = set c.args.minus.now 0 f.result.minus in
    let R = are_ready c.args.n c.ranges.n f.result f.ensures.masks c.args.plus.now c.args.minus.now c.requires.0 c.requires.1 in
    link_fits (given c.args.n) P M R c.loop-walk.plus c.loop-walk.minus c.skip-link.result
    (list_link (given c.args.n) P M R c.loop-walk.plus c.loop-walk.minus c.loop-walk.walk (c.loop-walk.invariant R) c.loop-walk-test.true c.skip-link.result c.skip-link.ensures)

pub loop-walk-preserved : goal.loop-walk-preserved
loop-walk-preserved c R =
    let P = set c.args.plus.now 0 c.canonical-first.result.plus in
    let M = set c.args.minus.now 0 c.canonical-first.result.minus in
    list_next (given c.args.n) P M R c.loop-walk.plus c.loop-walk.minus c.skip-link.result
    (list_link (given c.args.n) P M R c.loop-walk.plus c.loop-walk.minus c.loop-walk.walk (c.loop-walk.invariant R) c.loop-walk-test.true c.skip-link.result c.skip-link.ensures)
    c.next-walk.result c.widen.new.plus c.widen.new.minus c.next-walk.ensures c.widen.ensures.plus c.widen.ensures.minus
