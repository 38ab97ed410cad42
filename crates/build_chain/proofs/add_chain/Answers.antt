-- `build_chain::add_chain` meets its contract. Its invariants say how.
-- Assumes nothing.
use Rattle.std.proofs.Common.{◌≡◌, sym, subst, ◌∙◌, List, ◌^◌, ◌<◌, length, take, rules, arith}
use native.Mathlib.Nat.{mul-one, pow-suc}
use lib.Pow.{pow-lt}
use Rattle.signed_digit.specs.Digit.{nonzero}
use Rattle.signed_digit.specs.Masks.{mask}
use Rattle.form_masks.specs.Form.{string_of}
use Rattle.network.specs.declared.Row.{Row}
use Rattle.build_steps.specs.Chain.{chained}
use Rattle.build_index.specs.Inner.{HasRoom}
use Rattle.build_index.proofs.Growth.{grown_none, grown_on}
use Rattle.build_chain.specs.Inner.{rows_in}
use Rattle.build_chain.proofs.HighDigits.{chain_none}
use Rattle.build_chain.proofs.Starts.{some_digit, started}
use Rattle.build_chain.proofs.add_chain.Goals.{Start}
use Rattle.build_chain.proofs.add_chain.Goals as goal

-- the masks are words
plus_fits : (s : Start) → s.args.form.plus < 2 ^ 32
plus_fits s = search rules

minus_fits : (s : Start) → s.args.form.minus < 2 ^ 32
minus_fits s = search rules

pub ilog2-place-requires : goal.ilog2-place-requires
ilog2-place-requires c =
    let s = (goal.at-ilog2-place-requires c).Start in
    some_digit c.args.form (rows_in c.args.rows.now) c.requires.indexed.1 (plus_fits s) (minus_fits s)

pub loop-chain-init : goal.loop-chain-init
loop-chain-init c =
    let args = c.args in
    let s = (goal.at-loop-chain-init c).Start in
    let h = c.ilog2-place in
    let begun = started args.form (rows_in args.rows.now) c.requires.indexed.1 (plus_fits s) (minus_fits s) h.result h.ensures.power_le (omega (arith, h.ensures.next_power_gt, pow-suc 2 h.result)) in
    rw (c.lifted.ensures, mul-one (2 ^ h.result)) (record { grown = grown_none args.rows.now c.requires.indexed.0; reading = begun.reading; same = begun.same })

pub loop-chain-preserved : goal.loop-chain-preserved
loop-chain-preserved c =
    let loop = c.loop-chain in
    let turned = c.turn-chain.ensures in record {
      grown = grown_on turned.more loop.invariant.grown turned.grown;
      reading = turned.reading;
      same = turned.same ∙ loop.invariant.same;
    }

pub returns : goal.returns
returns c =
    let loop = c.loop-chain in
    let chain = loop.chain in
    let grown = loop.invariant.grown in
    let z : mask nonzero (take chain.place (string_of chain.form)) ≡ 0 = omega (arith, loop.invariant.reading.digits.rest, c.loop-chain-test.false) in
    record {
      rows_are = sym (chain_none (rows_in loop.rows) chain.value 1 (take chain.place (string_of chain.form)) z) ∙ loop.invariant.same;
      rest = grown.rest;
      index = grown.index;
      lent = grown.lent;
    }
