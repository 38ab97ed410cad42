-- `sheet_input::fraction_bits` meets its contract. Assumes nothing.
use mathlib.Core.Path.{sym, ◌∙◌}
use Rattle.sheet_input.specs.Argument.{argument_of, text, missing, fraction_bits_of}
use Rattle.sheet_input.proofs.Answers.{no_taps, too_many, cut_tap, whole_taps_lem}
use Rattle.sheet_input.proofs.fraction_bits.Goals as goal

pub returns-then-whole-eq0 : goal.returns-then-whole-eq0
returns-then-whole-eq0 c = sym (no_taps c.args.input.now (argument_of c.args.argument) c.if-whole-eq0.true)

pub returns-then-whole-gt256 : goal.returns-then-whole-gt256
returns-then-whole-gt256 c = sym (too_many c.args.input.now (argument_of c.args.argument) c.if-whole-eq0.false c.if-whole-gt256.true)

pub returns-then-input-ne0 : goal.returns-then-input-ne0
returns-then-input-ne0 c =
    sym (cut_tap c.args.input.now (argument_of c.args.argument) c.if-whole-eq0.false c.if-whole-gt256.false c.if-input-ne0.true)

pub returns-in-None : goal.returns-in-None
unfolding fraction_bits_of
returns-in-None c =
    rw c.in-None.is (sym (whole_taps_lem c.args.input.now missing c.if-whole-eq0.false c.if-whole-gt256.false c.if-input-ne0.false))

pub returns-in-Some : goal.returns-in-Some
returns-in-Some c =
    rw c.in-Some.is
    (c.bits_of.ensures ∙ sym (whole_taps_lem c.args.input.now (text c.in-Some.text.now) c.if-whole-eq0.false c.if-whole-gt256.false c.if-input-ne0.false))
