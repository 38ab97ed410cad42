-- `tap::round_tap` meets its contract. Each way out of the code is one row of the table of refusals or the answer, and each is a law of proofs/Answer.antt:
-- what is left here is to hand that law the facts of the tests passed on the way. Assumes nothing.
use mathlib.Core.Path.{◌≡◌, sym, ap, ◌∙◌, subst}
use mathlib.Core.Bool.{Bool, true, false}
use lib.Dec.{T}
use lib.IntN.{ℤ}
use lib.Ieee.{Float, binary64, fits, mul}
use mir.Syntax.{w32}
use mir.Val.{to_z, of_z}
use mir.ValLaws.{to_z-of_z}
use Rattle.refusal.specs.Answer.{given}
use Rattle.tap.specs.Inner.{nearest_of, rounds_within_of, parted}
use Rattle.tap.proofs.Value.{two_to}
use Rattle.tap.proofs.Even.{rounds_i32}
use Rattle.tap.proofs.Answer.{refused_bits, refused_tap, refused_size, accepted}
use Rattle.tap.proofs.round_tap.Goals.{After-rounds_within, Start}
use Rattle.tap.proofs.round_tap.Goals as goal

held : (s : Start) → T (fits binary64 s.args.tap)
held s = subst T (sym s.well_formed.0.1) tt

-- tap × 2^F, as the laws have it, and its test
abbrev product : Start → Float
product s = mul binary64 s.args.tap (two_to s.args.fraction_bits)

tested : (c : After-rounds_within) (b : Bool) → c.rounds_within.result ≡ b → rounds_within_of c.scaled-x.result ≡ b
tested c b h = sym c.rounds_within.ensures ∙ h

tested_product : (c : After-rounds_within) (b : Bool) → c.rounds_within.result ≡ b → rounds_within_of (product (goal.at-After-rounds_within c).Start) ≡ b
tested_product c b h = ap rounds_within_of (sym c.scaled-x.ensures) ∙ tested c b h

pub returns-then-fraction_bits-gt31 : goal.returns-then-fraction_bits-gt31
returns-then-fraction_bits-gt31 c = record { answer = refused_bits c.args.fraction_bits c.args.tap c.if-fraction_bits-gt31.true }

pub nearest-requires : goal.nearest-requires
nearest-requires c = tested (goal.at-nearest-requires c).After-rounds_within true c.if-rounds_within.true

pub returns-then-rounds_within : goal.returns-then-rounds_within
returns-then-rounds_within c =
    let x = c.scaled-x.result in
    record {
      answer = c.part.ensures
          ∙ ap (λ (z : ℤ). given (parted x (to_z w32 (of_z w32 z)))) c.nearest.ensures
          ∙ ap (λ (z : ℤ). given (parted x z)) (to_z-of_z w32 (nearest_of x) (rounds_i32 x (tested (goal.at-returns-then-rounds_within c).After-rounds_within true c.if-rounds_within.true)))
          ∙ ap (λ (y : Float). given (parted y (nearest_of y))) c.scaled-x.ensures
          ∙ accepted c.args.fraction_bits c.args.tap (held (goal.at-returns-then-rounds_within c).Start) c.if-fraction_bits-gt31.false (tested_product (goal.at-returns-then-rounds_within c).After-rounds_within true c.if-rounds_within.true);
    }

pub returns-then-is_finite : goal.returns-then-is_finite
returns-then-is_finite c =
    record {
      answer = refused_size c.args.fraction_bits c.args.tap (held (goal.at-returns-then-is_finite c).Start) c.if-fraction_bits-gt31.false (sym c.is_finite.ensures ∙ c.if-is_finite.true) (tested_product (goal.at-returns-then-is_finite c).After-rounds_within false c.if-rounds_within.false);
    }

pub returns-else-is_finite : goal.returns-else-is_finite
returns-else-is_finite c =
    record { answer = refused_tap c.args.fraction_bits c.args.tap c.if-fraction_bits-gt31.false (sym c.is_finite.ensures ∙ c.if-is_finite.false) }
