-- The figures of specs/Figures.antt, by computation. Assumes nothing.
use mathlib.Core.Path.{refl}
use lib.Ieee.{of_bits, round}
use Rattle.tap.specs.Rounding.{rounded_tap}
use Rattle.tap.specs.Figures.{TapFigures}

pub tap_figures : TapFigures
unfolding rounded_tap of_bits round
tap_figures = record {
  five_eighths = record { answer = refl };
  as_near = refl;
  minus_five_eighths = record { answer = refl };
  half = record { answer = refl };
  half_to_zero = record { answer = refl };
  minus_half_to_zero = record { answer = refl };
  three_halves = record { answer = refl };
  minus_three_halves = record { answer = refl };
  below_half = record { answer = refl };
  least_and_a_quarter = record { answer = refl };
  least_and_a_half = record { answer = refl };
  most_and_a_half = record { answer = refl };
}
