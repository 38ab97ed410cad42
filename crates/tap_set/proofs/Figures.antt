-- The figures of specs/Figures.antt, by computation. Assumes nothing.
use mathlib.Core.Path.{refl}
use lib.Ieee.{round, add, div, lt, fits}
use Rattle.refusal.specs.Answer.{lowest_from}
use Rattle.tap.specs.Rounding.{outside, result_of}
use Rattle.tap_normalise.specs.Normalised.{sum_from}
use Rattle.tap_set.specs.Set.{larger_of, reported, report_from, rounded_taps}
use Rattle.tap_set.specs.Figures.{three, SetFigures}
use Rattle.tap_set.specs.Claims.{Binary64}

pub set_figures : SetFigures
unfolding rounded_taps report_from reported larger_of outside result_of sum_from lowest_from round add div lt
set_figures = record {
  quarters = record { answer = refl; written = refl };
  no_sum = record { answer = refl; written = refl };
  no_taps = record { answer = refl; written = refl };
  earliest = record { answer = refl; written = refl };
}

pub three_binary64 : Binary64 three
unfolding fits
three_binary64 = (tt, (tt, (tt, tt)))
