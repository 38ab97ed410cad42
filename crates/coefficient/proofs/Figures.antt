-- The figures of specs/Figures.antt, proved. Assumes nothing.
use mathlib.Core.Path.{refl, sym}
use Prim.Native.Nat.{◌^◌, ◌-◌}
use Rattle.signed_digit.specs.Reduction.{positive, negative}
use Rattle.coefficient.specs.Parts.{parts_of}
use Rattle.coefficient.specs.Stretch.{first_from, end_of}
use Rattle.coefficient.specs.Figures.{ReductionFigures, TrimmedFigures}
use Rattle.coefficient.proofs.TheReduction.{product_parts}

pub reduction_figures : ReductionFigures
unfolding parts_of
reduction_figures =
    record {
      zero = record { split = refl };
      minus_six = record { split = sym (product_parts negative 3 1 refl) };
      one_hundred_and_eighty = record { split = sym (product_parts positive 45 2 refl) };
      greatest = record { split = sym (product_parts positive (2 ^ 31 - 1) 0 refl) };
      least = record { split = sym (product_parts negative 1 31 refl) };
    }

pub trimmed_figures : TrimmedFigures
unfolding first_from end_of
trimmed_figures =
    record {
      none = record { contents = refl; place = refl };
      zeros = record { contents = refl; place = refl };
      inner_zero_lem = record { contents = refl; place = refl };
      inner_start = record { first = refl };
      inner_end = record { past_last = refl };
    }
