-- Document 01's example: the sheet of 3, -6, 45 and 0 over 32768. Assumes nothing.
use mathlib.Core.Path.{◌≡◌, refl}
use lib.Count.{count_trailing_zeros}
use lib.Ieee.{of_bits, round}
use Rattle.sequence.specs.UpTo.{up_to}
use Rattle.sequence.specs.Count.{how_many}
use Rattle.sheet_input.specs.Argument.{missing, fraction_bits_of}
use Rattle.refusal.specs.Answer.{lowest_from}
use Rattle.signed_digit.specs.CanonicalForm.{canonical_nat}
use Rattle.coefficient.specs.Parts.{parts_of, odd_part_of, shift_of}
use Rattle.network.specs.Coefficients as Network
use Rattle.build_steps.specs.Parts.{least_weight_of, comes_before, insert, insert_tap, taken_from}
use Rattle.build_steps.specs.Search.{row_with, or_else, first_over, row_over, tried, first_fit_of, fit_at_shift, fit_at_left}
use Rattle.build_steps.specs.Steps.{searched, looked_up, step, steps, built_rows}
use Rattle.build_steps.specs.TapRows.{tap_row_of, built}
use Rattle.tap.specs.Rounding.{half_of, to_nearest, nearest_whole, leftover, split, size_of, outside, result_of}
use Rattle.tap_set.specs.Set.{larger_of, reported, report_from, bounded, rounded_taps}
use Rattle.text.specs.Numbers.{decimal_by, decimal, integer}
use Rattle.text.specs.Lines.{lines_from}
use Rattle.sheet_lines.specs.Lines.{line, columns, header, node_line_of, tap_line_text, total_line_of}
use Rattle.sheet_kinds.specs.Text.{network_text}
use Rattle.sheet_input.specs.Taps.{low_first, tap_at_of}
use Rattle.sheet_input.specs.Input.{input_answer}
use Rattle.sheet_text.specs.Sheet.{choices, taps_answer, sheet_answer, sheet_of}
use Rattle.sheet_text.specs.Claims.{example_input, example_text}

pub example_sheet : sheet_of example_input missing ≡ example_text
unfolding sheet_of sheet_answer taps_answer choices input_answer fraction_bits_of tap_at_of low_first of_bits rounded_taps bounded report_from reported larger_of outside result_of split size_of nearest_whole to_nearest half_of leftover round up_to lowest_from built built_rows steps step looked_up searched taken_from insert_tap insert comes_before least_weight_of parts_of odd_part_of shift_of count_trailing_zeros row_with first_fit_of fit_at_left fit_at_shift first_over or_else tried row_over tap_row_of canonical_nat how_many network_text lines_from header node_line_of tap_line_text total_line_of columns line decimal decimal_by integer Network.coefficient_of
example_sheet = refl
