-- The texts of specs/Samples.antt, by computation: `rules_at_work`. Assumes nothing.
use mathlib.Core.Path.{refl}
use Rattle.verilog.specs.Tokens.{scan, class_of}
use Rattle.verilog.specs.Expressions.{run}
use Rattle.verilog.specs.Syntax.{cut_at, output_nets, body_of, module_of}
use Rattle.verilog.specs.Sound.{closed, uses_none, ordered, sound}
use Rattle.verilog.specs.Values.{width_of, signed_of, value_at}
use Rattle.verilog.specs.Meaning.{assigned, in_order_of}
use Rattle.verilog.specs.Samples.{RulesAtWork}

pub rules_at_work : RulesAtWork
unfolding scan class_of run cut_at output_nets body_of module_of closed uses_none ordered sound width_of signed_of value_at assigned in_order_of
rules_at_work = record {
  sum_in_a_shift = refl;
  minus_before_shift = refl;
  minus_before_sum = refl;
  from_the_left = refl;
  sums_from_the_left = refl;
  shifts_from_the_left = refl;
  in_parentheses = refl;
  minus_at_64 = refl;
  low_bits = refl;
  wider_operand = refl;
  own_width = refl;
  no_narrower_number = refl;
  numbers_of_32_bits = refl;
  signed_number = refl;
  unsigned_sum = refl;
  unsigned_minus = refl;
  unsigned_difference = refl;
  unsigned_amount = refl;
  own_sign = refl;
  no_end = refl;
  unknown_name = refl;
  second_assign = refl;
  input_assigned = refl;
  own_value = refl;
  declared_twice = refl;
  no_assign = refl;
  keyword_name = refl;
  large_number = refl;
  wide_range = refl;
  carriage_return = refl;
  other_operator = refl;
}
