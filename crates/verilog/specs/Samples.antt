-- Rules of the standard at work: texts, and the values that every net of them gets, the input first, then the outputs, then the wires. Definitions only;
-- proofs/Samples.antt proves them, and tests/ runs the same texts through other readers of Verilog.
use Rattle.std.specs.Prelude.{◌≡◌, List, [], ◌∷◌, ◌++◌, ℕ, ◌-◌, ◌^◌, pos, neg_ℤ}
use Rattle.text.specs.Ascii.{ascii}
use Rattle.verilog.specs.Reading.{nothing}
use Rattle.verilog.specs.Meaning.{meaning, shown}

-- a module whose one output is this expression of x, of 16 bits, and n0, a copy of it of 64 bits
abbrev pub with_output : List ℕ → List ℕ
with_output expression =
    ascii "module smoother(input signed [15:0] x, output signed [63:0] t0);\nwire signed [63:0] n0;\nassign n0 = x;\nassign t0 = " ++ (expression ++ ascii ";\nendmodule\n")

-- a module with two outputs, and these lines
abbrev pub with_lines : List ℕ → List ℕ
with_lines lines = ascii "module smoother(input signed [15:0] x, output signed [63:0] t0, output signed [63:0] t1);\n" ++ (lines ++ ascii "endmodule\n")

pub record RulesAtWork : Type 0 where
  -- ---- precedence; x = -3
  -- + comes before <<<: a shift by 2
  pub sum_in_a_shift : shown (neg_ℤ (pos 3)) (meaning (with_output (ascii "n0 <<< 1 + 1"))) ≡ (2 ^ 16 - 3) ∷ (2 ^ 64 - 12) ∷ (2 ^ 64 - 3) ∷ []
  -- unary - comes before <<<, and before +
  pub minus_before_shift : shown (neg_ℤ (pos 3)) (meaning (with_output (ascii "- n0 <<< 2"))) ≡ (2 ^ 16 - 3) ∷ 12 ∷ (2 ^ 64 - 3) ∷ []
  pub minus_before_sum : shown (neg_ℤ (pos 3)) (meaning (with_output (ascii "- n0 + n0"))) ≡ (2 ^ 16 - 3) ∷ 0 ∷ (2 ^ 64 - 3) ∷ []
  -- equal ones from the left: -n0
  pub from_the_left : shown (neg_ℤ (pos 3)) (meaning (with_output (ascii "n0 - n0 - n0"))) ≡ (2 ^ 16 - 3) ∷ 3 ∷ (2 ^ 64 - 3) ∷ []
  pub sums_from_the_left : shown (neg_ℤ (pos 3)) (meaning (with_output (ascii "n0 - n0 + n0"))) ≡ (2 ^ 16 - 3) ∷ (2 ^ 64 - 3) ∷ (2 ^ 64 - 3) ∷ []
  pub shifts_from_the_left : shown (neg_ℤ (pos 3)) (meaning (with_output (ascii "n0 <<< 1 <<< 2"))) ≡ (2 ^ 16 - 3) ∷ (2 ^ 64 - 24) ∷ (2 ^ 64 - 3) ∷ []
  -- parentheses
  pub in_parentheses : shown (neg_ℤ (pos 3)) (meaning (with_output (ascii "n0 - (n0 - (n0 <<< 1))"))) ≡ (2 ^ 16 - 3) ∷ (2 ^ 64 - 6) ∷ (2 ^ 64 - 3) ∷ []
  -- ---- widths
  -- -x is worked out at the 64 bits of the left side: x = -32768 gives 32768
  pub minus_at_64 : shown (neg_ℤ (pos 32768)) (meaning (with_output (ascii "-x"))) ≡ (2 ^ 15) ∷ (2 ^ 15) ∷ (2 ^ 64 - 2 ^ 15) ∷ []
  -- a left side of 8 bits keeps the low 8
  pub low_bits : shown (neg_ℤ (pos 3)) (meaning (with_lines (ascii "wire signed [7:0] a;\nassign a = x + 256;\nassign t0 = a;\nassign t1 = a <<< 8;\n")))
      ≡ (2 ^ 16 - 3) ∷ (2 ^ 64 - 3) ∷ (2 ^ 64 - 768) ∷ (2 ^ 8 - 3) ∷ []
  -- a sum and a difference are as wide as the wider operand: 15 + 2 is 17 at 8 bits, and 1 - 2 is 255
  pub wider_operand : shown (neg_ℤ (pos 3))
      (meaning (with_lines (ascii "wire [3:0] a;\nwire [7:0] b;\nwire [3:0] c;\nassign a = 15;\nassign b = 2;\nassign c = 1;\nassign t0 = x <<< a + b;\nassign t1 = x <<< c - b;\n")))
      ≡ (2 ^ 16 - 3) ∷ (2 ^ 64 - 393216) ∷ 0 ∷ 15 ∷ 2 ∷ 1 ∷ []
  -- a shift is as wide as what is shifted, and a minus sign changes no width: at 4 bits 8 shifted by 1 is 0, and -1 is 15
  pub own_width : shown (neg_ℤ (pos 3))
      (meaning (with_lines (ascii "wire [3:0] a;\nwire [7:0] b;\nwire [3:0] c;\nassign a = 8;\nassign b = 1;\nassign c = 1;\nassign t0 = x <<< (a <<< b);\nassign t1 = x <<< -c;\n")))
      ≡ (2 ^ 16 - 3) ∷ (2 ^ 64 - 3) ∷ (2 ^ 64 - 98304) ∷ 8 ∷ 1 ∷ 1 ∷ []
  -- a number is no narrower than its 32 bits: 65535 + 1 is 65536, and a shift by so much leaves nothing
  pub no_narrower_number : shown (neg_ℤ (pos 3)) (meaning (with_output (ascii "n0 <<< 65535 + 1"))) ≡ (2 ^ 16 - 3) ∷ 0 ∷ (2 ^ 64 - 3) ∷ []
  -- and no wider: a shift by 2^32 modulo 2^32, which is 0. Other readers may take more bits
  pub numbers_of_32_bits : shown (neg_ℤ (pos 3)) (meaning (with_output (ascii "n0 <<< 2147483647 + 2147483647 + 2"))) ≡ (2 ^ 16 - 3) ∷ (2 ^ 64 - 3) ∷ (2 ^ 64 - 3) ∷ []
  -- ---- signs; x = -3
  -- a number is signed
  pub signed_number : shown (neg_ℤ (pos 3)) (meaning (with_output (ascii "x - 1"))) ≡ (2 ^ 16 - 3) ∷ (2 ^ 64 - 4) ∷ (2 ^ 64 - 3) ∷ []
  -- an unsigned copy u is not sign-extended, and x + u is unsigned
  pub unsigned_sum : shown (neg_ℤ (pos 3)) (meaning (with_lines (ascii "wire [15:0] u;\nassign u = x;\nassign t0 = u;\nassign t1 = x + u;\n")))
      ≡ (2 ^ 16 - 3) ∷ (2 ^ 16 - 3) ∷ (2 ^ 17 - 6) ∷ (2 ^ 16 - 3) ∷ []
  -- -u and a shifted u are unsigned too
  pub unsigned_minus : shown (neg_ℤ (pos 3)) (meaning (with_lines (ascii "wire [15:0] u;\nassign u = x;\nassign t0 = -u;\nassign t1 = u <<< 1;\n")))
      ≡ (2 ^ 16 - 3) ∷ (2 ^ 64 - 65533) ∷ 131066 ∷ (2 ^ 16 - 3) ∷ []
  -- and a difference with an unsigned operand on either side
  pub unsigned_difference : shown (neg_ℤ (pos 3)) (meaning (with_lines (ascii "wire [3:0] w;\nassign w = 1;\nassign t0 = x - w;\nassign t1 = w - x;\n")))
      ≡ (2 ^ 16 - 3) ∷ (2 ^ 16 - 4) ∷ (2 ^ 64 - 65532) ∷ 1 ∷ []
  -- an unsigned amount leaves x signed
  pub unsigned_amount : shown (neg_ℤ (pos 3)) (meaning (with_lines (ascii "wire [3:0] w;\nassign w = 1;\nassign t0 = x <<< w;\nassign t1 = x <<< 1;\n")))
      ≡ (2 ^ 16 - 3) ∷ (2 ^ 64 - 6) ∷ (2 ^ 64 - 6) ∷ 1 ∷ []
  -- an amount is extended by its own signs, and what it comes to is read as unsigned: a = -1 of 4 bits shifts by 15, a + b with b = 2 of 8 bits by 1
  pub own_sign : shown (neg_ℤ (pos 3))
      (meaning (with_lines (ascii "wire signed [3:0] a;\nwire signed [7:0] b;\nassign a = -1;\nassign b = 2;\nassign t0 = x <<< a;\nassign t1 = x <<< a + b;\n")))
      ≡ (2 ^ 16 - 3) ∷ (2 ^ 64 - 98304) ∷ (2 ^ 64 - 6) ∷ 15 ∷ 2 ∷ []
  -- ---- texts without a meaning
  pub no_end : meaning (ascii "module smoother(input signed [15:0] x);\nwire signed [63:0] n0;\nassign n0 = x;\n") ≡ nothing
  pub unknown_name : meaning (with_output (ascii "y")) ≡ nothing
  pub second_assign : meaning (with_output (ascii "x;\nassign n0 = x")) ≡ nothing
  pub input_assigned : meaning (with_lines (ascii "assign x = 0;\nassign t0 = x;\nassign t1 = x;\n")) ≡ nothing
  pub own_value : meaning (with_lines (ascii "assign t0 = t0 + x;\nassign t1 = x;\n")) ≡ nothing
  pub declared_twice : meaning (with_lines (ascii "wire [3:0] a;\nwire [3:0] a;\nassign a = 1;\nassign t0 = x;\nassign t1 = x;\n")) ≡ nothing
  pub no_assign : meaning (with_lines (ascii "assign t0 = x;\n")) ≡ nothing
  pub keyword_name : meaning (ascii "module smoother(input signed [15:0] reg);\nendmodule\n") ≡ nothing
  pub large_number : meaning (with_output (ascii "x <<< 2147483648")) ≡ nothing
  pub wide_range : meaning (with_lines (ascii "wire [2147483648:0] a;\nassign a = 1;\nassign t0 = x;\nassign t1 = x;\n")) ≡ nothing
  pub carriage_return : meaning (with_output (ascii "x\r")) ≡ nothing
  pub other_operator : meaning (with_output (ascii "n0 << 1")) ≡ nothing
