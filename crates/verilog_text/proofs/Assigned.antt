-- What the right sides of the assigns come to, over nets of 64 bits. Assumes nothing.
use mathlib.Core.Path.{◌≡◌}
use mathlib.Core.Bool.{true}
use mathlib.Core.List.{List}
use Prim.Native.Nat.{ℕ}
use native.Mathlib.Omega.{arith}
use lib.IntN.{ℤ, pos, neg_ℤ, ◌+ℤ◌, ◌-ℤ◌}
use mir.Syntax.{w16}
use mir.Val.{SFits}
use Rattle.network.specs.Evaluation.{shifted_up}
use Rattle.run_convolution.specs.Words.{wrapped}
use Rattle.run_convolution.proofs.Words.{wrapped_add, wrapped_lt}
use Rattle.verilog.specs.Expressions.{Expression, net, literal, negated, sum, difference, shifted}
use Rattle.verilog.specs.Syntax.{Net}
use Rattle.verilog.specs.Values.{Values, width_in, signed_in, width_of, signed_of, value_at, pattern_of}
use Rattle.verilog.specs.Meaning.{assigned}
use Rattle.verilog_text.proofs.Patterns.{wrapped_negative, wrapped_difference, wrapped_shift, same_width, sample_extended}

pub record Wide (nets : List Net) (s : List ℕ) : Type 0 where
  pub width : width_in nets s ≡ 64
  pub signed : signed_in nets s ≡ true

module _ (nets : List Net) (v : Values) (l : List ℕ) (wl : Wide nets l) where
  abbrev given : Expression → ℕ
  given e = assigned nets v (record { left = l; right = e })

  pub nothing_is : given (literal 0) ≡ wrapped (pos 0)
  unfolding assigned width_of signed_of value_at
  nothing_is = rw wl.width

  module _ (a : List ℕ) (wa : Wide nets a) (s : ℕ) (p : ℤ) (ea : v a ≡ wrapped p) where
    pub shift_is : given (shifted (net a) (literal s)) ≡ wrapped (shifted_up s p)
    unfolding assigned width_of signed_of value_at
    shift_is = rw (wl.width, wa.width, wa.signed, ea, same_width (wrapped p)) (omega (arith, wrapped_shift s p))

    pub minus_is : given (negated (shifted (net a) (literal s))) ≡ wrapped (neg_ℤ (shifted_up s p))
    unfolding assigned width_of signed_of value_at
    minus_is = rw (wl.width, wa.width, wa.signed, ea, same_width (wrapped p)) (omega (arith, wrapped_shift s p, wrapped_negative (shifted_up s p)))

    module _ (b : List ℕ) (wb : Wide nets b) (q : ℤ) (eb : v b ≡ wrapped q) where
      pub sum_is : given (sum (shifted (net a) (literal s)) (net b)) ≡ wrapped (shifted_up s p +ℤ q)
      unfolding assigned width_of signed_of value_at
      sum_is =
          rw (wl.width, wa.width, wb.width, wa.signed, wb.signed, ea, eb, same_width (wrapped p), same_width (wrapped q))
          (omega (arith, wrapped_shift s p, wrapped_add (shifted_up s p) q))

      pub difference_is : given (difference (shifted (net a) (literal s)) (net b)) ≡ wrapped (shifted_up s p -ℤ q)
      unfolding assigned width_of signed_of value_at
      difference_is =
          rw (wl.width, wa.width, wb.width, wa.signed, wb.signed, ea, eb, same_width (wrapped p), same_width (wrapped q))
          (omega (arith, wrapped_shift s p, wrapped_difference (shifted_up s p) q))

      pub reversed_is : given (difference (net b) (shifted (net a) (literal s))) ≡ wrapped (q -ℤ shifted_up s p)
      unfolding assigned width_of signed_of value_at
      reversed_is =
          rw (wl.width, wb.width, wa.width, wb.signed, wa.signed, ea, eb, same_width (wrapped p), same_width (wrapped q))
          (omega (arith, wrapped_shift s p, wrapped_difference q (shifted_up s p)))

  pub input_is : (a : List ℕ) → width_in nets a ≡ 16 → signed_in nets a ≡ true → (x : ℤ) → SFits w16 x → v a ≡ pattern_of 16 x → given (net a) ≡ wrapped x
  unfolding assigned width_of signed_of value_at
  input_is a w g x f e = rw (wl.width, w, g, e, sample_extended x f) (omega (arith, wrapped_lt x))
