-- The bytes of lines beside their numbers, one line more. Assumes nothing.
use mathlib.Core.Path.{refl}
use Prim.Native.Nat.{ℕ, ◌+◌, ◌*◌}
use mathlib.Core.List.{List}
use native.Mathlib.Omega.{arith}
use Rattle.sequence.specs.UpTo.{up_to}
use Rattle.text.specs.Numbers.{decimal}
use Rattle.text.specs.Lines.{lines_from, numbered_from}
use Rattle.text.proofs.Lines.{lines_next, numbered_next, length_next}
use Rattle.verilog_length.specs.Inner.{Beside, BesideAll}

module _ {A : Type 0} (line_of : ℕ → A → List ℕ) (f : ℕ → A) (most : ℕ) where
  pub none_beside : BesideAll (lines_from line_of 0 (up_to 0 f)) 0 (most * 0) 0
  unfolding up_to lines_from numbered_from
  none_beside = record { bytes = refl; within = omega arith }

  pub one_beside : (i count r : ℕ) → BesideAll (lines_from line_of 0 (up_to i f)) i (most * i) count → Beside (line_of i (f i)) i most r
      → BesideAll (lines_from line_of 0 (up_to (i + 1) f)) (i + 1) (most * (i + 1)) (count + r)
  one_beside i count r all one =
      record {
        bytes = omega (
          arith,
          all.bytes,
          one.bytes,
          length_next (λ (j : ℕ). lines_from line_of 0 (up_to j f)) (λ (j : ℕ). line_of j (f j)) (lines_next line_of f) i,
          length_next (numbered_from decimal 0) decimal (numbered_next decimal) i,
        );
        within = omega (arith, all.within, one.within);
      }
