-- The bench figures on taps that document 01 marks [P], with their neighbours in the same line, as request 4 of document 02 amends them; other halves, document 01's known trap,
-- and both ends of the range. A tap stands by its bit pattern. Definitions only; the proof is in proofs/Figures.antt.
use Rattle.std.specs.Prelude.{◌≡◌, ◌^◌, pos, neg_ℤ}
use Rattle.std.specs.Float.{binary64}
use Rattle.std.specs.Float.Ieee.{of_bits}
use Rattle.refusal.specs.Answer.{given, refused}
use Rattle.tap.specs.Rounding.{exact, rounded, TapRounded}
use Rattle.tap.specs.Claims.{distance}

pub record TapFigures : Type 0 where
  -- "0.625 at F = 2 now gives 2 with leftover 0.5"; 3 is as near
  pub five_eighths : TapRounded 2 (of_bits binary64 0x3fe4_0000_0000_0000) (given (rounded (pos 2) (of_bits binary64 0x3fe0_0000_0000_0000)))
  pub as_near : distance 2 (of_bits binary64 0x3fe4_0000_0000_0000) (pos 3) ≡ distance 2 (of_bits binary64 0x3fe4_0000_0000_0000) (pos 2)
  -- "-0.625 gives -2 with leftover -0.5"
  pub minus_five_eighths : TapRounded 2 (of_bits binary64 0xbfe4_0000_0000_0000) (given (rounded (neg_ℤ (pos 2)) (of_bits binary64 0xbfe0_0000_0000_0000)))
  -- "0.5: 2, exact"
  pub half : TapRounded 2 (of_bits binary64 0x3fe0_0000_0000_0000) (given (exact (pos 2)))
  -- 0.5 and -0.5 at F = 0 are 0, and not exact
  pub half_to_zero : TapRounded 0 (of_bits binary64 0x3fe0_0000_0000_0000) (given (rounded (pos 0) (of_bits binary64 0x3fe0_0000_0000_0000)))
  pub minus_half_to_zero : TapRounded 0 (of_bits binary64 0xbfe0_0000_0000_0000) (given (rounded (pos 0) (of_bits binary64 0xbfe0_0000_0000_0000)))
  -- 1.5 and -1.5 at F = 0 are 2 and -2: the leftover has the other sign
  pub three_halves : TapRounded 0 (of_bits binary64 0x3ff8_0000_0000_0000) (given (rounded (pos 2) (of_bits binary64 0xbfe0_0000_0000_0000)))
  pub minus_three_halves : TapRounded 0 (of_bits binary64 0xbff8_0000_0000_0000) (given (rounded (neg_ℤ (pos 2)) (of_bits binary64 0x3fe0_0000_0000_0000)))
  -- the largest number below 0.5, at F = 0: "Adding 0.5 in floats and cutting" gives 1
  pub below_half : TapRounded 0 (of_bits binary64 0x3fdf_ffff_ffff_ffff) (given (rounded (pos 0) (of_bits binary64 0x3fdf_ffff_ffff_ffff)))
  -- -2^31 - 0.25 and -2^31 - 0.5 at F = 0 are -2^31; "2^31 - 0.5 still rounds up and is turned down with 6"
  pub least_and_a_quarter : TapRounded 0 (of_bits binary64 0xc1e0_0000_0008_0000) (given (rounded (neg_ℤ (pos (2 ^ 31))) (of_bits binary64 0xbfd0_0000_0000_0000)))
  pub least_and_a_half : TapRounded 0 (of_bits binary64 0xc1e0_0000_0010_0000) (given (rounded (neg_ℤ (pos (2 ^ 31))) (of_bits binary64 0xbfe0_0000_0000_0000)))
  pub most_and_a_half : TapRounded 0 (of_bits binary64 0x41df_ffff_ffe0_0000) (refused 6 0)
