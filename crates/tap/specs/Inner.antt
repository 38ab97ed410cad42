-- What the steps of rounding a tap give, and what a rounded tap holds. Definitions only.
use Rattle.std.specs.Prelude.{◌*◌, Bool, true, false, cond, ℤ, pos, Float}
use Rattle.std.specs.Float.{nan, inf, fin, binary64}
use Rattle.std.specs.Float.Ieee.{up, down, eq, sub, of_int}
use Rattle.word.specs.Bounds.{within_bounds}
use Rattle.refusal.specs.Answer.{Answer, given, refused}
use Rattle.tap.specs.Rounding.{TapResult, exact, rounded, nearest_whole, signed}

-- the whole number nearest to a finite x
unfoldable pub nearest_of : Float → ℤ
unfolding nearest_whole
nearest_of nan = pos 0
nearest_of (inf s) = pos 0
nearest_of (fin s m e) = signed s (nearest_whole (m * up e) (down e))

-- whether x is finite and that number is within the bounds
unfoldable pub rounds_within_of : Float → Bool
unfolding nearest_of
rounds_within_of nan = false
rounds_within_of (inf s) = false
rounds_within_of (fin s m e) = within_bounds (nearest_of (fin s m e))

-- x as the whole number z and the rest
unfoldable pub parted : Float → ℤ → TapResult
unfolding eq sub of_int
parted x z = cond (eq x (of_int binary64 z)) (exact z) (rounded z (sub binary64 x (of_int binary64 z)))

-- whether an answer is a refusal
abbrev pub is_refused : {A : Type 0} → Answer A → Bool
is_refused (given a) = false
is_refused (refused number place) = true
