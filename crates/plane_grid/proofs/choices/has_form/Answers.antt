-- `plane_grid::choices::has_form` meets its contract. The choice 0 is always there: the canonical form. Assumes nothing.
use Rattle.std.proofs.Common.{◌<◌, length, sym, ap, arith, lt-ltb}
use Rattle.word.proofs.Bounds.{i32_coefficient, coefficient_magnitude}
use Rattle.signed_digit.specs.Forms.{listing}
use Rattle.signed_digit.proofs.Coefficients.{canonical_32}
use Rattle.plane_grid.proofs.choices.has_form.Goals as goal

pub returns-then-choice-eq0 : goal.returns-then-choice-eq0
returns-then-choice-eq0 c =
    let n = c.args.n in
    let some : 0 < length (listing 32 n) = omega (arith, ap length (canonical_32 n (coefficient_magnitude n (i32_coefficient n c.ranges.n))).first.1) in
    rw c.if-choice-eq0.true (sym (lt-ltb 0 (length (listing 32 n)) some))
