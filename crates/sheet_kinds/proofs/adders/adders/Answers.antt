-- `sheet_kinds::adders::adders` meets its contract: no more taps than coefficients are joined (`few`), so the sum fits 32 bits. Assumes nothing.
use Prim.Native.Nat.{◌≤◌}
use native.Mathlib.Omega.{arith}
use lib.ListN.{length}
use Rattle.sequence.proofs.Count.{count_few}
use Rattle.network.specs.Adders.{is_nonzero}
use Rattle.sheet_kinds.proofs.adders.adders.Goals.{After-joining_adders-joining}
use Rattle.sheet_kinds.proofs.adders.adders.Goals as goal

few : (c : After-joining_adders-joining) → c.joining_adders-joining.result ≤ length c.args.coefficients.now
few c = omega (arith, c.joining_adders-joining.ensures, count_few is_nonzero c.args.coefficients.now)

pub overflow_add-result : goal.overflow_add-result
overflow_add-result c = record { fits = omega (arith, few c, c.requires.1) }

pub overflow_cast-result : goal.overflow_cast-result
overflow_cast-result c = record { fits = omega (arith, few c, c.requires.1) }
