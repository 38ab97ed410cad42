-- The measure is n: the call has n / 10000, the digits before the last four.
use Rattle.text.proofs.+decimal_at.Given as goal

abbrev pub decreases-decimal_at : goal.decreases-decimal_at
decreases-decimal_at l = l.n
