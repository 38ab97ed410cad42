-- Where `idle` is still set, the coefficients that were read are 0.
use Rattle.std.proofs.Common.{◌≡◌, true, ℕ, ◌<◌, ◌≤◌, get_or, pos}
use Rattle.run_tables.proofs.width.coefficients_idle.Given as goal

abbrev pub invariant-loop-j : goal.invariant-loop-j
invariant-loop-j l = l.idle ≡ true → (i : ℕ) → l.k ≤ i → i < l.j → get_or l.h i (pos 0) ≡ pos 0
