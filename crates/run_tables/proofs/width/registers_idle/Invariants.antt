-- Where `idle` is still set, the registers that were read are 0.
use Rattle.std.proofs.Common.{◌≡◌, true, ℕ, ◌<◌, ◌≤◌, get_or}
use Rattle.run_tables.proofs.width.registers_idle.Given as goal

abbrev pub invariant-loop-j : goal.invariant-loop-j
invariant-loop-j l = l.idle ≡ true → (i : ℕ) → l.k ≤ i → i < l.j → get_or l.registers i 0 ≡ 0
