-- `bench_second::form::least` meets its contract. The invariant: the least weights of the number made of the bits passed, and of the next, are those of the recurrence. Assumes nothing.
use Rattle.bench_second.proofs.Least.{Walked}
use Rattle.bench_second.proofs.form.least.Given as goal

abbrev pub invariant-loop-place : goal.invariant-loop-place
invariant-loop-place l = Walked l.magnitude l.place l.here l.next
