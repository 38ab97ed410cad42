-- The invariant of the loop: the argument is all digits where its bytes that are left are, and its number is the one that these make after f, which is at most 31.
use mathlib.Core.Path.{◌≡◌}
use Prim.Native.Nat.{◌≤◌}
use lib.ListN.{drop}
use Rattle.text.specs.Numbers.{are_digits, number_from}
use Rattle.sheet_input.proofs.argument.bits_of.Given as goal

abbrev pub invariant-loop-b : goal.invariant-loop-b
invariant-loop-b l = record {
  small : l.f ≤ 31;
  digits : are_digits l.text ≡ are_digits (drop l.b-index l.text);
  number : number_from 0 l.text ≡ number_from l.f (drop l.b-index l.text);
}
