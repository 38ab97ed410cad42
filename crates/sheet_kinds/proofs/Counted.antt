-- How many elements pass a test, in std's word. Assumes nothing.
use mathlib.Core.Path.{◌≡◌, refl}
use mathlib.Core.Bool.{Bool, true, false, cond}
use mathlib.Core.List.{List}
use Prim.Native.Nat.{ℕ, ◌+◌}
use native.Mathlib.Omega.{arith}
use Rattle.std.specs.List.{count_by}
use Rattle.std.proofs.lemmas.List.Recursion.{is_count_by}
use Rattle.sequence.specs.Count.{how_many}

one_more : (b : Bool) (n : ℕ) → cond b 1 0 + n ≡ cond b (1 + n) n
one_more true n = refl
one_more false n = omega arith

pub how_many_counted : {A : Type 0} (test : A → Bool) (xs : List A) → how_many test xs ≡ count_by test xs
unfolding how_many
how_many_counted test = is_count_by (how_many test) test refl (λ x xs. one_more (test x) (how_many test xs))
