-- A scan for the lowest place that breaks a rule, over a list that is given place by place. Assumes nothing.
use mathlib.Core.Path.{◌≡◌, sym, ap, ◌∙◌}
use mathlib.Core.Bool.{Bool, true, false}
use Prim.Native.Nat.{ℕ, ◌≤◌, ◌<◌, zero-le}
use native.Mathlib.Omega.{arith}
use lib.ListN.{length}
use Rattle.std.specs.Prelude.{Option, Some, None, IfSome, MatchOption}
use Rattle.refusal.specs.Answer.{found_at, lowest}
use Rattle.refusal.proofs.Lowest.{is_lowest, is_nowhere}
use Rattle.sequence.specs.UpTo.{up_to}
use Rattle.sequence.proofs.UpTo.{length_up_to, get_d_up_to}

module _ {A : Type 0} (f : ℕ → A) (d : A) (breaks : A → Bool) (n : ℕ) where
  -- place k of the n breaks the rule, or keeps it
  abbrev pub Breaks : ℕ → Type 0
  Breaks k = k < n → breaks (f k) ≡ true

  abbrev pub Keeps : ℕ → Type 0
  Keeps k = k < n → breaks (f k) ≡ false

  -- what a search of the places from 0 on finds
  abbrev pub IsFound : Option ℕ → Type 0
  IsFound r = MatchOption r ((k : ℕ) → 0 ≤ k → k < n → Keeps k) (λ i. (0 ≤ i) × (i < n) × Breaks i × ((k : ℕ) → 0 ≤ k → k < i → Keeps k))

  pub found_lowest : (r : Option ℕ) → IsFound r → found_at r ≡ lowest breaks (up_to n f)
  found_lowest None h = sym (is_nowhere d breaks (up_to n f) 0 (λ k l. let m : k < n = omega (arith, l, length_up_to n f) in ap breaks (get_d_up_to n f d k m) ∙ h k zero-le m m))
  found_lowest (Some i) h =
      let m : i < length (up_to n f) = omega (arith, h.1, length_up_to n f) in
      sym (is_lowest d breaks (up_to n f) i (record {
        within = m;
        holds = ap breaks (get_d_up_to n f d i h.1) ∙ h.2 h.1;
        not_before = λ k l. let m : k < n = omega (arith, l, h.1) in ap breaks (get_d_up_to n f d k m) ∙ h.3 k zero-le l m;
      }))

  pub found_within : (r : Option ℕ) → IsFound r → IfSome r (λ i. i < n)
  found_within None h = tt
  found_within (Some i) h = h.1
