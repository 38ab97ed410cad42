-- An index of no rows: heads cleared. Assumes nothing.
use mathlib.Core.Path.{◌≡◌, sym, ap, ◌∙◌, subst}
use mathlib.Core.List.{List}
use Prim.Native.Nat.{ℕ, ◌<◌, zero-le}
use native.Mathlib.Omega.{arith}
use lib.ListN.{length, get_or, replicate}
use Rattle.sequence.proofs.Members.{same_at}
use Rattle.build_index.specs.Inner.{Last, Indexed}

pub indexed_none : (t heads links : List ℕ) (m : ℕ) → heads ≡ replicate {A = ℕ} m 0 → 0 < length heads → Indexed t heads links 0
indexed_none t heads links m e h =
    record {
      few = zero-le;
      room = omega arith;
      buckets = h;
      linked = zero-le;
      heads_in = λ k l.
          subst (λ p. Last t (length heads) k p 0) (sym (ap (λ (xs : List ℕ). get_or xs k 0) e ∙ same_at m k 0))
          (record { low = zero-le; none = λ i a b f. absurd (omega arith); last = λ q. absurd (omega arith) });
      links_in = λ i l. absurd (omega arith);
      distinct = λ i j l k f. absurd (omega arith);
    }
