-- One raised word more. Assumes nothing.
use mathlib.Core.Path.{◌≡◌, sym, ap, subst, ◌∙◌}
use mathlib.Core.Logic.{⊎_elim}
use mathlib.Core.List.{List}
use Prim.Native.Nat.{ℕ, ◌+◌, ◌<◌}
use native.Mathlib.Nat.{eq-or-lt_of_le}
use native.Mathlib.Omega.{arith}
use lib.ListN.{length, get_or, set}
use lib.Seq.{get_or-set_same, get_or-set_other}
use Rattle.run_convolution.specs.Sums.{held}
use Rattle.run_products.specs.Inner.{raised_by}
use Rattle.run_tables.specs.Inner.{Raised}

module _ (v : List ℕ) (bias : ℕ) (r words : List ℕ) (k n : ℕ) (l : k < length words) (z : held r k ≡ 0) (e : n ≡ raised_by (get_or v (k + 5) 0) bias 0) (f : Raised k v bias r words) where
  here : get_or (set words k n) k 0 ≡ raised_by (get_or v (k + 5) 0) bias (held r k)
  here = get_or-set_same words k n 0 l ∙ e ∙ ap (raised_by (get_or v (k + 5) 0) bias) (sym z)

  before : (i : ℕ) → i < k → get_or (set words k n) i 0 ≡ raised_by (get_or v (i + 5) 0) bias (held r i)
  before i u = get_or-set_other words k i n 0 (λ p. omega (arith, p)) ∙ f.at i u

  pub raised_more : Raised (k + 1) v bias r (set words k n)
  raised_more =
      record {
        at =
            λ i m. ⊎_elim (λ p. subst (λ j. get_or (set words k n) j 0 ≡ raised_by (get_or v (j + 5) 0) bias (held r j)) (sym p) here) (before i)
            (eq-or-lt_of_le {n = i} {m = k} (omega arith));
      }
