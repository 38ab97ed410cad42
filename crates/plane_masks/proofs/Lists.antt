-- A list given place by place, and the lowest cell that breaks a rule. Assumes nothing.
use mathlib.Core.Path.{◌≡◌, sym, ap, ◌∙◌}
use mathlib.Core.Bool.{Bool, true, false}
use mathlib.Core.List.{List}
use Prim.Native.Nat.{ℕ, ◌<◌}
use native.Mathlib.Omega.{arith}
use lib.ListN.{length, get_or}
use lib.Seq.{ext_get_or}
use Rattle.refusal.specs.Answer.{nowhere, at_place, lowest}
use Rattle.refusal.proofs.Checks.{lowest_none_at}
use Rattle.refusal.proofs.Lowest.{lowest_is, is_lowest, is_nowhere}
use Rattle.sequence.specs.UpTo.{up_to}
use Rattle.sequence.proofs.UpTo.{length_up_to, get_d_up_to}
use Rattle.plane_masks.specs.Grid.{cell_numbers}

-- it is a list that has the same elements
pub listed : {A : Type 0} (a : A) {n : ℕ} (f : ℕ → A) (l : List A) → length l ≡ n → ((i : ℕ) → i < n → f i ≡ get_or l i a) → up_to n f ≡ l
listed a {n} f l e h = ext_get_or a (up_to n f) l (length_up_to n f ∙ sym e) (λ (i : ℕ) k. go i (simp length_up_to at k))
  where
    go : (i : ℕ) → i < n → get_or (up_to n f) i a ≡ get_or l i a
    go i k = get_d_up_to n f a i k ∙ h i k

module _ (f : ℕ → Bool) (n : ℕ) where
  number_at : (i : ℕ) → i < n → get_or (cell_numbers n) i 0 ≡ i
  number_at i h = get_d_up_to n (λ (c : ℕ). c) 0 i h

  within : (i : ℕ) → i < n → i < length (cell_numbers n)
  within i h = omega (arith, length_up_to n (λ (c : ℕ). c))

  below : (i : ℕ) → i < length (cell_numbers n) → i < n
  below i h = omega (arith, length_up_to n (λ (c : ℕ). c))

  pub lowest_cell : (c : ℕ) → c < n → f c ≡ true → ((i : ℕ) → i < c → f i ≡ false) → lowest f (cell_numbers n) ≡ at_place c
  lowest_cell c h t none = is_lowest 0 f (cell_numbers n) c (record {
    within = within c h;
    holds = ap f (number_at c h) ∙ t;
    not_before = λ i l. ap f (number_at i (omega arith)) ∙ none i l;
  })

  pub no_cell : ((i : ℕ) → i < n → f i ≡ false) → lowest f (cell_numbers n) ≡ nowhere
  no_cell none = is_nowhere 0 f (cell_numbers n) 0 (λ i h. ap f (number_at i (below i h)) ∙ none i (below i h))

  pub none_of : lowest f (cell_numbers n) ≡ nowhere → (i : ℕ) → i < n → f i ≡ false
  none_of e i h = ap f (sym (number_at i h)) ∙ lowest_none_at 0 f 0 (cell_numbers n) i e (within i h)

  pub cell_of_lem : (c : ℕ) → lowest f (cell_numbers n) ≡ at_place c → (c < n) × (f c ≡ true) × ((i : ℕ) → i < c → f i ≡ false)
  cell_of_lem c e =
      let w = lowest_is 0 f (cell_numbers n) c e in
      let h : c < n = below c w.within in
      (h, ap f (sym (number_at c h)) ∙ w.holds, λ i l. ap f (sym (number_at i (omega arith))) ∙ w.not_before i l)
