-- The first fit over a list that is given place by place: where the places passed have none, the next that has one is it. Assumes nothing.
use mathlib.Core.Path.{◌≡◌, refl, sym, ap, ◌∙◌}
use mathlib.Core.List.{List, [], ◌∷◌, ◌++◌}
use mathlib.Core.Logic.{⊎_elim}
use Prim.Native.Nat.{ℕ, zero, suc, ◌+◌, ◌≤◌, ◌<◌}
use native.Mathlib.Nat.{eq-or-lt_of_le}
use native.Mathlib.Numerals.{add-one}
use native.Mathlib.Omega.{arith}
use lib.ListN.{length, get_or, drop}
use Rattle.std.proofs.Common.{drop-cons}
use Rattle.sequence.specs.UpTo.{up_to}
use Rattle.network.specs.declared.Row.{Row}
use Rattle.build_steps.specs.Search.{Fit, fit, none_fits, or_else, first_over}

pub else_none : (f : Fit) → or_else f none_fits ≡ f
unfolding or_else
else_none (fit r) = refl
else_none none_fits = refl

else_assoc : (f g h : Fit) → or_else (or_else f g) h ≡ or_else f (or_else g h)
unfolding or_else
else_assoc (fit r) g h = refl
else_assoc none_fits g h = refl

module _ {A : Type 0} (try : A → Fit) where
  over_append : (xs ys : List A) → first_over try (xs ++ ys) ≡ or_else (first_over try xs) (first_over try ys)
  unfolding first_over or_else
  over_append [] ys = refl
  over_append (x ∷ xs) ys = ap (or_else (try x)) (over_append xs ys) ∙ sym (else_assoc (try x) (first_over try xs) (first_over try ys))

  module _ (f : ℕ → A) where
    over_snoc : (n : ℕ) → first_over try (up_to (suc n) f) ≡ or_else (first_over try (up_to n f)) (try (f n))
    unfolding up_to first_over
    over_snoc n = over_append (up_to n f) (f n ∷ []) ∙ ap (or_else (first_over try (up_to n f))) (else_none (try (f n)))

    pub over_none : (n : ℕ) → ((k : ℕ) → k < n → try (f k) ≡ none_fits) → first_over try (up_to n f) ≡ none_fits
    unfolding up_to first_over or_else
    over_none zero h = refl
    over_none (suc n) h = over_snoc n ∙ rw (over_none n (λ k l. h k (omega arith)), h n (omega arith)) refl

    pub over_first : (n i : ℕ) (r : Row) → i < n → ((k : ℕ) → k < i → try (f k) ≡ none_fits) → try (f i) ≡ fit r → first_over try (up_to n f) ≡ fit r
    unfolding or_else
    over_first zero i r l h e = absurd (omega arith)
    over_first (suc n) i r l h e =
        over_snoc n
        ∙ ⊎_elim
        (λ (q : i ≡ n). rw (over_none n (λ k b. h k (omega arith)), ap (λ (k : ℕ). try (f k)) (sym q) ∙ e) refl)
        (λ (b : i < n). rw (over_first n i r b h e) refl)
        (eq-or-lt_of_le (let q : i ≤ n = omega arith in q))

-- the place that comes first decides, where it has a fit
pub over_drop : (try : ℕ → Fit) (xs : List ℕ) (k : ℕ) → k < length xs → first_over try (drop k xs) ≡ or_else (try (get_or xs k 0)) (first_over try (drop (k + 1) xs))
unfolding first_over
over_drop try xs k l = ap (first_over try) (drop-cons xs k 0 l ∙ ap (λ (j : ℕ). get_or xs k 0 ∷ drop j xs) (sym (add-one k)))
