-- The first fit over a list of things to try. Assumes nothing.
use mathlib.Core.Path.{◌≡◌, refl, sym, ap, ◌∙◌}
use mathlib.Core.List.{List, [], ◌∷◌}
use Prim.Native.Nat.{ℕ, zero, suc, ◌<◌, zero-le, suc-le-suc}
use native.Mathlib.Nat.{le_of_suc-le-suc, not-suc-le-zero}
use native.Mathlib.Omega.{arith}
use lib.ListN.{length, get_or}
use Rattle.sequence.specs.UpTo.{up_to}
use Rattle.sequence.proofs.UpTo.{length_up_to, get_d_up_to}
use Rattle.network.specs.declared.Row.{Row}
use Rattle.build_steps.specs.Search.{Fit, fit, none_fits, or_else, first_over}

pub not_both : {r : Row} → none_fits ≡ fit r → ⊥
not_both e = let z : ◌≡◌ {A = ℕ} 0 1 = cc in omega arith

-- try k gives r, and nothing before it fits
pub record FirstAt (try : ℕ → Fit) (n : ℕ) (r : Row) : Type 0 where
  pub place : ℕ
  pub within : place < n
  pub fits : try place ≡ fit r
  pub not_before : (k : ℕ) → k < place → try k ≡ none_fits

module _ {A : Type 0} (a : A) (try : A → Fit) where
  pub over_fit : (xs : List A) (r : Row) → first_over try xs ≡ fit r → FirstAt (λ k. try (get_or xs k a)) (length xs) r
  unfolding first_over or_else
  over_fit [] r e = absurd (not_both e)
  over_fit (x ∷ xs) r e = go (try x) refl e (over_fit xs r)
    where
      go : (f : Fit) → try x ≡ f → or_else f (first_over try xs) ≡ fit r → (first_over try xs ≡ fit r → FirstAt (λ k. try (get_or xs k a)) (length xs) r)
          → FirstAt (λ k. try (get_or (x ∷ xs) k a)) (suc (length xs)) r
      go (fit q) t e ih = record { place = 0; within = suc-le-suc zero-le; fits = t ∙ e; not_before = λ k l. absurd (not-suc-le-zero l) }
      go none_fits t e ih = let w = ih e in record { place = suc w.place; within = suc-le-suc w.within; fits = w.fits; not_before = before w }
        where
          before : (w : FirstAt (λ k. try (get_or xs k a)) (length xs) r) (k : ℕ) → k < suc w.place → try (get_or (x ∷ xs) k a) ≡ none_fits
          before w zero l = t
          before w (suc k) l = w.not_before k (le_of_suc-le-suc l)

  pub over_none : (xs : List A) → first_over try xs ≡ none_fits → (k : ℕ) → k < length xs → try (get_or xs k a) ≡ none_fits
  unfolding first_over or_else
  over_none [] e k l = absurd (not-suc-le-zero l)
  over_none (x ∷ xs) e k l = go (try x) refl e (over_none xs) k l
    where
      go : (f : Fit) → try x ≡ f → or_else f (first_over try xs) ≡ none_fits → (first_over try xs ≡ none_fits → (k : ℕ) → k < length xs → try (get_or xs k a) ≡ none_fits)
          → (k : ℕ) → k < suc (length xs) → try (get_or (x ∷ xs) k a) ≡ none_fits
      go (fit q) t e ih k l = absurd (not_both (sym e))
      go none_fits t e ih zero l = t
      go none_fits t e ih (suc k) l = ih e k (le_of_suc-le-suc l)

-- ---- over places 0, 1, .. n - 1, with what stands at each
module _ {A : Type 0} (a : A) (f : ℕ → A) (try : A → Fit) (n : ℕ) where
  pub up_to_fit : (r : Row) → first_over try (up_to n f) ≡ fit r → FirstAt (λ k. try (f k)) n r
  up_to_fit r e =
      let w = over_fit a try (up_to n f) r e in
      let l : w.place < n = omega (arith, w.within, length_up_to n f) in
      record {
        place = w.place;
        within = l;
        fits = ap try (sym (get_d_up_to n f a w.place l)) ∙ w.fits;
        not_before = λ k m. ap try (sym (get_d_up_to n f a k (omega arith))) ∙ w.not_before k m;
      }

  pub up_to_none : first_over try (up_to n f) ≡ none_fits → (k : ℕ) → k < n → try (f k) ≡ none_fits
  up_to_none e k l = ap try (sym (get_d_up_to n f a k l)) ∙ over_none a try (up_to n f) e k (omega (arith, length_up_to n f))
