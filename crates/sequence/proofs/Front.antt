-- Filling a table from the front: what each place holds while it goes on. Assumes nothing.
use mathlib.Core.Path.{◌≡◌, refl, sym, ap, ◌∙◌}
use mathlib.Core.List.{List, ◌++◌, map}
use Prim.Native.Nat.{ℕ, suc, ◌+◌, ◌<◌, ◌≤◌}
use native.Mathlib.Numerals.{add-one}
use native.Mathlib.Omega.{arith}
use lib.ListN.{length, get_or, drop, set, get_or-append}
use lib.Seq.{drop-cons, set_at, append_snoc, get_or-append-add, get_or-drop, get_or-set_other}
use Rattle.sequence.specs.UpTo.{up_to}
use Rattle.sequence.specs.Inner.{front}
use Rattle.sequence.proofs.UpTo.{length_up_to, get_d_up_to, up_to_map}

-- a place below the one that is written
pub set_before : {A : Type 0} (l : List A) (k j : ℕ) (a d : A) → j < k → get_or (set l k a) j d ≡ get_or l j d
set_before l k j a d h = get_or-set_other l k j a d (λ (e : j ≡ k). omega arith)

module _ {ℓ} {A : Type ℓ} (f : ℕ → A) (r : List A) where
  pub front_start : front f r 0 ≡ r
  unfolding front up_to
  front_start = refl

  -- past what has been filled, the table is as it was
  pub front_read : (k j : ℕ) (d : A) → get_or (front f r k) (k + j) d ≡ get_or r (k + j) d
  unfolding front
  front_read k j d =
      ap (λ n. get_or (up_to k f ++ drop k r) (n + j) d) (sym (length_up_to k f)) ∙ get_or-append-add (up_to k f) (drop k r) j d ∙ get_or-drop k r j d

  pub front_next : (k : ℕ) (d : A) → k < length r → set (front f r k) k (f k) ≡ front f r (k + 1)
  unfolding front up_to
  front_next k d h =
      rw (add-one k, drop-cons r k d h) (set_at (up_to k f) (get_or r k d) (drop (suc k) r) (f k) k (length_up_to k f) ∙ sym (append_snoc (up_to k f) (f k) (drop (suc k) r)))

  -- what has been filled
  pub front_done : (n k : ℕ) (d : A) → k < n → get_or (front f r n) k d ≡ f k
  unfolding front
  front_done n k d l = get_or-append (up_to n f) (drop n r) d k (omega (arith, length_up_to n f)) ∙ get_d_up_to n f d k l

-- a table filled with f of each element of a list
pub front_map : {A B : Type 0} (f : A → B) (d : A) (s : List A) (t : List B) (n : ℕ) → n ≤ length s → length s ≤ n
    → front (λ k. f (get_or s k d)) t n ≡ map f s ++ drop (length s) t
unfolding front
front_map {B = B} f d s t n h l =
    let e : n ≡ length s = omega arith in
    ap (front (λ k. f (get_or s k d)) t) e ∙ ap (λ (r : List B). r ++ drop (length s) t) (up_to_map f s d)
