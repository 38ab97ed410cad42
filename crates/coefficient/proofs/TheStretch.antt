-- What `trimmed` cuts off is zeros, what it leaves is empty or starts and ends with a nonzero, and where not all is zero there is no
-- other such stretch. Assumes nothing.
use mathlib.Core.Path.{◌≡◌, refl, sym, ap, ap₂, ◌∙◌}
use mathlib.Core.List.{List}
use mathlib.Core.Logic.{◌≢◌, ◌⊎◌, inl, inr, ⊎_elim}
use Prim.Native.Nat.{ℕ, suc, ◌+◌, ◌-◌, ◌<◌, ◌≤◌}
use native.Mathlib.Nat.{zero-add, lt_of_not-le, eq-or-lt_of_le, eq-zero-or-pos}
use native.Mathlib.Omega.{arith}
use lib.IntN.{ℤ, pos}
use lib.ListN.{length, drop, get_or, length-drop, get_or-eq_default}
use lib.Seq.{length-take-le, get_or-take, get_or-drop}
use Rattle.coefficient.specs.Stretch.{start_of, end_of, stretch, Location, further, StretchStarts, StretchEnds, TrimmedTo}
use Rattle.coefficient.specs.Claims.{AllZero, Bare, Trimmed, TheStretch, OwnStretch}
use Rattle.coefficient.proofs.Ends.{First, Last, Nonzeros, none, some, nonzeros, start_none, end_none, start_is, end_is}

-- ---- the stretch from a up to e, element by element
module _ (h : List ℤ) (a e : ℕ) (w : e ≤ length h) where
  stretch_length : length (stretch h a e) ≡ e - a
  stretch_length = length-take-le (e - a) (drop a h) (simp length-drop (omega arith))

  stretch_at : (i : ℕ) → i < e - a → get_or (stretch h a e) i (pos 0) ≡ get_or h (a + i) (pos 0)
  stretch_at i l = rw (get_or-take, get_or-drop)

  module _ (o : a < e) where
    starts : get_or (stretch h a e) 0 (pos 0) ≡ get_or h a (pos 0)
    starts = let q : a + 0 ≡ a = omega arith in stretch_at 0 (omega arith) ∙ ap (λ (k : ℕ). get_or h k (pos 0)) q

    ends : get_or (stretch h a e) (length (stretch h a e) - 1) (pos 0) ≡ get_or h (e - 1) (pos 0)
    ends =
        let q : a + (e - a - 1) ≡ e - 1 = omega arith in
        ap (λ (k : ℕ). get_or (stretch h a e) (k - 1) (pos 0)) stretch_length ∙ stretch_at (e - a - 1) (omega arith) ∙ ap (λ (k : ℕ). get_or h k (pos 0)) q

    from_ends : First h a → Last h (e - 1) → Trimmed h a e
    from_ends f l =
        record {
          in_order = omega arith;
          within = w;
          zeros_before = f.before;
          zeros_after = λ k m. l.after k (omega arith);
          bare = inr (λ z. f.nonzero (sym starts ∙ z), λ z. l.nonzero (sym ends ∙ z));
        }

-- ---- what the definitions give is trimmed
inside : (h : List ℤ) (k : ℕ) → get_or h k (pos 0) ≢ pos 0 → k < length h
inside h k n = lt_of_not-le (λ (l : length h ≤ k). n (get_or-eq_default h (pos 0) l))

first_before_end : (h : List ℤ) (a b : ℕ) → First h a → Last h b → a < suc b
first_before_end h a b f l = lt_of_not-le (λ (g : b < a). f.nonzero (l.after a g))

pub trimmed_is : (h : List ℤ) → Trimmed h (start_of h) (end_of h)
trimmed_is h = go (nonzeros h)
  where
    go : Nonzeros h → Trimmed h (start_of h) (end_of h)
    go (none z) =
        rw (start_none h z, end_none h z)
        (record { in_order = omega arith; within = omega arith; zeros_before = λ k l. z.zeros k; zeros_after = λ k l. z.zeros k; bare = inl refl })
    go (some a b f l) =
        let q : suc b - 1 ≡ b = omega arith in
        let m : Last h (suc b - 1) = rw q l in
        rw (start_is h a f, end_is h b l) (from_ends h a (suc b) (inside h b l.nonzero) (first_before_end h a b f l) f m)

-- ---- and nothing else is
module _ (h : List ℤ) (a e : ℕ) (t : Trimmed h a e) where
  empty_zeros : a ≡ e → AllZero h
  empty_zeros q =
      record { zeros = λ k. ⊎_elim (λ z. t.zeros_after k (omega arith)) (λ l. t.zeros_before k (omega arith)) (eq-zero-or-pos (a - k)) }

  ends_of : a < e → Bare (stretch h a e) → First h a × Last h (e - 1)
  ends_of o (inl q) = absurd (omega (arith, stretch_length h a e t.within, ap length q))
  ends_of o (inr n) = (
    record { nonzero = λ z. n.0 (starts h a e t.within o ∙ z); before = t.zeros_before },
    record { nonzero = λ z. n.1 (ends h a e t.within o ∙ z); after = λ k l. t.zeros_after k (omega arith) },
  )

  pub trimmed_only : (AllZero h → ⊥) → (a ≡ start_of h) × (e ≡ end_of h)
  trimmed_only s = go (eq-or-lt_of_le t.in_order)
    where
      go : (a ≡ e) ⊎ (a < e) → (a ≡ start_of h) × (e ≡ end_of h)
      go (inl q) = absurd (s (empty_zeros q))
      go (inr o) = let n = ends_of o t.bare in (sym (start_is h a n.0), omega (arith, end_is h (e - 1) n.1))

-- ---- the claims
the_stretch : (h : List ℤ) → TheStretch h (start_of h) (end_of h)
the_stretch h = record {
  trimmed = trimmed_is h;
  only = λ s a e t. trimmed_only h a e t s;
  empty = λ z. (start_none h z, end_none h z);
}

pub stretch_found : (h : List ℤ) (start end : ℕ) → StretchStarts h start → StretchEnds h end → TheStretch h start end
stretch_found h start end s e = rw (s.first, e.past_last) (the_stretch h)

pub stretch_own : (h : List ℤ) (at : Location) (part : List ℤ) (from : Location) → TrimmedTo h at part from → OwnStretch h at part from
stretch_own h at part from t = record {
  start = start_of h;
  end = end_of h;
  the_stretch = the_stretch h;
  elements = t.contents;
  stands = t.place;
  at_the_start = λ z. (
    t.contents ∙ ap₂ (stretch h) (start_none h z) (end_none h z),
    t.place ∙ ap (further at) (start_none h z) ∙ ap (λ (k : ℕ). (at.0, k)) (zero-add at.1),
  );
}

-- the places are in order, and within the list
pub in_order : (h : List ℤ) → start_of h ≤ end_of h
in_order h = (trimmed_is h).in_order

pub end_within : (h : List ℤ) → end_of h ≤ length h
end_within h = (trimmed_is h).within
