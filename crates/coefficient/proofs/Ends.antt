-- The first and the last nonzero of a list are where the definitions have them. Assumes nothing.
use Rattle.std.specs.Prelude.{Option, Some, None, unwrap_or, MatchOption}
use mathlib.Core.Path.{◌≡◌, refl, sym, ap, ◌∙◌}
use mathlib.Core.Bool.{cond}
use mathlib.Core.List.{List, [], ◌∷◌}
use mathlib.Core.Logic.{◌≢◌, ◌⊎◌, inl, inr, ⊎_elim}
use Prim.Native.Nat.{ℕ, zero, suc, ◌+◌, ◌<◌}
use native.Mathlib.Nat.{zero-add}
use native.Mathlib.Numerals.{add-one}
use native.Mathlib.Omega.{arith}
use lib.IntN.{ℤ, pos, negsuc, nat_abs}
use lib.ListN.{length, get_or, get_or-eq_default}
use Rattle.word.proofs.Order.{lt_or_le}
use Rattle.word.specs.Zero.{is_zero}
use Rattle.word.proofs.Zero.{nonzero_is}
use Rattle.coefficient.specs.Stretch.{first_from, start_of, end_with, end_of}
use Rattle.coefficient.specs.Claims.{AllZero}

-- a is the place of the first nonzero
pub record First (h : List ℤ) (a : ℕ) : Type 0 where
  pub nonzero : get_or h a (pos 0) ≢ pos 0
  pub before : (k : ℕ) → k < a → get_or h k (pos 0) ≡ pos 0

-- b is the place of the last nonzero
pub record Last (h : List ℤ) (b : ℕ) : Type 0 where
  pub nonzero : get_or h b (pos 0) ≢ pos 0
  pub after : (k : ℕ) → b < k → get_or h k (pos 0) ≡ pos 0

pub data Nonzeros (h : List ℤ) : Type 0 where
  none : AllZero h → Nonzeros h
  some : (a b : ℕ) → First h a → Last h b → Nonzeros h

-- ---- one element in front
zero_or_not : (x : ℤ) → (x ≡ pos 0) ⊎ (x ≢ pos 0)
zero_or_not (pos zero) = inl refl
zero_or_not (pos (suc m)) = inr (λ e. omega (arith, ap nat_abs e))
zero_or_not (negsuc m) = inr (λ e. omega (arith, ap nat_abs e))

module _ (x : ℤ) (xs : List ℤ) where
  zeros_on : x ≡ pos 0 → AllZero xs → AllZero (x ∷ xs)
  zeros_on z a = record { zeros = go }
    where
      go : (k : ℕ) → get_or (x ∷ xs) k (pos 0) ≡ pos 0
      go zero = z
      go (suc k) = a.zeros k

  first_here : x ≢ pos 0 → First (x ∷ xs) 0
  first_here n = record { nonzero = n; before = λ k l. absurd (omega arith) }

  first_on : (a : ℕ) → x ≡ pos 0 → First xs a → First (x ∷ xs) (suc a)
  first_on a z f = record { nonzero = f.nonzero; before = go }
    where
      go : (k : ℕ) → k < suc a → get_or (x ∷ xs) k (pos 0) ≡ pos 0
      go zero l = z
      go (suc k) l = f.before k (omega arith)

  last_here : x ≢ pos 0 → AllZero xs → Last (x ∷ xs) 0
  last_here n a = record { nonzero = n; after = go }
    where
      go : (k : ℕ) → 0 < k → get_or (x ∷ xs) k (pos 0) ≡ pos 0
      go zero l = absurd (omega arith)
      go (suc k) l = a.zeros k

  last_on : (b : ℕ) → Last xs b → Last (x ∷ xs) (suc b)
  last_on b l = record { nonzero = l.nonzero; after = go }
    where
      go : (k : ℕ) → suc b < k → get_or (x ∷ xs) k (pos 0) ≡ pos 0
      go zero m = absurd (omega arith)
      go (suc k) m = l.after k (omega arith)

  nonzeros_on : (x ≡ pos 0) ⊎ (x ≢ pos 0) → Nonzeros xs → Nonzeros (x ∷ xs)
  nonzeros_on (inl z) (none a) = none (zeros_on z a)
  nonzeros_on (inr n) (none a) = some 0 0 (first_here n) (last_here n a)
  nonzeros_on (inl z) (some a b f l) = some (suc a) (suc b) (first_on a z f) (last_on b l)
  nonzeros_on (inr n) (some a b f l) = some 0 (suc b) (first_here n) (last_on b l)

pub nonzeros : (h : List ℤ) → Nonzeros h
nonzeros [] = none (record { zeros = λ k. refl })
nonzeros (x ∷ xs) = nonzeros_on x xs (zero_or_not x) (nonzeros xs)

-- ---- where the definitions have them
rest : (x : ℤ) (xs : List ℤ) → AllZero (x ∷ xs) → AllZero xs
rest x xs a = record { zeros = λ k. a.zeros (suc k) }

first_none : (h : List ℤ) (k : ℕ) → AllZero h → first_from k h ≡ 0
unfolding first_from
first_none [] k a = refl
first_none (x ∷ xs) k a = ap (λ (z : ℤ). cond (is_zero z) (first_from (suc k) xs) k) (a.zeros 0) ∙ first_none xs (suc k) (rest x xs a)

pub start_none : (h : List ℤ) → AllZero h → start_of h ≡ 0
start_none h a = first_none h 0 a

pub end_none : (h : List ℤ) → AllZero h → end_of h ≡ 0
unfolding end_of
end_none [] a = refl
end_none (x ∷ xs) a = ap (end_with x) (end_none xs (rest x xs a)) ∙ ap (λ (z : ℤ). end_with z 0) (a.zeros 0)

first_is : (h : List ℤ) (k a : ℕ) → First h a → first_from k h ≡ k + a
unfolding first_from
first_is [] k a f = absurd (f.nonzero refl)
first_is (x ∷ xs) k zero f = rw (nonzero_is x f.nonzero) (omega arith)
first_is (x ∷ xs) k (suc a) f =
    let g : First xs a = record { nonzero = f.nonzero; before = λ i l. f.before (suc i) (omega arith) } in
    let i = first_is xs (suc k) a g in
    ap (λ (z : ℤ). cond (is_zero z) (first_from (suc k) xs) k) (f.before 0 (omega arith)) ∙ omega arith

pub start_is : (h : List ℤ) (a : ℕ) → First h a → start_of h ≡ a
start_is h a f = first_is h 0 a f ∙ zero-add a

pub end_is : (h : List ℤ) (b : ℕ) → Last h b → end_of h ≡ suc b
unfolding end_of
end_is [] b l = absurd (l.nonzero refl)
end_is (x ∷ xs) zero l =
    let a : AllZero xs = record { zeros = λ k. l.after (suc k) (omega arith) } in
    ap (end_with x) (end_none xs a) ∙ rw (nonzero_is x l.nonzero)
end_is (x ∷ xs) (suc b) l =
    let m : Last xs b = record { nonzero = l.nonzero; after = λ k g. l.after (suc k) (omega arith) } in
    ap (end_with x) (end_is xs b m)

-- ---- what a scan from either end found
module _ (h : List ℤ) (r : Option ℕ) where
  abbrev pub FirstFound : Type 0
  FirstFound = MatchOption r ((k : ℕ) → k < length h → get_or h k (pos 0) ≡ pos 0) (λ i. (get_or h i (pos 0) ≢ pos 0) × ((k : ℕ) → k < i → get_or h k (pos 0) ≡ pos 0))

  abbrev pub LastFound : Type 0
  LastFound = MatchOption r ((k : ℕ) → k < length h → get_or h k (pos 0) ≡ pos 0) (λ i. (get_or h i (pos 0) ≢ pos 0) × ((k : ℕ) → i < k → k < length h → get_or h k (pos 0) ≡ pos 0))

-- past the end there is nothing but the default
within : (h : List ℤ) (k : ℕ) → (k < length h → get_or h k (pos 0) ≡ pos 0) → get_or h k (pos 0) ≡ pos 0
within h k z = ⊎_elim z (get_or-eq_default h (pos 0)) (lt_or_le k (length h))

pub start_found : (h : List ℤ) (r : Option ℕ) → FirstFound h r → unwrap_or r 0 ≡ start_of h
start_found h None w = sym (start_none h (record { zeros = λ k. within h k (w k) }))
start_found h (Some i) w = sym (start_is h i (record { nonzero = w.0; before = w.1 }))

pub end_found : (h : List ℤ) (r : Option ℕ) (end : ℕ) → LastFound h r → MatchOption r (end ≡ 0) (λ i. end ≡ i + 1) → end ≡ end_of h
end_found h None end w e = e ∙ sym (end_none h (record { zeros = λ k. within h k (w k) }))
end_found h (Some i) end w e = e ∙ sym (end_is h i (record { nonzero = w.0; after = λ k l. within h k (w.1 k l) }) ∙ sym (add-one i))
