-- Runs of stores, one after the other, and what is written after what. Assumes nothing.
use mathlib.Core.Path.{◌≡◌, refl, sym, ap, subst, ◌∙◌}
use mathlib.Core.List.{List, [], ◌∷◌, ◌++◌}
use Prim.Native.Nat.{ℕ, suc, ◌+◌, ◌≤◌, ◌<◌}
use native.Mathlib.Numerals.{add-one}
use native.Mathlib.Omega.{arith}
use lib.ListN.{length, take, get_or, set, length-append}
use lib.Seq.{sets, take-suc, length-take-le, length-sets}
use Rattle.text.specs.declared.Writer.{Writer}
use Rattle.text.specs.Inner.{Wrote, WroteAll, Stored}

-- a run after a run is the run of both
pub sets_append : (a b l : List ℕ) (i : ℕ) → sets (sets l i a) (i + length a) b ≡ sets l i (a ++ b)
sets_append [] b l i = let e : i + 0 ≡ i = omega arith in rw e
sets_append (v ∷ a) b l i =
    let e : i + suc (length a) ≡ suc i + length a = omega arith in
    rw e (sets_append a b (set l i v) (suc i))

-- one more byte of a text
pub sets_next : (t l : List ℕ) (at i : ℕ) → i < length t → set (sets l at (take i t)) (at + i) (get_or t i 0) ≡ sets l at (take (i + 1) t)
sets_next t l at i h =
    let e : length (take i t) ≡ i = length-take-le i t (omega arith) in
    rw (add-one, take-suc t i 0 h)
    (ap (λ k. set (sets l at (take i t)) (at + k) (get_or t i 0)) (sym e) ∙ sets_append (take i t) (get_or t i 0 ∷ []) l at)

-- ---- what is stored in an area from an index on
module _ {l e : List ℕ} {at r : ℕ} {a : List ℕ} where
  pub stored_length : Stored l at a e r → length e ≡ length l
  stored_length p = ap length p.text ∙ length-sets l at a

  -- the same bytes, written otherwise
  pub stored_as : {b : List ℕ} → b ≡ a → Stored l at a e r → Stored l at b e r
  stored_as h p = subst (λ (t : List ℕ). Stored l at t e r) (sym h) p

-- bytes after bytes
pub stored_then : {l e f : List ℕ} {at r s : ℕ} {a b : List ℕ} → Stored l at a e r → Stored e r b f s → Stored l at (a ++ b) f s
stored_then {l} {e} {f} {at} {r} {s} {a} {b} p q =
    record {
      next = simp length-append (omega (arith, p.next, q.next));
      text = q.text ∙ ap (λ k. sets e k b) p.next ∙ ap (λ x. sets x (at + length a) b) p.text ∙ sets_append a b l at;
    }

-- ---- what a writer wrote
-- what is stored in its area, past what it had written
pub stored_by : {u v : Writer} {a : List ℕ} → v.area.ghost_name ≡ u.area.ghost_name → Stored u.area.now u.at a v.area.now v.at → WroteAll u a v
stored_by same p = record { same_area = same; same_length = stored_length p; next = p.next; text = p.text; within = omega (arith, p.next) }

module _ {u v : Writer} {m : ℕ} {a : List ℕ} where
  -- a wider bound
  pub widen : {n : ℕ} → m ≤ n → Wrote u a m v → Wrote u a n v
  widen h p = record { same_area = p.same_area; same_length = p.same_length; next = p.next; text = p.text; within = omega (arith, p.within) }

  -- the same bytes, written otherwise
  pub put_as : {b : List ℕ} → b ≡ a → Wrote u a m v → Wrote u b m v
  put_as h p = subst (λ (t : List ℕ). Wrote u t m v) (sym h) p

  -- where there is room for just the bytes, whatever the bound was
  pub put_all : Wrote u a m v → WroteAll u a v
  put_all p = record { same_area = p.same_area; same_length = p.same_length; next = p.next; text = p.text; within = omega (arith, p.next) }

-- what is written after what
module _ {u v w : Writer} {a b : List ℕ} where
  pub then : {m n : ℕ} → Wrote u a m v → Wrote v b n w → Wrote u (a ++ b) (m + n) w
  then p q =
      record {
        same_area = q.same_area ∙ p.same_area;
        same_length = q.same_length ∙ p.same_length;
        next = simp length-append (omega (arith, p.next, q.next));
        text = q.text ∙ ap (λ k. sets v.area.now k b) p.next ∙ ap (λ x. sets x (u.at + length a) b) p.text ∙ sets_append a b u.area.now u.at;
        within = omega (arith, p.within, q.within);
      }

  pub then_all : WroteAll u a v → WroteAll v b w → WroteAll u (a ++ b) w
  then_all p q = put_all (then p q)

-- nothing
pub put_none : (u : Writer) → Wrote u [] 0 u
put_none u = record { same_area = refl; same_length = refl; next = omega arith; text = refl; within = omega arith }
