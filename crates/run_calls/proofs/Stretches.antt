-- The registers in memory: the part that is lent, and memory after that part was written. Assumes nothing.
use mathlib.Core.Path.{◌≡◌, refl, sym, ap, ◌∙◌}
use mathlib.Core.Bool.{Bool, true, false, cond}
use mathlib.Core.List.{List, ◌++◌}
use Prim.Native.Nat.{ℕ, ◌+◌, ◌<◌, ◌≤◌}
use native.Mathlib.Nat.{zero-add}
use native.Mathlib.Omega.{arith}
use borrow.Author.Tests.{ltb-true}
use lib.Dec.{ltb}
use lib.ListN.{length, get_or, take, drop, length-append, length-take, length-drop, take-append-drop, get_or-append}
use lib.Seq.{get_or-take, take_at, drop_at, drop-drop, drop-append-le, length-take-le, take-append-le}
use Rattle.run_convolution.specs.Sums.{held}
use Rattle.run_calls.specs.Memory.{overwritten}

module _ (r beyond : List ℕ) (e : length r ≡ 256) where
  pub first_256 : take 256 (r ++ beyond) ≡ r
  first_256 = take_at r beyond 256 e

  pub past_256 : drop 256 (r ++ beyond) ≡ beyond
  past_256 = drop_at r beyond 256 e

  module _ (s n : ℕ) (l : s + n ≤ 256 + length beyond) where
    pub length_lent : length (take n (drop s (r ++ beyond))) ≡ n
    length_lent = simp (length-take, length-drop, length-append) (omega arith)

    -- a part that was not written leaves the memory as it was
    pub same_memory : overwritten s (take n (drop s (r ++ beyond))) (r ++ beyond) ≡ r ++ beyond
    same_memory =
        ap (λ k. take s (r ++ beyond) ++ (take n (drop s (r ++ beyond)) ++ drop (s + k) (r ++ beyond))) length_lent
        ∙ ap (λ t. take s (r ++ beyond) ++ (take n (drop s (r ++ beyond)) ++ t)) (sym (drop-drop n s (r ++ beyond)))
        ∙ ap (λ t. take s (r ++ beyond) ++ t) (take-append-drop n (drop s (r ++ beyond))) ∙ take-append-drop s (r ++ beyond)

  -- the part that is lent is a front
  module _ (s n : ℕ) (z : s ≡ 0) (l : n ≤ 256 + length beyond) where
    pub lent_front : take n (drop s (r ++ beyond)) ≡ take n (r ++ beyond)
    lent_front = ap (λ k. take n (drop k (r ++ beyond))) z

    pub front_over : (new : List ℕ) → overwritten s new (r ++ beyond) ≡ new ++ drop (length new) (r ++ beyond)
    front_over new = ap (λ k. overwritten k new (r ++ beyond)) z ∙ ap (λ k. new ++ drop k (r ++ beyond)) (zero-add (length new))

    length_front : length (take n (r ++ beyond)) ≡ n
    length_front = simp (length-take, length-append) (omega arith)

    -- lent registers of 256 or more hold what the registers hold
    lent_by : 256 ≤ n → (k : ℕ) (t : Bool) → ltb k 256 ≡ t → cond t (get_or (take n (r ++ beyond)) k 0) 0 ≡ cond t (get_or r k 0) 0
    lent_by m k true q =
        let u : k < 256 = ltb-true k 256 q in
        get_or-take n (r ++ beyond) k 0 (omega arith) ∙ get_or-append r beyond 0 k (omega arith)
    lent_by m k false q = refl

    pub held_lent : 256 ≤ n → (k : ℕ) → held (take n (drop s (r ++ beyond))) k ≡ held r k
    held_lent m k = ap (λ t. held t k) lent_front ∙ lent_by m k (ltb k 256) refl

    -- a front of the lent length that keeps what lies past the registers
    module _ (new : List ℕ) (m : 256 ≤ n) (q : length new ≡ n) (d : drop 256 new ≡ drop 256 (take n (drop s (r ++ beyond)))) where
      pub beyond_stays : drop 256 (overwritten s new (r ++ beyond)) ≡ beyond
      beyond_stays =
          ap (drop 256) (front_over new) ∙ ap (λ k. drop 256 (new ++ drop k (r ++ beyond))) q ∙ drop-append-le 256 new (drop n (r ++ beyond)) (omega arith)
          ∙ ap (λ t. t ++ drop n (r ++ beyond)) (d ∙ ap (drop 256) lent_front)
          ∙ sym (drop-append-le 256 (take n (r ++ beyond)) (drop n (r ++ beyond)) (omega (arith, length_front))) ∙ ap (drop 256) (take-append-drop n (r ++ beyond)) ∙ past_256

      pub registers_new : take 256 (overwritten s new (r ++ beyond)) ≡ take 256 new
      registers_new = ap (take 256) (front_over new) ∙ take-append-le 256 new (drop (length new) (r ++ beyond)) (omega arith)

-- the first 256 hold what a table holds
held_by : (table : List ℕ) (k : ℕ) (t : Bool) → ltb k 256 ≡ t → cond t (get_or (take 256 table) k 0) 0 ≡ cond t (get_or table k 0) 0
held_by table k true q = get_or-take 256 table k 0 (ltb-true k 256 q)
held_by table k false q = refl

pub held_first : (table : List ℕ) (k : ℕ) → held (take 256 table) k ≡ held table k
held_first table k = held_by table k (ltb k 256) refl

pub length_first : (table : List ℕ) → 256 ≤ length table → length (take 256 table) ≡ 256
length_first table l = length-take-le 256 table l
