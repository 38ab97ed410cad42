-- The rows of a bucket, from link to link, and a row that joins them. Assumes nothing.
use mathlib.Core.Path.{◌≡◌, sym, ap, ◌∙◌, subst}
use mathlib.Core.List.{List}
use mathlib.Core.Logic.{⊎_elim}
use Prim.Native.Nat.{ℕ, ◌+◌, ◌-◌, ◌*◌, ◌/◌, ◌^◌, ◌<◌, ◌≤◌}
use native.Mathlib.Nat.{eq-or-lt_of_le}
use native.Mathlib.Omega.{arith}
use lib.Bits.{bit_xor, and_le_r}
use lib.ListN.{length, get_or, set, length-set}
use lib.Seq.{get_or-set_same, get_or-set_other}
use Rattle.refusal.specs.Answer.{nowhere}
use Rattle.network.specs.Rows.{row_words, rows_of}
use Rattle.build_steps.specs.Search.{row_with}
use Rattle.build_index.specs.Inner.{value_at, bucket_of, Last, Indexed}
use Rattle.std.proofs.lemmas.Bool.{cases_eq}
use Rattle.build_index.proofs.Values.{row_missing}

pub bucket_below : (m v : ℕ) → 0 < m → bucket_of m v < m
unfolding bucket_of
bucket_below m v h = omega (arith, and_le_r (bit_xor (v * 0x9e3779b9) (v * 0x9e3779b9 / 2 ^ 32)) (m - 1))

-- while a bucket is walked: no row from p on has the value x, and p stands for a row of x's bucket
pub record Passed (t : List ℕ) (m n x p : ℕ) : Type 0 where
  pub low : p ≤ n
  pub none : (i : ℕ) → p ≤ i → i < n → value_at t i ≡ x → ⊥
  pub last : 0 < p → bucket_of m (value_at t (p - 1)) ≡ bucket_of m x

-- what is said of the rows below k holds of every table that has them
last_kept : {t : List ℕ} (t' : List ℕ) {m h p k : ℕ} → Last t m h p k → ((i : ℕ) → i < k → value_at t' i ≡ value_at t i) → Last t' m h p k
last_kept t' {m} {h} {p} {k} l same =
    record {
      low = l.low;
      none = λ i a b e. l.none i a b (ap (bucket_of m) (sym (same i b)) ∙ e);
      last = λ pos. ap (bucket_of m) (same (p - 1) (omega (arith, l.low))) ∙ l.last pos;
    }

-- row n of t' has the value x, and the rows before it are t's
module _ (t t' heads links : List ℕ) (n x : ℕ) (ix : Indexed t heads links n) (new : value_at t' n ≡ x)
    (same : (i : ℕ) → i < n → value_at t' i ≡ value_at t i) (few : n < 4096) (room : row_words * n + row_words ≤ length t') (linked : n < length links)
    (missing : row_with (rows_of t n) x ≡ nowhere) where
  heads' : List ℕ
  heads' = set heads (bucket_of (length heads) x) (n + 1)

  links' : List ℕ
  links' = set links n (get_or heads (bucket_of (length heads) x) 0)

  in_heads : bucket_of (length heads) x < length heads
  in_heads = bucket_below (length heads) x ix.buckets

  own_bucket : Last t' (length heads) (bucket_of (length heads) x) (n + 1) (n + 1)
  own_bucket =
      record {
        low = omega arith;
        none = λ i a b e. omega arith;
        last = λ pos. ap (bucket_of (length heads)) (ap (value_at t') (omega arith) ∙ new);
      }

  other_bucket : (k : ℕ) → k < length heads → (k ≡ bucket_of (length heads) x → ⊥) → Last t' (length heads) k (get_or heads k 0) (n + 1)
  other_bucket k l ne =
      let q : Last t' (length heads) k (get_or heads k 0) n = last_kept t' (ix.heads_in k l) same in
      record {
        low = omega (arith, q.low);
        none = λ i a b e.
            ⊎_elim (λ (eq : i ≡ n). ne (sym e ∙ ap (bucket_of (length heads)) (ap (value_at t') eq ∙ new))) (λ (lt : i < n). q.none i a lt e)
            (eq-or-lt_of_le (let z : i ≤ n = omega arith in z));
        last = q.last;
      }

  heads_next : (k : ℕ) → k < length heads → Last t' (length heads) k (get_or heads' k 0) (n + 1)
  unfolding heads'
  heads_next k l =
      ⊎_elim
      (λ e.
      subst (λ y. Last t' (length heads) y (get_or heads' y 0) (n + 1)) (sym e)
      (rw (get_or-set_same heads (bucket_of (length heads) x) (n + 1) 0 in_heads) own_bucket))
      (λ ne. rw (get_or-set_other heads (bucket_of (length heads) x) k (n + 1) 0 ne) (other_bucket k l ne))
      (cases_eq k (bucket_of (length heads) x))

  links_next : (i : ℕ) → i < n + 1 → Last t' (length heads) (bucket_of (length heads) (value_at t' i)) (get_or links' i 0) i
  unfolding links'
  links_next i k =
      ⊎_elim
      (λ (e : i ≡ n).
      subst (λ y. Last t' (length heads) (bucket_of (length heads) (value_at t' y)) (get_or links' y 0) y) (sym e)
      (rw (new, get_or-set_same links n (get_or heads (bucket_of (length heads) x) 0) 0 linked)
      (last_kept t' (ix.heads_in (bucket_of (length heads) x) in_heads) same)))
      (λ (lt : i < n).
      rw (same i lt, get_or-set_other links n i (get_or heads (bucket_of (length heads) x) 0) 0 (λ e. omega arith))
      (last_kept t' (ix.links_in i lt) (λ j b. same j (omega arith))))
      (eq-or-lt_of_le (let q : i ≤ n = omega arith in q))

  distinct_next : (i j : ℕ) → i < j → j < n + 1 → value_at t' i ≡ value_at t' j → ⊥
  distinct_next i j l k e =
      ⊎_elim
      (λ (q : j ≡ n). row_missing t n x missing i (omega arith) (sym (same i (omega arith)) ∙ e ∙ ap (value_at t') q ∙ new))
      (λ (lt : j < n). ix.distinct i j l lt (sym (same i (omega arith)) ∙ e ∙ same j lt))
      (eq-or-lt_of_le (let q : j ≤ n = omega arith in q))

  pub indexed_next : Indexed t' (set heads (bucket_of (length heads) x) (n + 1)) (set links n (get_or heads (bucket_of (length heads) x) 0)) (n + 1)
  unfolding heads' links'
  indexed_next =
      let e : length heads ≡ length (set heads (bucket_of (length heads) x) (n + 1)) = sym (simp length-set) in
      record {
        few = omega arith;
        room = omega arith;
        buckets = simp length-set ix.buckets;
        linked = simp length-set (omega arith);
        heads_in = subst (λ y. (k : ℕ) → k < y → Last t' y k (get_or heads' k 0) (n + 1)) e heads_next;
        links_in = subst (λ y. (i : ℕ) → i < n + 1 → Last t' y (bucket_of y (value_at t' i)) (get_or links' i 0) i) e links_next;
        distinct = distinct_next;
      }
