-- A table filled from the front, where the rest is what it should be already. Assumes nothing.
use mathlib.Core.Path.{◌≡◌, sym, ap, ap₂, ◌∙◌}
use mathlib.Core.List.{List, ◌++◌}
use Prim.Native.Nat.{ℕ, zero, suc, ◌+◌, ◌-◌, ◌<◌, ◌≤◌}
use native.Mathlib.Omega.{arith}
use lib.ListN.{length, get_or, take, drop, set, take-append-drop}
use lib.Seq.{set-get_or, ext_get_or, get_or-take, length-take-le}
use Rattle.sequence.specs.UpTo.{up_to}
use Rattle.sequence.specs.Inner.{front}
use Rattle.sequence.proofs.UpTo.{length_up_to, get_d_up_to}
use Rattle.sequence.proofs.Front.{front_read, front_next}
use Rattle.run_convolution.specs.Sums.{held}
use Rattle.run_convolution.proofs.Steps.{held_low}

front_same : (f : ℕ → ℕ) (r : List ℕ) (k : ℕ) → k < length r → f k ≡ get_or r k 0 → front f r k ≡ front f r (k + 1)
front_same f r k l e =
    let q : k + 0 ≡ k = omega arith in
    let v : get_or (front f r k) k 0 ≡ f k = ap (λ i. get_or (front f r k) i 0) (sym q) ∙ front_read f r k 0 0 ∙ ap (λ i. get_or r i 0) q ∙ sym e in
    sym (set-get_or (front f r k) k 0) ∙ ap (set (front f r k) k) v ∙ front_next f r k 0 l

front_more : (f : ℕ → ℕ) (r : List ℕ) (d n : ℕ) → n + d ≤ length r → ((k : ℕ) → n ≤ k → k < n + d → f k ≡ get_or r k 0) → front f r n ≡ front f r (n + d)
front_more f r zero n l e = let q : n ≡ n + 0 = omega arith in ap (front f r) q
front_more f r (suc d) n l e =
    let q : n + 1 + d ≡ n + suc d = omega arith in
    front_same f r n (omega arith) (e n (omega arith) (omega arith)) ∙ front_more f r d (n + 1) (omega arith) (λ k a b. e k (omega arith) (omega arith))
    ∙ ap (front f r) q

pub front_rest : (f : ℕ → ℕ) (r : List ℕ) (n m : ℕ) → n ≤ m → m ≤ length r → ((k : ℕ) → n ≤ k → k < m → f k ≡ get_or r k 0) → front f r n ≡ front f r m
front_rest f r n m l b e =
    let q : n + (m - n) ≡ m = omega arith in
    front_more f r (m - n) n (omega arith) (λ k a c. e k a (omega arith)) ∙ ap (front f r) q

-- all 256 registers filled
pub front_all : (r s : List ℕ) → 256 ≤ length r → length s ≡ length r → drop 256 s ≡ drop 256 r → front (held s) r 256 ≡ s
unfolding front
front_all r s l e d =
    ap₂ ◌++◌ (ext_get_or 0 (up_to 256 (held s)) (take 256 s) (length_up_to 256 (held s) ∙ sym (length-take-le 256 s (omega arith))) at) (sym d) ∙ take-append-drop 256 s
  where
    at : (k : ℕ) → k < length (up_to 256 (held s)) → get_or (up_to 256 (held s)) k 0 ≡ get_or (take 256 s) k 0
    at k m =
        let u : k < 256 = omega (arith, length_up_to 256 (held s)) in
        get_d_up_to 256 (held s) 0 k u ∙ held_low s k u ∙ sym (get_or-take 256 s k 0 u)
