-- Running samples comes to the sums of whole numbers: modulo 2^64 from any content of the registers, exactly from cleared registers. Assumes nothing.
use mathlib.Core.Path.{◌≡◌, refl, sym, ap, ap₂, ◌∙◌}
use mathlib.Core.List.{List, [], ◌∷◌, ◌++◌, reverse, append_assoc, append-nil}
use Prim.Native.Nat.{ℕ, zero, suc, ◌+◌, ◌<◌, ◌≤◌}
use native.Mathlib.Omega.{arith}
use lib.IntN.{ℤ, pos, ◌+ℤ◌, ◌*ℤ◌, +ℤ_assoc, +ℤ_idl, +ℤ_idr}
use lib.ListN.{length, get_or, take, length-append}
use mir.Syntax.{w16, w32, w64}
use mir.Val.{SFits, to_z}
use Rattle.run_convolution.specs.Words.{wrapped}
use Rattle.run_convolution.specs.Running.{sum_at, next, registers_of, outputs_of}
use Rattle.run_convolution.specs.Bounds.{Within, Words}
use Rattle.run_convolution.specs.Sums.{output_sum, register_sum, output_sums, held}
use Rattle.run_convolution.proofs.Words.{wrapped_next, wrapped_word, wrapped_exact}
use Rattle.run_convolution.proofs.Terms.{sum_from, output_from, register_from, from_next, from_none, from_fits, reverse_snoc}
use Rattle.run_convolution.proofs.Steps.{held_low, sum_step, step_at, held_next}

-- ---- from any content

-- what place k comes to after the samples xs from registers that held r₀: the old content that has moved there, and the sum
abbrev pub whole_at : List ℤ → List ℕ → List ℤ → ℕ → ℕ → ℤ
whole_at h r₀ xs j k = pos (held r₀ j) +ℤ sum_from h xs k

-- the registers r are, modulo 2^64, what r₀ held n samples earlier and the sums over those samples
abbrev pub Holds : List ℤ → List ℕ → List ℤ → List ℕ → Type 0
Holds h r₀ xs r = (k : ℕ) → held r k ≡ wrapped (whole_at h r₀ xs (length xs + k) (suc k))

length_snoc : (xs : List ℤ) (x : ℤ) → length (xs ++ (x ∷ [])) ≡ suc (length xs)
length_snoc xs x = let e : length xs + 1 ≡ suc (length xs) = omega arith in length-append xs (x ∷ []) ∙ e

module _ (h : List ℤ) (few : length h ≤ 256) (r₀ : List ℕ) where
  -- a sum goes on from the registers
  place_is : (xs : List ℤ) (r : List ℕ) (x : ℤ) (j k : ℕ) → held r k ≡ wrapped (whole_at h r₀ xs j (suc k))
      → step_at h x r k ≡ wrapped (whole_at h r₀ (xs ++ (x ∷ [])) j k)
  place_is xs r x j k e =
      let c = get_or h k (pos 0) *ℤ x in
      ap (λ n. wrapped (pos n +ℤ c)) e ∙ wrapped_next (whole_at h r₀ xs j (suc k)) c
      ∙ ap wrapped (+ℤ_assoc (pos (held r₀ j)) (sum_from h xs (suc k)) c ∙ ap (λ s. pos (held r₀ j) +ℤ s) (sym (from_next h xs x k)))

  pub holds_next : (xs : List ℤ) (r : List ℕ) (x : ℤ) → Holds h r₀ xs r → Holds h r₀ (xs ++ (x ∷ [])) (next h x r)
  holds_next xs r x i k =
      let q : length xs + suc k ≡ suc (length xs) + k = omega arith in
      held_next h few x r k ∙ place_is xs r x (length xs + suc k) (suc k) (i (suc k))
      ∙ ap (λ j. wrapped (whole_at h r₀ (xs ++ (x ∷ [])) j (suc k))) (q ∙ ap (λ n. n + k) (sym (length_snoc xs x)))

  pub holds_after : (xs acc : List ℤ) (r : List ℕ) → Holds h r₀ acc r → Holds h r₀ (acc ++ xs) (registers_of h r xs)
  unfolding registers_of
  holds_after [] acc r i = rw (append-nil acc) i
  holds_after (x ∷ xs) acc r i = rw append_assoc at (holds_after xs (acc ++ (x ∷ [])) (next h x r) (holds_next acc r x i))

  pub output_is : (xs : List ℤ) (r : List ℕ) (x : ℤ) → Holds h r₀ xs r → sum_at h x r 0 ≡ wrapped (whole_at h r₀ (xs ++ (x ∷ [])) (length xs) 0)
  output_is xs r x i =
      let q : length xs + 0 ≡ length xs = omega arith in
      sum_step h x r 0 (omega arith) ∙ place_is xs r x (length xs + 0) 0 (i 0) ∙ ap (λ j. wrapped (whole_at h r₀ (xs ++ (x ∷ [])) j 0)) q

-- before the first sample
pub holds_start : (h : List ℤ) (r : List ℕ) → Words r → Holds h r [] r
holds_start h r w k =
    let q : 0 + k ≡ k = omega arith in
    sym (ap₂ (λ j s. wrapped (pos (held r j) +ℤ s)) q (from_none h (suc k)) ∙ ap wrapped (+ℤ_idr (pos (held r k))) ∙ wrapped_word (held r k) (w k))

-- every register after the samples xs is, modulo 2^64, what the registers held that has moved there and the sum
pub registers_any : (h : List ℤ) → length h ≤ 256 → (r : List ℕ) → Words r → (xs : List ℤ) (k : ℕ) → k < 256
    → get_or (registers_of h r xs) k 0 ≡ wrapped (pos (held r (length xs + k)) +ℤ register_sum h xs k)
registers_any h few r w xs k l =
    sym (held_low (registers_of h r xs) k l) ∙ holds_after h few r xs [] r (holds_start h r w) k
    ∙ ap (λ s. wrapped (pos (held r (length xs + k)) +ℤ s)) (sym (register_from h xs k))

outputs_from : (h : List ℤ) (few : length h ≤ 256) (r₀ : List ℕ) (xs acc : List ℤ) (r : List ℕ) → Holds h r₀ acc r → (i : ℕ) → i < length xs
    → get_or (outputs_of h r xs) i (pos 0) ≡ to_z w64 (wrapped (pos (held r₀ (length acc + i)) +ℤ output_sum h (acc ++ take (suc i) xs)))
unfolding outputs_of
outputs_from h few r₀ [] acc r e i l = absurd (omega arith)
outputs_from h few r₀ (x ∷ xs) acc r e zero l =
    let q : length acc ≡ length acc + 0 = omega arith in
    ap (to_z w64) (output_is h few r₀ acc r x e ∙ ap₂ (λ j s. wrapped (pos (held r₀ j) +ℤ s)) q (sym (output_from h (acc ++ (x ∷ [])))))
outputs_from h few r₀ (x ∷ xs) acc r e (suc i) l =
    let q : suc (length acc) + i ≡ length acc + suc i = omega arith in
    outputs_from h few r₀ xs (acc ++ (x ∷ [])) (next h x r) (holds_next h few r₀ acc r x e) i (omega arith)
    ∙ ap₂ (λ j ys. to_z w64 (wrapped (pos (held r₀ j) +ℤ output_sum h ys))) (ap (λ n. n + i) (length_snoc acc x) ∙ q) (append_assoc acc (x ∷ []) (take (suc i) xs))

-- every output is, modulo 2^64 and read as signed, what the registers held that has moved to register 0 and the sum over the samples up to its own
pub outputs_any : (h : List ℤ) → length h ≤ 256 → (r : List ℕ) → Words r → (xs : List ℤ) (i : ℕ) → i < length xs
    → get_or (outputs_of h r xs) i (pos 0) ≡ to_z w64 (wrapped (pos (held r i) +ℤ output_sum h (take (suc i) xs)))
outputs_any h few r w xs i l =
    let q : 0 + i ≡ i = omega arith in
    outputs_from h few r xs [] r (holds_start h r w) i l ∙ ap (λ j. to_z w64 (wrapped (pos (held r j) +ℤ output_sum h (take (suc i) xs)))) q

-- ---- from cleared registers

abbrev pub Cleared : List ℕ → Type 0
Cleared r = (k : ℕ) → held r k ≡ 0

within_snoc : (acc : List ℤ) (x : ℤ) → Within w16 (reverse acc) → SFits w16 x → Within w16 (reverse (acc ++ (x ∷ [])))
within_snoc acc x past f k = rw (reverse_snoc acc x) (at k)
  where
    at : (j : ℕ) → SFits w16 (get_or (x ∷ reverse acc) j (pos 0))
    at zero = f
    at (suc j) = past j

pub within_after : (xs acc : List ℤ) → Within w16 (reverse acc) → Within w16 xs → Within w16 (reverse (acc ++ xs))
within_after [] acc past f = rw (append-nil acc) past
within_after (x ∷ xs) acc past f =
    rw append_assoc at (within_after xs (acc ++ (x ∷ [])) (within_snoc acc x past (f 0)) (λ k. f (suc k)))

module _ (h : List ℤ) (few : length h ≤ 256) (sized : Within w32 h) (r₀ : List ℕ) (clear : Cleared r₀) where
  -- nothing wraps
  exact : (xs : List ℤ) (j k : ℕ) → Within w16 (reverse xs) → to_z w64 (wrapped (whole_at h r₀ xs j k)) ≡ sum_from h xs k
  exact xs j k past =
      ap (λ n. to_z w64 (wrapped (pos n +ℤ sum_from h xs k))) (clear j) ∙ ap (λ s. to_z w64 (wrapped s)) (+ℤ_idl (sum_from h xs k))
      ∙ wrapped_exact (sum_from h xs k) (from_fits h xs k few sized past)

  pub register_exact : (xs : List ℤ) (r : List ℕ) → Within w16 (reverse xs) → Holds h r₀ xs r → (k : ℕ) → k < 256
      → to_z w64 (get_or r k 0) ≡ register_sum h xs k
  register_exact xs r past i k l =
      ap (to_z w64) (sym (held_low r k l) ∙ i k) ∙ exact xs (length xs + k) (suc k) past ∙ sym (register_from h xs k)

  pub outputs_exact : (xs acc : List ℤ) (r : List ℕ) → Within w16 (reverse acc) → Within w16 xs → Holds h r₀ acc r → outputs_of h r xs ≡ output_sums h acc xs
  unfolding outputs_of output_sums
  outputs_exact [] acc r past f i = refl
  outputs_exact (x ∷ xs) acc r past f i =
      let past' = within_snoc acc x past (f 0) in
      let o : to_z w64 (sum_at h x r 0) ≡ output_sum h (acc ++ (x ∷ [])) =
      ap (to_z w64) (output_is h few r₀ acc r x i) ∙ exact (acc ++ (x ∷ [])) (length acc) 0 past' ∙ sym (output_from h (acc ++ (x ∷ []))) in
      ap₂ ◌∷◌ o (outputs_exact xs (acc ++ (x ∷ [])) (next h x r) past' (λ k. f (suc k)) (holds_next h few r₀ acc r x i))
