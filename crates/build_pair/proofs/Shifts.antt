-- The search step by step: the shifts of a left row, the left rows. Assumes nothing.
use mathlib.Core.Path.{◌≡◌, refl, ap, ◌∙◌}
use mathlib.Core.List.{List}
use mathlib.Core.Logic.{⊎_elim}
use Prim.Native.Nat.{ℕ, suc, ◌+◌, ◌-◌, ◌*◌, ◌%◌, ◌^◌, ◌≤◌, ◌<◌}
use native.Mathlib.Nat.{eq-or-lt_of_le, mul_assoc, mul_comm, pow-succ', le-mul_of_pos_right, mul-le-mul_right}
use native.Mathlib.Numerals.{add-one}
use native.Mathlib.Omega.{arith}
use lib.ListN.{length}
use lib.Pow.{pow_mono, shl_exact}
use Rattle.network.specs.declared.Row.{Row}
use Rattle.network.specs.Rows.{rows_of}
use Rattle.network.specs.RowRule.{lifted}
use Rattle.build_steps.specs.Search.{fit, none_fits, or_else, first_fit_of, fit_at_shift, fit_at_left}
use Rattle.build_index.specs.declared.IndexedRows.{IndexedRows}
use Rattle.build_index.specs.Inner.{value_at}
use Rattle.std.proofs.lemmas.Bool.{cases_lt}
use Rattle.build_index.proofs.Values.{length_rows}
use Rattle.build_pair.specs.Inner.{Searchable}
use Rattle.build_pair.proofs.FirstOver.{over_none, over_first}
use Rattle.build_pair.proofs.Tries.{plus_none, minus_none, reversed_none}
use Rattle.build_pair.proofs.Signs.{three_signs, positive}

-- ---- 2^s·left

lifted_next : (s l : ℕ) → lifted (suc s) l ≡ 2 * lifted s l
lifted_next s l = rw (pow-succ' 2 s) (mul_assoc 2 (2 ^ s) l)

-- one more shift
lifted_more : (s l a : ℕ) → a ≡ lifted s l → a * 2 ≡ lifted (s + 1) l
lifted_more s l a e = ap (λ (x : ℕ). x * 2) e ∙ omega (arith, lifted_next s l, ap (λ (k : ℕ). lifted k l) (add-one s))

lifted_up : (s k l : ℕ) → s ≤ k → lifted s l ≤ lifted k l
lifted_up s k l h = mul-le-mul_right l (pow_mono h)

-- a word shifted by the machine, which loses nothing
pub lifted_at : (s x l : ℕ) → x < 2 ^ 32 → s ≤ 32 → x ≡ l → x * 2 ^ s % 2 ^ 64 ≡ lifted s l
lifted_at s x l h b e = shl_exact 32 s 64 h (omega arith) ∙ ap (λ (y : ℕ). y * 2 ^ s) e ∙ mul_comm l (2 ^ s)

-- the shifts of a left row below z have been tried, and a is 2^z·left
pub record Trying (t : List ℕ) (n v left z a : ℕ) : Type 0 where
  pub from : 1 ≤ z
  pub to : z ≤ 32
  pub is_lifted : a ≡ lifted z (value_at t left)
  pub tried_below : (k : ℕ) → suc k < z → fit_at_shift (rows_of t n) v left (suc k) ≡ none_fits

module _ (r : IndexedRows) (most v : ℕ) (s : Searchable r most v) where
  abbrev t : List ℕ
  t = r.table.now

  abbrev n : ℕ
  n = r.count

  -- ---- the limit

  -- past v + the largest value nothing fits
  pub shift_past : (left shift : ℕ) → left < n → v + most < lifted shift (value_at t left) → fit_at_shift (rows_of t n) v left shift ≡ none_fits
  unfolding or_else
  shift_past left shift w h =
      let a = lifted shift (value_at t left) in
      three_signs (rows_of t n) v left shift none_fits none_fits none_fits
      (plus_none t n v left shift a w refl (λ k l e. omega (arith, positive r most v s k l)))
      (minus_none t n v left shift a w refl (λ k l e. omega (arith, s.bounded k l)))
      (reversed_none t n v left shift a w refl (λ k l e. omega (arith, s.bounded k l)))

  -- ---- one left row, while its shifts are tried

  module _ (left : ℕ) (w : left < n) (z a : ℕ) (g : Trying t n v left z a) where
    -- below 2^32 there is a shift to try
    pub few_shifts : a < 2 ^ 32 → z < 32
    few_shifts h =
        ⊎_elim (λ b. b)
        (λ (b : 32 ≤ z).
        absurd (omega (arith, g.is_lifted, le-mul_of_pos_right (2 ^ z) (positive r most v s left w), pow_mono {i = 32} b)))
        (cases_lt z 32)

    pub try_next : a < 2 ^ 32 → fit_at_shift (rows_of t n) v left z ≡ none_fits → Trying t n v left (z + 1) (a * 2)
    try_next h e =
        record {
          from = omega arith;
          to = omega (arith, few_shifts h);
          is_lifted = lifted_more z (value_at t left) a g.is_lifted;
          tried_below = λ k l.
              ⊎_elim (λ (q : suc k ≡ z). ap (fit_at_shift (rows_of t n) v left) q ∙ e) (λ (b : suc k < z). g.tried_below k b)
              (eq-or-lt_of_le (let q : suc k ≤ z = omega arith in q));
        }

    pub left_none : v + most < a → fit_at_left (rows_of t n) v left ≡ none_fits
    unfolding fit_at_left
    left_none h =
        over_none (λ (shift : ℕ). fit_at_shift (rows_of t n) v left shift) suc 31
        (λ k l.
        ⊎_elim (λ (b : suc k < z). g.tried_below k b)
        (λ (past : z ≤ suc k). shift_past left (suc k) w (omega (arith, g.is_lifted, lifted_up z (suc k) (value_at t left) past)))
        (cases_lt (suc k) z))

    pub left_first : a < 2 ^ 32 → (f : Row) → fit_at_shift (rows_of r.table.now r.count) v left z ≡ fit f → fit_at_left (rows_of r.table.now r.count) v left ≡ fit f
    unfolding fit_at_left
    left_first h f e =
        let q : suc (z - 1) ≡ z = omega (arith, g.from) in
        over_first (λ (shift : ℕ). fit_at_shift (rows_of t n) v left shift) suc 31 (z - 1) f (omega (arith, few_shifts h, g.from))
        (λ k l. g.tried_below k (omega (arith, g.from)))
        (ap (fit_at_shift (rows_of t n) v left) q ∙ e)

-- ---- the left rows below i have been tried

module _ (t : List ℕ) (n v i : ℕ) (tried_below : (k : ℕ) → k < i → fit_at_left (rows_of t n) v k ≡ none_fits) where
  pub fit_none : n ≤ i → first_fit_of (rows_of t n) v ≡ none_fits
  unfolding first_fit_of fit_at_left fit_at_shift
  fit_none h =
      over_none (fit_at_left (rows_of t n) v) (λ (k : ℕ). k) (length (rows_of t n)) (λ k l. tried_below k (omega (arith, length_rows t n)))

  pub fit_first : (r : Row) → i < n → fit_at_left (rows_of t n) v i ≡ fit r → first_fit_of (rows_of t n) v ≡ fit r
  unfolding first_fit_of fit_at_left fit_at_shift
  fit_first r w e =
      over_first (fit_at_left (rows_of t n) v) (λ (k : ℕ). k) (length (rows_of t n)) i r (omega (arith, length_rows t n)) tried_below e
