-- The turns that no right row goes with. Assumes nothing.
use mathlib.Core.Path.{◌≡◌, refl, sym}
use mathlib.Core.List.{List}
use Prim.Native.Nat.{ℕ, suc, ◌+◌, ◌*◌, ◌<◌}
use native.Mathlib.Omega.{arith}
use Rattle.network.specs.Rows.{rows_of}
use Rattle.network.specs.RowRule.{lifted}
use Rattle.build_steps.specs.Search.{none_fits, or_else, fit_at_shift, fit_at_left}
use Rattle.build_index.specs.Inner.{value_at}
use Rattle.build_pair.proofs.FirstOver.{over_none}
use Rattle.build_pair.proofs.Tries.{plus_none, minus_none, reversed_none}
use Rattle.build_pair.proofs.Signs.{three_signs}
use Rattle.build_index.proofs.Values.{row_missing}
use Rattle.build_index.specs.declared.IndexedRows.{IndexedRows}
use Rattle.build_sieve.specs.declared.SieveTables.{SieveTables}
use Rattle.build_sieve.specs.Inner.{AreSieved}
use Rattle.build_left_rows.specs.Inner.{NoLeft, Sifting}
use Rattle.build_pair.specs.Inner.{Searchable}

-- what is known of a search is enough for the pass over the right rows
pub sifting : (r : IndexedRows) (w : SieveTables) (most v : ℕ) → Searchable r most v → AreSieved r w → Sifting r w v
sifting r w most v s h = record {
  index = s.index;
  sieve = h;
  odd = s.odd;
  bounded = λ i l. omega (arith, s.bounded i l, s.small);
  new_odd = s.new_odd;
  new_small = s.new_small;
  new = row_missing r.table.now r.count v s.new;
}

-- where no right row goes with a turn, nothing fits in it
module _ (t : List ℕ) (n m v : ℕ) (none : (k : ℕ) → k < n → NoLeft t m v (value_at t k)) where
  pub turn_none : (i s : ℕ) → i < n → s < 32 → 32 * i + s < m → fit_at_shift (rows_of t n) v i s ≡ none_fits
  unfolding or_else
  turn_none i s w b l =
      let a = lifted s (value_at t i) in
      three_signs (rows_of t n) v i s none_fits none_fits none_fits
      (plus_none t n v i s a w refl (λ k h e. (none k h).no_difference s i b l (omega (arith, e))))
      (minus_none t n v i s a w refl (λ k h e. (none k h).no_sum s i b l (sym e)))
      (reversed_none t n v i s a w refl (λ k h e. (none k h).no_difference s i b l (omega (arith, e))))

  pub left_turns_none : (i : ℕ) → i < n → 32 * i + 31 < m → fit_at_left (rows_of t n) v i ≡ none_fits
  unfolding fit_at_left
  left_turns_none i w l = over_none (λ (shift : ℕ). fit_at_shift (rows_of t n) v i shift) suc 31 (λ k b. turn_none i (suc k) w (omega arith) (omega arith))
