-- What building answers and leaves, check by check. Assumes nothing.
use mathlib.Core.Path.{◌≡◌, sym, ap, ◌∙◌}
use mathlib.Core.List.{List}
use Prim.Native.Nat.{ℕ}
use lib.IntN.{ℤ}
use Rattle.refusal.specs.Answer.{Answer, given, filled}
use Rattle.network.specs.Rows.{Network, words_of_rows, words_of_tap_rows}
use Rattle.build_steps.specs.TapRows.{built}
use Rattle.build_steps.specs.Answer.{build_answer, row_count_of}
use Rattle.build_steps.specs.Built.{BuiltInto}
use Rattle.build_tables.specs.Inner.{Written}

-- ---- the entry's contract, from what building answers

module _ (cs : List ℤ) (ks rows taps : List ℕ) where
  pub network_left : (rows' taps' : List ℕ) (n : ℕ) → build_answer cs ks rows taps ≡ given (built cs ks) → Written cs ks rows taps rows' taps' n
      → BuiltInto cs ks rows taps (given n) rows' taps'
  unfolding built
  network_left rows' taps' n e w = record {
    answer = ap given w.count ∙ sym (ap row_count_of e);
    rows_left = w.rows_are ∙ sym (ap (λ (b : Answer Network). filled b (words_of_rows (built cs ks).rows) rows) e);
    taps_left = w.taps_are ∙ sym (ap (λ (b : Answer Network). filled b (words_of_tap_rows (built cs ks).taps) taps) e);
  }
