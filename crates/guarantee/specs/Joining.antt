-- The products of the taps joined into one output, and the additions that this takes: what `joining_adders_of` counts. Document 02, request 2, and the output
-- sum of document 01. Definitions only; proofs/Joining.antt proves `JoiningClaims`.
use Rattle.std.specs.Prelude.{◌≡◌, Bool, cond, List, ℕ, zero, suc, ◌+◌, ℤ, pos, neg_ℤ, ◌+ℤ◌, ◌*ℤ◌, length, get_or}
use Rattle.word.specs.Zero.{is_zero}
use Rattle.run_convolution.specs.Sums.{before, output_sum}
use Rattle.network.specs.Rows.{Network, tap_row_in}
use Rattle.network.specs.TapRowRule.{is_empty}
use Rattle.network.specs.Adders.{row_adders, joining_adders_of, adders}
use Rattle.network.specs.Accepted.{KeepsRules}
use Rattle.network.specs.Evaluation.{tap_results}
use Rattle.network.specs.Figures.{sheet_coefficients}
use Rattle.guarantee.specs.Sheet.{sheet_samples}

-- what is joined so far: nothing, or a sum and the additions that were made for it
pub data Joined : Type 0 where
  nothing : Joined
  sum_of : ℤ → ℕ → Joined

-- what comes out: 0 where nothing is joined
abbrev pub joined_value : Joined → ℤ
joined_value nothing = pos 0
joined_value (sum_of z n) = z

abbrev pub additions : Joined → ℕ
additions nothing = 0
additions (sum_of z n) = n

-- one product more: the first is taken as it is, each further one is added
abbrev pub join : Joined → ℤ → Joined
join nothing product = sum_of product 0
join (sum_of z n) product = sum_of (z +ℤ product) (n + 1)

-- the products of the first n taps, in order, without those of the taps that are skipped
unfoldable pub joined_below : ℕ → (ℕ → Bool) → (ℕ → ℤ) → Joined
joined_below zero skipped product = nothing
joined_below (suc n) skipped product = cond (skipped n) (joined_below n skipped product) (join (joined_below n skipped product) (product n))

-- "h(k) times the sample k earlier", joined; zero taps are skipped
abbrev pub joined_products : List ℤ → List ℤ → Joined
joined_products h xs = joined_below (length h) (λ (k : ℕ). is_zero (get_or h k (pos 0))) (λ (k : ℕ). get_or h k (pos 0) *ℤ before xs k)

-- what tap row k gives for the sample k earlier, joined; empty tap rows are skipped
abbrev pub joined_results : Network → List ℤ → Joined
joined_results net xs =
    joined_below (length net.taps) (λ (k : ℕ). is_empty (tap_row_in net.taps k)) (λ (k : ℕ). get_or (tap_results net (before xs k)) k (pos 0))

pub record JoiningClaims : Type 0 where
  -- what comes out is "the sum, over k from 0 to the last tap, of h(k) times the sample k earlier"
  pub output : (h xs : List ℤ) → joined_value (joined_products h xs) ≡ output_sum h xs
  -- and takes "nonzero taps less one (plus 0 when there are none)"
  pub counted : (h xs : List ℤ) → additions (joined_products h xs) ≡ joining_adders_of h
  -- a network that passes gives the same by its tap rows
  pub by_tap_rows : (net : Network) (h : List ℤ) → KeepsRules net h → (xs : List ℤ) → joined_results net xs ≡ joined_products h xs
  -- so the adders of the filter are those of its rows and the additions made for its output
  pub whole_filter : (net : Network) (h : List ℤ) → KeepsRules net h → (xs : List ℤ) → adders net ≡ row_adders net + additions (joined_results net xs)
  -- the sheet's filter after its samples: 3·(-32768) - 6·2 + 45·1 by two additions
  pub sheet_joined : joined_products sheet_coefficients sheet_samples ≡ sum_of (neg_ℤ (pos 98271)) 2
