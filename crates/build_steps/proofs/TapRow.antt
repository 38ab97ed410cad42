-- The tap row of a coefficient keeps the tap row rule, and its product is the coefficient, where the rows have one of its odd part's value.
-- Assumes nothing.
use mathlib.Core.Path.{◌≡◌, refl, sym, ap, ◌∙◌}
use Prim.Native.Nat.{ℕ, ◌*◌, ◌^◌}
use mathlib.Core.List.{List}
use native.Mathlib.Omega.{arith}
use lib.Dec.{T}
use lib.IntN.{ℤ, pos, neg_ℤ}
use Rattle.word.specs.Bounds.{Coefficient}
use Rattle.refusal.specs.Answer.{place_or}
use Rattle.signed_digit.specs.Reduction.{Sign, positive, negative}
use Rattle.coefficient.specs.Parts.{Parts, no_odd_part, parts, parts_of}
use Rattle.network.specs.declared.Row.{Row}
use Rattle.network.specs.declared.TapRow.{TapRow}
use Rattle.network.specs.Rows.{row_in, no_tap}
use Rattle.network.specs.RowRule.{lifted}
use Rattle.network.specs.Coefficients.{with_sign, coefficient_of}
use Rattle.network.specs.TapRowRule.{is_empty_lem, is_product_lem, is_tap_sign}
use Rattle.build_steps.specs.Search.{row_with}
use Rattle.build_steps.specs.TapRows.{sign_code, tap_row_of}
use Rattle.build_steps.specs.RowSteps.{HasRow}
use Rattle.build_steps.specs.PartOrder.{HasOddPart}
use Rattle.build_steps.specs.Claims.{TapOf}
use Rattle.build_steps.proofs.Lookup.{row_within, row_value}
use Rattle.coefficient.proofs.PartsOf.{zero_parts}
use Rattle.build_steps.proofs.Reduced.{Reduced, parts_reduced, positive_product, negative_product}

module _ (rows : List Row) (n : ℤ) (c : Coefficient n) where
  no_tap_lem : parts_of n ≡ no_odd_part → TapOf rows n no_tap
  unfolding coefficient_of
  no_tap_lem e = record { rule = is_empty_lem (record { sign = refl; row = refl; shift = refl }); product = sym (zero_parts n e) }

  module _ (s : Sign) (v t : ℕ) (e : parts_of n ≡ parts s v t) (h : HasRow rows v) where
    abbrev tap : TapRow
    tap = tap_row_of rows (parts s v t)

    lifted_is : lifted t (row_in rows (place_or 0 (row_with rows v))).value ≡ 2 ^ t * v
    lifted_is = ap (λ (i : ℕ). lifted t (row_in rows i).value) (ap (place_or 0) h.1) ∙ ap (lifted t) (row_value rows v h.0 h.1)

    coefficient_is : coefficient_of rows tap ≡ n
    unfolding tap_row_of coefficient_of
    coefficient_is = by_sign s (parts_reduced n s v t c e)
      where
        by_sign : (g : Sign) → Reduced n g v t → with_sign (sign_code g) (pos (lifted t (row_in rows (place_or 0 (row_with rows v))).value)) ≡ n
        by_sign positive r = ap pos lifted_is ∙ sym (positive_product v t) ∙ r.product
        by_sign negative r = ap (λ (m : ℕ). neg_ℤ (pos m)) lifted_is ∙ sym (negative_product v t) ∙ r.product

    tap_of_lem : TapOf rows n tap
    unfolding tap_row_of
    tap_of_lem = record {
      rule = is_product_lem (record {
        sign = sign_is s;
        row = omega (arith, ap (place_or 0) h.1, row_within rows v h.0 h.1);
        shift = (parts_reduced n s v t c e).shift_to;
        bounds = rw coefficient_is c;
      });
      product = coefficient_is;
    }
      where
        sign_is : (g : Sign) → T (is_tap_sign (sign_code g))
        sign_is positive = tt
        sign_is negative = tt

  pub tap_row : ((v : ℕ) → HasOddPart n v → HasRow rows v) → TapOf rows n (tap_row_of rows (parts_of n))
  unfolding tap_row_of
  tap_row h = go (parts_of n) refl
    where
      go : (x : Parts) → parts_of n ≡ x → TapOf rows n (tap_row_of rows x)
      go no_odd_part e = no_tap_lem e
      go (parts s v t) e = tap_of_lem s v t e (h v (s, t, e))
