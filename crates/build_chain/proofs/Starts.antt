-- The highest nonzero digit of a form, a 1, is row 0. Assumes nothing.
use mathlib.Core.Path.{◌≡◌, refl, sym, ap, ◌∙◌}
use mathlib.Core.List.{List, ◌∷◌, reverse}
use Prim.Native.Nat.{ℕ, zero, suc, ◌-◌, ◌^◌, ◌≤◌, ◌<◌}
use native.Mathlib.Omega.{arith}
use lib.Bits.{bit_or}
use lib.ListN.{take}
use lib.Seq.{take_all}
use Rattle.signed_digit.specs.Digit.{Digit, one, nought, minus_one, nonzero}
use Rattle.signed_digit.specs.String.{DigitString, digit_at}
use Rattle.form_masks.specs.declared.Form.{Form}
use Rattle.form_masks.specs.Form.{string_of}
use Rattle.network.specs.declared.Row.{Row}
use Rattle.build_steps.specs.Chain.{chain_from, chain_down, chained, chain_value, chain_end}
use Rattle.build_chain.specs.Inner.{Readable, Started, below}
use Rattle.build_chain.proofs.HighDigits.{places, Next, next, end_none}
use Rattle.build_chain.proofs.Masks.{string_places, string_mask}

-- a digit from which a chain reaches a positive value
is_one : (d : Digit) (s : DigitString) → nonzero d ≡ 1 → 0 < chain_end (d ∷ s) → d ≡ one
unfolding chain_end
is_one one s c h = refl
is_one nought s c h = absurd (omega arith)
is_one minus_one s c h = absurd (omega arith)

module _ (form : Form) (rows : List Row) (r : Readable form rows) (p : form.plus < 2 ^ 32) (m : form.minus < 2 ^ 32) where
  abbrev s : DigitString
  s = string_of form

  mask_is : places s ≡ bit_or form.plus form.minus
  mask_is = string_mask form p m

  whole : take 32 s ≡ s
  whole = take_all 32 s (omega (arith, string_places form))

  pub some_digit : 0 < bit_or form.plus form.minus
  some_digit = go (bit_or form.plus form.minus) refl
    where
      go : (n : ℕ) → bit_or form.plus form.minus ≡ n → 0 < n
      go zero e = absurd (omega (arith, r.above, end_none s (mask_is ∙ e)))
      go (suc n) e = omega arith

  module _ (q : ℕ) (low : 2 ^ q ≤ bit_or form.plus form.minus) (high : bit_or form.plus form.minus < 2 ^ suc q) where
    mask_whole : places (take 32 s) ≡ bit_or form.plus form.minus
    mask_whole = ap places whole ∙ mask_is

    n : Next s 32 q
    n = next s 32 q (omega (arith, string_places form)) (omega (arith, low, mask_whole)) (omega (arith, high, mask_whole))

    ends : chain_end (reverse s) ≡ chain_end (digit_at s q ∷ below form q)
    ends = ap (λ (x : DigitString). chain_end (reverse x)) (sym whole) ∙ n.end

    top_is : digit_at s q ≡ one
    top_is = is_one (digit_at s q) (below form q) n.counts (omega (arith, r.above, ends))

    value_is : chain_end (reverse s) ≡ chain_value 1 1 (below form q)
    unfolding chain_end
    value_is = ends ∙ ap (λ (d : Digit). chain_end (d ∷ below form q)) top_is

    start_rows : chain_from rows 1 1 (below form q) ≡ chained rows (string_of form)
    unfolding chained chain_down
    start_rows =
        sym (ap (λ (x : DigitString). chain_down rows (reverse x)) (sym whole) ∙ n.down rows ∙ ap (λ (d : Digit). chain_down rows (d ∷ below form q)) top_is)

    pub started : Started form rows (record { form = form; row = 0; value = 1; place = q; rest = bit_or form.plus form.minus - 2 ^ q })
    started = record {
      reading = record {
        digits = record { place_to = n.before; rest = omega (arith, n.rest, mask_whole); above = omega arith; ends = omega (arith, value_is, r.below) };
        row = r.one;
      };
      same = start_rows;
    }
