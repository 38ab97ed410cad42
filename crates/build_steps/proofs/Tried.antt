-- One left row, shift and sign of the search in step 2: what is found there, and what it means that nothing is. Assumes nothing.
use mathlib.Core.Path.{◌≡◌, refl, sym, ap, ◌∙◌}
use mathlib.Core.Bool.{Bool, true, false, cond}
use mathlib.Core.List.{List}
use Prim.Native.Nat.{ℕ, ◌^◌, ◌≤◌, ◌<◌}
use native.Mathlib.Omega.{arith}
use borrow.Author.Tests.{leb-true, le-leb}
use lib.Dec.{leb}
use lib.ListN.{length}
use Rattle.refusal.specs.Answer.{Place, nowhere, at_place, lowest}
use Rattle.refusal.proofs.Checks.{lowest_none_at}
use Rattle.refusal.proofs.Lowest.{lowest_is}
use Rattle.network.specs.declared.Row.{Row}
use Rattle.network.specs.Rows.{row_in, no_row}
use Rattle.network.specs.RowRule.{is_worked_of, lifted}
use Rattle.build_steps.specs.Search.{fit, none_fits, row_over, tried}
use Rattle.build_steps.proofs.FirstOver.{not_both}

module _ (rows : List Row) (v left shift sign : ℕ) where
  -- 2^s·left
  abbrev pub above : ℕ
  above = lifted shift (row_in rows left).value

  abbrev pub makes : Row → Bool
  makes r = is_worked_of sign (lifted shift (row_in rows left).value) r.value v

  -- nothing found: no right row makes the value
  no_right : (p : Place) → lowest makes rows ≡ p → row_over v left shift sign p ≡ none_fits → (j : ℕ) → j < length rows → makes (row_in rows j) ≡ false
  unfolding row_over
  no_right nowhere l e j h = lowest_none_at no_row makes 0 rows j l h
  no_right (at_place i) l e j h = absurd (not_both (sym e))

  pub tried_none : tried rows v left shift sign ≡ none_fits → above ≤ 2 ^ 32 → (j : ℕ) → j < length rows → makes (row_in rows j) ≡ false
  unfolding tried
  tried_none e b = no_right (lowest makes rows) refl (sym (ap (λ (t : Bool). cond t (row_over v left shift sign (lowest makes rows)) none_fits) (le-leb above (2 ^ 32) b)) ∙ e)

  -- something found
  pub record Tried (r : Row) : Type 0 where
    pub left_is : r.left ≡ left
    pub shift_is : r.shift ≡ shift
    pub sign_is : r.sign ≡ sign
    pub value_is : r.value ≡ v
    pub right_in : r.right < length rows
    pub works : makes (row_in rows r.right) ≡ true
    pub bounded : above ≤ 2 ^ 32

  over_right : (p : Place) (r : Row) → lowest makes rows ≡ p → row_over v left shift sign p ≡ fit r → above ≤ 2 ^ 32 → Tried r
  unfolding row_over
  over_right nowhere r l e b = absurd (not_both e)
  over_right (at_place j) r l e b =
      let w = lowest_is no_row makes rows j l in
      let q : j ≡ r.right = cc in
      record {
        left_is = cc;
        shift_is = cc;
        sign_is = cc;
        value_is = cc;
        right_in = omega (arith, w.within);
        works = ap (λ (k : ℕ). makes (row_in rows k)) (sym q) ∙ w.holds;
        bounded = b;
      }

  pub tried_fit : (r : Row) → tried rows v left shift sign ≡ fit r → Tried r
  unfolding tried
  tried_fit r e = go (leb above (2 ^ 32)) refl e
    where
      go : (b : Bool) → leb above (2 ^ 32) ≡ b → cond b (row_over v left shift sign (lowest makes rows)) none_fits ≡ fit r → Tried r
      go true t e = over_right (lowest makes rows) r refl e (leb-true above (2 ^ 32) t)
      go false t e = absurd (not_both e)
