-- The network that document 01's building steps give passes every check, and its coefficients are those that it was built for. Assumes nothing.
use mathlib.Core.Path.{◌≡◌, refl, sym, ap, ◌∙◌, subst}
use mathlib.Core.List.{List, [], ◌∷◌, map, Memᴰ}
use Prim.Native.Nat.{ℕ, suc, ◌≤◌, ◌<◌, suc-le-suc}
use native.Mathlib.Omega.{arith}
use borrow.Author.Tests.{not-false, ltb-true}
use lib.Dec.{ltb}
use lib.IntN.{ℤ, pos}
use lib.ListN.{length, get_or, get_or-map, length-map}
use Rattle.refusal.specs.Answer.{given}
use Rattle.signed_digit.specs.Forms.{listing}
use Rattle.coefficient.specs.Parts.{Parts, parts, parts_of}
use Rattle.network.specs.declared.Row.{Row}
use Rattle.network.specs.Rows.{tap_row_in, no_tap, first_row_of}
use Rattle.network.specs.Coefficients.{coefficient_of}
use Rattle.network.specs.TapRowRule.{TapRowRule}
use Rattle.network.specs.Check.{checked}
use Rattle.network.specs.Accepted.{KeepsRules}
use Rattle.network.proofs.Passed.{passed_checked}
use Rattle.build_steps.specs.Parts.{Part, parts_to_build}
use Rattle.build_steps.specs.Steps.{steps, built_rows}
use Rattle.build_steps.specs.TapRows.{tap_row_of, built}
use Rattle.build_steps.specs.Answer.{no_such_form}
use Rattle.build_steps.specs.RowSteps.{Lawful, row_0, HasRow, most_rows}
use Rattle.build_steps.specs.PartOrder.{HasOddPart, Earliest}
use Rattle.build_steps.specs.CanBuild.{Buildable, CanBuild}
use Rattle.build_steps.specs.Claims.{TapOf}
use Rattle.build_steps.proofs.Lawful.{lawful_some, lawful_rule}
use Rattle.build_steps.proofs.PartsInOrder.{parts_in_order}
use Rattle.build_steps.proofs.Steps.{steps_grow}
use Rattle.build_steps.proofs.Reduced.{parts_reduced}
use Rattle.build_steps.proofs.TapRow.{tap_row}

-- what holds of the rows that are built
pub record RowsBuilt (coefficients : List ℤ) (rows : List Row) : Type 0 where
  -- every row keeps the row rule, the values are distinct, and each later row is a first fit or a chain's
  pub lawful : Lawful rows
  -- every odd part has a row
  pub has : (i v : ℕ) → i < length coefficients → HasOddPart (get_or coefficients i (pos 0)) v → HasRow rows v
  pub few : length rows ≤ most_rows

module _ (cs : List ℤ) (ks : List ℕ) (c : CanBuild cs ks) where
  -- every part to be built is odd, below 2^31, and its choice is below the number of its forms
  pub part_buildable : (p : Part) → Memᴰ p (parts_to_build cs ks) → Buildable p
  unfolding no_such_form
  part_buildable p m =
      let e = (parts_in_order cs ks c.enough).earliest p m in
      let h = e.has in
      let r = parts_reduced (get_or cs e.tap (pos 0)) h.0 p.value h.1 (c.bounds e.tap e.within) h.2 in
      record { odd = r.odd; below = r.below; choice = form e }
    where
      form : Earliest cs ks p → p.choice < length (listing 32 (pos p.value))
      form e =
          ltb-true _ _
          (not-false (ltb p.choice (length (listing 32 (pos p.value))))
          (ap (λ (k : ℕ). no_such_form (parts e.has.0 p.value e.has.1) k) (sym e.choice)
          ∙ ap (λ (x : Parts). no_such_form x (get_or ks e.tap 0)) (sym e.has.2)
          ∙ c.forms e.tap e.within))

  pub rows_built : RowsBuilt cs (built_rows cs ks)
  unfolding built_rows
  rows_built =
      let o = parts_in_order cs ks c.enough in
      let g = steps_grow (first_row_of ∷ []) (parts_to_build cs ks) row_0 part_buildable in
      record {
        lawful = g.lawful;
        has = λ i v l h. (let p = o.every i v l h in subst (HasRow (steps (first_row_of ∷ []) (parts_to_build cs ks))) p.2 (g.has p.0 p.1));
        few = omega (arith, g.few, o.few, c.few);
      }

  tap_of_lem : (i : ℕ) → i < length cs → TapOf (built_rows cs ks) (get_or cs i (pos 0)) (tap_row_of (built_rows cs ks) (parts_of (get_or cs i (pos 0))))
  tap_of_lem i l = tap_row (built_rows cs ks) (get_or cs i (pos 0)) (c.bounds i l) (λ v h. rows_built.has i v l h)

-- ---- taps by their numbers
module _ (rows : List Row) where
  zero_tap : tap_row_of rows (parts_of (pos 0)) ≡ no_tap
  unfolding tap_row_of parts_of
  zero_tap = refl

  tap_at_lem : (cs : List ℤ) (j : ℕ) → tap_row_in (map (λ (n : ℤ). tap_row_of rows (parts_of n)) cs) j ≡ tap_row_of rows (parts_of (get_or cs j (pos 0)))
  tap_at_lem cs j = ap (get_or (map (λ (n : ℤ). tap_row_of rows (parts_of n)) cs) j) (sym zero_tap) ∙ get_or-map (λ (n : ℤ). tap_row_of rows (parts_of n)) cs j (pos 0)

  products : (cs : List ℤ) → ((i : ℕ) → i < length cs → coefficient_of rows (tap_row_of rows (parts_of (get_or cs i (pos 0)))) ≡ get_or cs i (pos 0))
      → cs ≡ map (coefficient_of rows) (map (λ (n : ℤ). tap_row_of rows (parts_of n)) cs)
  products [] h = refl
  products (n ∷ cs) h =
      let a = h 0 (omega arith) in
      let b = products cs (λ i l. h (suc i) (suc-le-suc l)) in
      ap (λ (l : List ℤ). n ∷ l) b ∙ ap (λ (m : ℤ). m ∷ map (coefficient_of rows) (map (λ (n : ℤ). tap_row_of rows (parts_of n)) cs)) (sym a)

-- ---- the theorems
module _ (cs : List ℤ) (ks : List ℕ) (c : CanBuild cs ks) where
  pub built_few : length (built cs ks).rows ≤ most_rows
  unfolding built
  built_few = (rows_built cs ks c).few

  pub built_passed : KeepsRules (built cs ks) cs
  unfolding built
  built_passed =
      let r = rows_built cs ks c in
      record {
        rows_from = lawful_some r.lawful;
        rows_to = omega (arith, r.few);
        rows = lawful_rule r.lawful;
        taps = λ j l. tap_rule j (omega (arith, length-map cs (λ (n : ℤ). tap_row_of (built_rows cs ks) (parts_of n))));
        result = products (built_rows cs ks) cs (λ i l. (tap_of_lem cs ks c i l).product);
      }
    where
      tap_rule : (j : ℕ) → j < length cs → TapRowRule (built_rows cs ks) (tap_row_in (map (λ (n : ℤ). tap_row_of (built_rows cs ks) (parts_of n)) cs) j)
      tap_rule j l = subst (TapRowRule (built_rows cs ks)) (sym (tap_at_lem (built_rows cs ks) cs j)) (tap_of_lem cs ks c j l).rule

  -- the built network passes, and its coefficients are the ones that were given
  pub built_passes : checked (built cs ks) ≡ given cs
  built_passes = passed_checked (built cs ks) cs built_passed
