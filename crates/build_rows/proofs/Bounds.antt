-- No row that an odd part brings has a larger value than the part. Assumes nothing.
use mathlib.Core.Path.{◌≡◌, refl, ap}
use mathlib.Core.List.{List, [], ◌∷◌, ◌++◌, reverse}
use mathlib.Core.Logic.{⊎_elim}
use Prim.Native.Nat.{ℕ, suc, ◌+◌, ◌*◌, ◌-◌, ◌^◌, ◌≤◌, ◌<◌}
use native.Mathlib.Omega.{arith}
use lib.ListN.{length, length-append}
use Rattle.std.proofs.lemmas.Bool.{cases_lt}
use Rattle.refusal.specs.Answer.{Place, nowhere, at_place}
use Rattle.signed_digit.specs.Digit.{one, nought, minus_one}
use Rattle.signed_digit.specs.String.{DigitString}
use Rattle.network.specs.declared.Row.{Row}
use Rattle.network.specs.Rows.{plus, minus, row_in}
use Rattle.build_steps.specs.Parts.{Part}
use Rattle.build_steps.specs.Search.{row_with, Fit, fit, none_fits, first_fit_of}
use Rattle.build_steps.specs.Chain.{chosen_form_of, add_unless, chain_step, chain_from, chain_down, chained, chain_value, chain_end}
use Rattle.build_steps.specs.Steps.{searched, looked_up, step}
use Rattle.build_steps.specs.CanBuild.{Buildable}
use Rattle.build_steps.proofs.ChainValue.{doubled, no_less, never_falls}
use Rattle.build_steps.proofs.ChosenForm.{chosen_form_lem}
use Rattle.build_steps.proofs.FirstFit.{fit_is_first}
use Rattle.build_steps.proofs.Lawful.{row_at_end, row_before}

-- no row has a larger value
abbrev pub Below : ℕ → List Row → Type 0
Below b rows = (i : ℕ) → i < length rows → (row_in rows i).value ≤ b

module _ (b : ℕ) where
  more_below : (rows : List Row) (r : Row) → Below b rows → r.value ≤ b → Below b (rows ++ (r ∷ []))
  more_below rows r h l i m =
      ⊎_elim
      (λ (p : i < length rows). omega (arith, h i p, ap (λ (x : Row). x.value) (row_before rows (r ∷ []) i p)))
      (λ (p : length rows ≤ i).
      let e : i ≡ length rows = omega (arith, length-append rows (r ∷ [])) in
      omega (arith, l, ap (λ (k : ℕ). (row_in (rows ++ (r ∷ [])) k).value) e, ap (λ (x : Row). x.value) (row_at_end rows r)))
      (cases_lt i (length rows))

  unless_below : (p : Place) (rows : List Row) (r : Row) → Below b rows → r.value ≤ b → Below b (add_unless p rows r)
  unfolding add_unless
  unless_below (at_place i) rows r h l = h
  unless_below nowhere rows r h l = more_below rows r h l

  step_below : (rows : List Row) (v gap sign next : ℕ) → Below b rows → next ≤ b → Below b (chain_step rows v gap sign next)
  unfolding chain_step
  step_below rows v gap sign next h l = unless_below (row_with rows next) rows _ h l

  chain_below : (rows : List Row) (v g : ℕ) (s : DigitString) → Below b rows → 1 ≤ v → chain_value v (suc g) s ≤ b → Below b (chain_from rows v (suc g) s)
  unfolding chain_from chain_value
  chain_below rows v g [] h p l = h
  chain_below rows v g (nought ∷ s) h p l = chain_below rows v (suc g) s h p l
  chain_below rows v g (one ∷ s) h p l =
      let n : ℕ = 2 ^ suc g * v + 1 in
      chain_below (chain_step rows v (suc g) plus n) n 0 s (step_below rows v (suc g) plus n h (omega (arith, l, never_falls n 0 s (omega arith)))) (omega arith) l
  chain_below rows v g (minus_one ∷ s) h p l =
      let n : ℕ = 2 ^ suc g * v - 1 in
      let q : 1 ≤ n = omega (arith, doubled g v, no_less g v) in
      chain_below (chain_step rows v (suc g) minus n) n 0 s (step_below rows v (suc g) minus n h (omega (arith, l, never_falls n 0 s q))) q l

  down_below : (rows : List Row) (s : DigitString) → Below b rows → chain_end s ≤ b → Below b (chain_down rows s)
  unfolding chain_down chain_end
  down_below rows [] h l = h
  down_below rows (nought ∷ s) h l = down_below rows s h l
  down_below rows (one ∷ s) h l = chain_below rows 1 0 s h (omega arith) l
  down_below rows (minus_one ∷ s) h l = h

  module _ (rows : List Row) (p : Part) (q : Buildable p) (h : Below b rows) (l : p.value ≤ b) where
    chained_below : Below b (chained rows (chosen_form_of p.value p.choice))
    unfolding chained
    chained_below =
        let c = chosen_form_lem p.value p.choice q.below q.choice in
        down_below rows (reverse (chosen_form_of p.value p.choice)) h (omega (arith, c.ends q.odd, l))

    searched_below : (f : Fit) → first_fit_of rows p.value ≡ f → Below b (searched f rows p)
    unfolding searched
    searched_below (fit r) e = more_below rows r h (omega (arith, l, (fit_is_first rows p.value q.odd q.below r e).value))
    searched_below none_fits e = chained_below

    looked_up_below : (w : Place) → Below b (looked_up w rows p)
    unfolding looked_up
    looked_up_below (at_place i) = h
    looked_up_below nowhere = searched_below (first_fit_of rows p.value) refl

    pub part_below : Below b (step rows p)
    unfolding step
    part_below = looked_up_below (row_with rows p.value)
