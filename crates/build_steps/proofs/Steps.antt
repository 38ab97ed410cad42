-- Steps 1 to 3 of building, part by part: the rows stay lawful, every part has a row afterwards, and a part brings at most 15 rows.
-- Assumes nothing.
use mathlib.Core.Path.{◌≡◌, refl, sym, ap, ◌∙◌, subst}
use mathlib.Core.List.Memᴰ
use mathlib.Core.List.{List, [], ◌∷◌, ◌++◌, Memᴰ, reverse}
use mathlib.Core.Logic.{◌⊎◌, inl, inr, ⊎_elim}
use Prim.Native.Nat.{ℕ, suc, ◌+◌, ◌*◌, ◌-◌, ◌≤◌, ◌<◌}
use native.Mathlib.Numerals.{add-one}
use native.Mathlib.Omega.{arith}
use lib.ListN.{length, get_or, drop, drop_of_length-le, length-append}
use lib.Seq.{drop-cons}
use Rattle.word.proofs.Order.{lt_or_le}
use Rattle.refusal.specs.Answer.{Place, nowhere, at_place}
use Rattle.network.specs.declared.Row.{Row}
use Rattle.signed_digit.specs.Digit.{one, nought, minus_one}
use Rattle.signed_digit.specs.String.{DigitString}
use Rattle.signed_digit.specs.Weight.{weight}
use Rattle.build_steps.specs.Parts.{Part, least_weight_of}
use Rattle.build_steps.specs.Search.{row_with, Fit, fit, none_fits, first_fit_of}
use Rattle.build_steps.specs.Chain.{chosen_form_of, chained, chain_value, chain_end}
use Rattle.build_steps.specs.Steps.{searched, looked_up, step, steps}
use Rattle.build_steps.specs.RowSteps.{Lawful, by_search, HasRow, Growth}
use Rattle.build_steps.specs.CanBuild.{Buildable}
use Rattle.build_steps.proofs.FirstFit.{fit_is_first}
use Rattle.build_steps.proofs.ChainValue.{weight_reverse}
use Rattle.build_steps.proofs.ChosenForm.{chosen_form_lem, least_weight_lem}
use Rattle.build_steps.proofs.PartDigits.{odd_least}
use Rattle.build_steps.proofs.Growth.{unchanged, one_row, still, grown_length}
use Rattle.build_steps.proofs.Chain.{one_has_row, down_grows}

-- ---- the three cases of a step
module _ (rows : List Row) (p : Part) where
  pub step_used : (i : ℕ) → row_with rows p.value ≡ at_place i → step rows p ≡ rows
  unfolding step looked_up
  step_used i e = ap (λ (q : Place). looked_up q rows p) e

  pub step_found : (r : Row) → row_with rows p.value ≡ nowhere → first_fit_of rows p.value ≡ fit r → step rows p ≡ rows ++ (r ∷ [])
  unfolding step looked_up searched
  step_found r e f = ap (λ (q : Place). looked_up q rows p) e ∙ ap (λ (x : Fit). searched x rows p) f

  pub step_chained : row_with rows p.value ≡ nowhere → first_fit_of rows p.value ≡ none_fits → step rows p ≡ chained rows (chosen_form_of p.value p.choice)
  unfolding step looked_up searched
  step_chained e f = ap (λ (q : Place). looked_up q rows p) e ∙ ap (λ (x : Fit). searched x rows p) f

-- ---- one part
module _ (rows : List Row) (p : Part) (w : Lawful rows) (b : Buildable p) where
  -- step 3
  pub chained_grows : Growth rows (chained rows (chosen_form_of p.value p.choice)) p.value 15
  unfolding chained
  chained_grows =
      let c = chosen_form_lem p.value p.choice b.below b.choice in
      let g = down_grows rows _ p.value w (c.ends b.odd) (omega (arith, b.odd)) b.below in
      record { lawful = g.lawful; has = g.has; more = g.more; is = g.is; few = omega (arith, g.few, c.light_down) }

  -- step 2, or step 3
  searched_grows : (f : Fit) → row_with rows p.value ≡ nowhere → first_fit_of rows p.value ≡ f → Growth rows (searched f rows p) p.value 15
  unfolding searched
  searched_grows (fit r) n e =
      let x = fit_is_first rows p.value b.odd b.below r e in
      one_row rows r p.value 15 (omega arith) w x.rule n x.value (by_search (ap (first_fit_of rows) x.value ∙ e))
  searched_grows none_fits n e = chained_grows

  looked_up_grows : (q : Place) → row_with rows p.value ≡ q → Growth rows (looked_up q rows p) p.value 15
  unfolding looked_up
  looked_up_grows (at_place i) e = unchanged rows p.value 15 w (i, e)
  looked_up_grows nowhere e = searched_grows (first_fit_of rows p.value) e refl

  -- all three
  pub step_grows : Growth rows (step rows p) p.value 15
  unfolding step
  step_grows = looked_up_grows (row_with rows p.value) refl

-- ---- some parts, one after the other
pub record AllGrown (rows grown : List Row) (ps : List Part) : Type 0 where
  pub lawful : Lawful grown
  pub has : (p : Part) → Memᴰ p ps → HasRow grown p.value
  pub keeps : (v : ℕ) → HasRow rows v → HasRow grown v
  pub few : length grown ≤ length rows + 15 * length ps

pub steps_grow : (rows : List Row) (ps : List Part) → Lawful rows → ((p : Part) → Memᴰ p ps → Buildable p) → AllGrown rows (steps rows ps) ps
unfolding steps
steps_grow rows [] w b = record { lawful = w; has = λ p m. absurd (Memᴰ.not-nil m); keeps = λ v h. h; few = omega arith }
steps_grow rows (p ∷ ps) w b =
    let g = step_grows rows p w (b p (Memᴰ.head refl)) in
    let r = steps_grow (step rows p) ps g.lawful (λ q m. b q (Memᴰ.tail m)) in
    record { lawful = r.lawful; has = λ q m. has g r q (Memᴰ.cases_cons m); keeps = λ v h. r.keeps v (still 15 v g h); few = omega (arith, r.few, grown_length 15 g) }
  where
    has : Growth rows (step rows p) p.value 15 → AllGrown (step rows p) (steps (step rows p) ps) ps → (q : Part) → (q ≡ p) ⊎ Memᴰ q ps → HasRow (steps (step rows p) ps) q.value
    has g r q (inl e) = r.keeps q.value (subst (λ (x : Part). HasRow (step rows p) x.value) (sym e) g.has)
    has g r q (inr m) = r.has q m

-- ---- how many rows: besides those that were there, one less than its weight for each odd part
-- without a nonzero digit the value stays
idle : (v gap : ℕ) (s : DigitString) → weight s ≡ 0 → chain_value v gap s ≡ v
unfolding chain_value
idle v gap [] h = refl
idle v gap (nought ∷ s) h = idle v (suc gap) s (omega arith)
idle v gap (one ∷ s) h = absurd (omega arith)
idle v gap (minus_one ∷ s) h = absurd (omega arith)

more_weight : (s : DigitString) → 2 ≤ chain_end s → 2 ≤ weight s
unfolding chain_end
more_weight [] h = absurd (omega arith)
more_weight (nought ∷ s) h = omega (arith, more_weight s h)
more_weight (one ∷ s) h = ⊎_elim (λ (z : weight s < 1). absurd (omega (arith, idle 1 1 s (omega arith), h))) (λ (z : 1 ≤ weight s). omega arith) (lt_or_le (weight s) 1)
more_weight (minus_one ∷ s) h = absurd (omega arith)

module _ (rows : List Row) (p : Part) (w : Lawful rows) (b : Buildable p) where
  abbrev down : DigitString
  down = reverse (chosen_form_of p.value p.choice)

  down_ends : chain_end down ≡ p.value
  down_ends = (chosen_form_lem p.value p.choice b.below b.choice).ends b.odd

  down_weighs : weight down ≡ least_weight_of p.value
  down_weighs =
      let c = chosen_form_lem p.value p.choice b.below b.choice in
      weight_reverse (chosen_form_of p.value p.choice) ∙ least_weight_lem p.value (omega (arith, b.below)) (chosen_form_of p.value p.choice) c.minimal

  -- 1 has row 0
  not_one : row_with rows p.value ≡ nowhere → 2 ≤ p.value
  not_one n =
      ⊎_elim
      (λ (l : p.value < 2).
      let e : p.value ≡ 1 = omega (arith, b.odd) in
      let z : at_place 0 ≡ nowhere = sym (one_has_row w) ∙ ap (row_with rows) (sym e) ∙ n in
      let q : ◌≡◌ {A = ℕ} 0 1 = cc in absurd (omega arith))
      (λ (l : 2 ≤ p.value). l) (lt_or_le p.value 2)

  searched_light : row_with rows p.value ≡ nowhere → (f : Fit) → length (searched f rows p) + 1 ≤ length rows + least_weight_of p.value
  unfolding searched chained
  searched_light n (fit r) = omega (arith, more_weight down (omega (arith, down_ends, not_one n)), down_weighs, length-append rows (r ∷ []))
  searched_light n none_fits =
      let g = down_grows rows down p.value w down_ends (omega (arith, b.odd)) b.below in
      omega (arith, grown_length (weight down - 1) g, down_weighs, odd_least p.value b.odd)

  looked_up_light : (q : Place) → row_with rows p.value ≡ q → length (looked_up q rows p) + 1 ≤ length rows + least_weight_of p.value
  unfolding looked_up
  looked_up_light (at_place i) e = omega (arith, odd_least p.value b.odd)
  looked_up_light nowhere e = searched_light e (first_fit_of rows p.value)

  step_light : length (step rows p) + 1 ≤ length rows + least_weight_of p.value
  unfolding step
  step_light = looked_up_light (row_with rows p.value) refl

-- the weights of some odd parts together
unfoldable pub part_weights : List Part → ℕ
part_weights [] = 0
part_weights (p ∷ ps) = least_weight_of p.value + part_weights ps

pub steps_light : (rows : List Row) (ps : List Part) → Lawful rows → ((p : Part) → Memᴰ p ps → Buildable p) → length (steps rows ps) + length ps ≤ length rows + part_weights ps
unfolding steps part_weights
steps_light rows [] w b = omega arith
steps_light rows (p ∷ ps) w b =
    let c = b p (Memᴰ.head refl) in
    omega (arith, step_light rows p w c, steps_light (step rows p) ps (step_grows rows p w c).lawful (λ q m. b q (Memᴰ.tail m)))

-- ---- the parts from number i on
pub steps_next : (rows : List Row) (ps : List Part) (i : ℕ) (d : Part) → i < length ps → steps rows (drop i ps) ≡ steps (step rows (get_or ps i d)) (drop (i + 1) ps)
unfolding steps
steps_next rows ps i d l = rw (add-one i, drop-cons ps i d l)

pub steps_done : (rows : List Row) (ps : List Part) (i : ℕ) → length ps ≤ i → steps rows (drop i ps) ≡ rows
unfolding steps
steps_done rows ps i l = rw (drop_of_length-le ps {i = i} l)
