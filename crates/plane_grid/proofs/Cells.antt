-- The front of tables that are longer: what the cells have in them. Assumes nothing.
use Rattle.std.proofs.Common.{◌≡◌, ℕ, suc, ◌<◌, ◌≤◌, Bool, cond, not, ltb, List, [], ◌∷◌, length, get_or, take, refl, ap, ap₂, ◌∙◌, arith, length-take, get_or-take}
use lib.IntN.{ℤ, pos}
use Rattle.refusal.specs.Answer.{Place, at_place, lowest_from}
use Rattle.sequence.proofs.UpTo.{length_up_to, get_d_up_to, up_to_same}
use Rattle.signed_digit.specs.Forms.{listing}
use Rattle.plane_masks.specs.Grid.{cell_numbers, no_form, chosen, chosen_forms, formless_cell}

lowest_same : (f g : ℕ → Bool) (k : ℕ) (xs : List ℕ) → ((i : ℕ) → i < length xs → f (get_or xs i 0) ≡ g (get_or xs i 0)) → lowest_from k f xs ≡ lowest_from k g xs
unfolding lowest_from
lowest_same f g k [] h = refl
lowest_same f g k (x ∷ xs) h =
    ap₂ (λ (b : Bool) (p : Place). cond b (at_place k) p) (h 0 (omega arith)) (lowest_same f g (suc k) xs (λ i l. h (suc i) (omega arith)))

module _ (n : ℕ) (coefficients : List ℤ) (choices : List ℕ) (long : n ≤ length coefficients) where
  abbrev first_n : List ℤ
  first_n = take n coefficients

  pub first_length : length first_n ≡ n
  first_length = length-take n coefficients ∙ omega arith

  no_form_same : (c : ℕ) → c < n → no_form first_n (take n choices) c ≡ no_form coefficients choices c
  no_form_same c h =
      ap₂ (λ (choice : ℕ) (z : ℤ). not (ltb choice (length (listing 32 z)))) (get_or-take n choices c 0 h) (get_or-take n coefficients c (pos 0) h)

  chosen_same : (c : ℕ) → c < n → chosen first_n (take n choices) c ≡ chosen coefficients choices c
  chosen_same c h =
      ap₂ (λ (choice : ℕ) (z : ℤ). get_or (listing 32 z) choice []) (get_or-take n choices c 0 h) (get_or-take n coefficients c (pos 0) h)

  pub formless_taken : formless_cell (length first_n) first_n (take n choices) ≡ formless_cell n coefficients choices
  formless_taken =
      ap (λ (k : ℕ). formless_cell k first_n (take n choices)) first_length
      ∙ lowest_same (no_form first_n (take n choices)) (no_form coefficients choices) 0 (cell_numbers n) same
    where
      same : (i : ℕ) → i < length (cell_numbers n) → no_form first_n (take n choices) (get_or (cell_numbers n) i 0) ≡ no_form coefficients choices (get_or (cell_numbers n) i 0)
      same i l =
          let h : i < n = omega (arith, length_up_to n (λ (c : ℕ). c)) in
          let e : get_or (cell_numbers n) i 0 ≡ i = get_d_up_to n (λ (c : ℕ). c) 0 i h in
          rw e (no_form_same i h)

  pub chosen_taken : chosen_forms (length first_n) first_n (take n choices) ≡ chosen_forms n coefficients choices
  unfolding chosen_forms
  chosen_taken =
      ap (λ (k : ℕ). chosen_forms k first_n (take n choices)) first_length ∙ up_to_same (chosen first_n (take n choices)) (chosen coefficients choices) n chosen_same
