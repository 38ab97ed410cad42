-- A table with the planes of some cells: of none, and of one more. Assumes nothing.
use mathlib.Core.Path.{◌≡◌, refl, sym, ap, ap₂, ◌∙◌}
use mathlib.Core.List.{List, [], ◌∷◌, ◌++◌, map, map-append}
use Prim.Native.Nat.{ℕ, ◌+◌, ◌*◌, ◌<◌, ◌/◌, ◌%◌, ◌^◌}
use native.Mathlib.Numerals.{add-one}
use lib.IntN.{ℤ}
use lib.ListN.{length, get_or, drop, length-map}
use lib.Seq.{drop_at}
use Rattle.sequence.specs.UpTo.{up_to}
use Rattle.sequence.proofs.UpTo.{length_up_to}
use Rattle.signed_digit.specs.String.{DigitString}
use Rattle.plane_masks.specs.Planes.{plane_words_of}
use Rattle.plane_masks.specs.Grid.{chosen, chosen_forms}
use Rattle.plane_words.specs.Inner.{with_cell}
use Rattle.plane_masks.proofs.Planes.{words_length}
use Rattle.plane_words.proofs.OneMore.{room, one_more}

-- f is one of the masks of a form
module _ (f : DigitString → ℕ) (coefficients : List ℤ) (choices : List ℕ) (rest : List ℕ) where
  -- a table with the planes of the first c cells
  abbrev pub table_of : ℕ → List ℕ
  table_of c = plane_words_of (map f (chosen_forms c coefficients choices)) ++ rest

  masks_length : (c : ℕ) → length (map f (chosen_forms c coefficients choices)) ≡ c
  unfolding chosen_forms
  masks_length c = length-map (up_to c (chosen coefficients choices)) f ∙ length_up_to c (chosen coefficients choices)

  masks_next : (c : ℕ) → map f (chosen_forms c coefficients choices) ++ (f (chosen coefficients choices c) ∷ []) ≡ map f (chosen_forms (c + 1) coefficients choices)
  unfolding chosen_forms up_to
  masks_next c =
      sym (map-append f (up_to c (chosen coefficients choices)) (chosen coefficients choices c ∷ []))
      ∙ ap (λ (n : ℕ). map f (up_to n (chosen coefficients choices))) (sym (add-one c))

  pub no_cells : plane_words_of [] ++ rest ≡ table_of 0
  unfolding chosen_forms up_to
  no_cells = refl

  pub has_room : (c : ℕ) (table : List ℕ) → table ≡ table_of c → c < 256 → (p : ℕ) → p < 32 → get_or table (4 * p + c / 64) 0 < 2 ^ (c % 64)
  has_room c table e h = rw e (room (map f (chosen_forms c coefficients choices)) c (masks_length c) rest h)

  pub cell_added : (c mask : ℕ) (table : List ℕ) → table ≡ table_of c → mask ≡ f (chosen coefficients choices c) → with_cell mask c table ≡ table_of (c + 1)
  cell_added c mask table e m =
      ap₂ (λ (t : List ℕ) (x : ℕ). with_cell x c t) e m
      ∙ one_more (map f (chosen_forms c coefficients choices)) c (masks_length c) rest (f (chosen coefficients choices c))
      ∙ ap (λ (masks : List ℕ). plane_words_of masks ++ rest) (masks_next c)

-- a table with no cell: past its words it is as it was
module _ (table old : List ℕ) (e : table ≡ plane_words_of [] ++ drop 128 old) where
  pub past_kept : drop 128 table ≡ drop 128 old
  past_kept = ap (drop 128) e ∙ drop_at (plane_words_of []) (drop 128 old) 128 (words_length [])

  pub empty : table ≡ plane_words_of [] ++ drop 128 table
  empty = e ∙ ap (λ (rest : List ℕ). plane_words_of [] ++ rest) (sym past_kept)
