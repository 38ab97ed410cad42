-- Five stages transpose 32 rows. Assumes nothing.
use mathlib.Core.Path.{◌≡◌, refl, sym, ap, ap₂, ◌∙◌}
use mathlib.Core.Bool.{Bool, true, ◌&&◌}
use mathlib.Core.List.{List}
use Prim.Native.Nat.{ℕ, ◌<◌}
use borrow.Author.Tests.{eqb-true}
use lib.Dec.{eqb, lit<}
use lib.ListN.{get_or}
use Rattle.sequence.specs.UpTo.{up_to}
use Rattle.sequence.proofs.UpTo.{get_d_up_to, up_to_same}
use Rattle.plane_masks.specs.Binary.{bit_at}
use Rattle.plane_masks.proofs.Binary.{binary_ext, binary_whole}
use Rattle.plane_blocks.specs.Inner.{mixed, column, transposed}
use Rattle.plane_blocks.proofs.Rows.{mixed_small}
use Rattle.plane_blocks.proofs.Finite.{and_true, all_below, all_at}
use Rattle.plane_blocks.proofs.Stages.{row_of, place_of, apart, apart_at, stage_bit, in_rows, in_places}

-- bit b of row r of the rows g is bit place r b of row row r b of the rows f
pub record Leads (f g : List ℕ) (row place : ℕ → ℕ → ℕ) : Type 0 where
  pub same : (r b : ℕ) → r < 32 → b < 32 → bit_at (get_or g r 0) b ≡ bit_at (get_or f (row r b) 0) (place r b)

-- one stage more
abbrev pub after : ℕ → (ℕ → ℕ → ℕ) → ℕ → ℕ → ℕ
after j at r b = at (row_of j r b) (place_of j r b)

pub leads_start : (f : List ℕ) → Leads f f (λ (r b : ℕ). r) (λ (r b : ℕ). b)
leads_start f = record { same = λ (r b : ℕ) h l. refl }

pub leads_on : (j m : ℕ) (f g k : List ℕ) (row place : ℕ → ℕ → ℕ) → all_below 32 (apart j m) ≡ true → Leads f g row place → k ≡ up_to 32 (mixed j m g)
    → Leads f k (after j row) (after j place)
leads_on j m f g k row place e p is = record { same = same }
  where
    same : (r b : ℕ) → r < 32 → b < 32 → bit_at (get_or k r 0) b ≡ bit_at (get_or f (after j row r b) 0) (after j place r b)
    same r b h l =
        let a = apart_at j m e b l in
        ap (λ (x : ℕ). bit_at x b) (ap (λ (t : List ℕ). get_or t r 0) is ∙ get_d_up_to 32 (mixed j m g) 0 r h)
        ∙ stage_bit j m g r b l a
        ∙ p.same (row_of j r b) (place_of j r b) (in_rows j m g r b l a h) (in_places j m g r b l a)

-- ---- all five: row and place are changed about
abbrev five_times : (ℕ → ℕ → ℕ) → ℕ → ℕ → ℕ
five_times at = after 1 (after 2 (after 4 (after 8 (after 16 at))))

abbrev transposes : ℕ → ℕ → Bool
transposes r b = eqb (five_times (λ (r b : ℕ). r) r b) b && eqb (five_times (λ (r b : ℕ). b) r b) r

all_transpose : all_below 32 (λ (r : ℕ). all_below 32 (transposes r)) ≡ true
all_transpose = refl

pub changed_about : (f g : List ℕ) → Leads f g (five_times (λ (r b : ℕ). r)) (five_times (λ (r b : ℕ). b)) → (r b : ℕ) → r < 32 → b < 32
    → bit_at (get_or g r 0) b ≡ bit_at (get_or f b 0) r
changed_about f g p r b h l =
    let w = and_true (eqb (five_times (λ (r b : ℕ). r) r b) b) _ (all_at 32 (transposes r) (all_at 32 (λ (r : ℕ). all_below 32 (transposes r)) all_transpose r h) b l) in
    p.same r b h l ∙ ap₂ (λ (r b : ℕ). bit_at (get_or f r 0) b) (eqb-true _ b w.0) (eqb-true _ r w.1)

-- what the stages leave that are run to and fro, with the masks 0x0000ffff, 0x00ff00ff, 0x0f0f0f0f, 0x33333333 and 0x55555555
module _ (rows a b c d e : List ℕ) (is-a : a ≡ up_to 32 (mixed 16 65535 rows)) (is_b : b ≡ up_to 32 (mixed 8 16711935 a))
    (is_c : c ≡ up_to 32 (mixed 4 252645135 b)) (is-d : d ≡ up_to 32 (mixed 2 858993459 c)) (is-e : e ≡ up_to 32 (mixed 1 1431655765 d)) where
  all_lead : Leads rows e (five_times (λ (r b : ℕ). r)) (five_times (λ (r b : ℕ). b))
  all_lead =
      leads_on 1 1431655765 rows d e _ _ refl
      (leads_on 2 858993459 rows c d _ _ refl
      (leads_on 4 252645135 rows b c _ _ refl
      (leads_on 8 16711935 rows a b _ _ refl
      (leads_on 16 65535 rows rows a _ _ refl (leads_start rows) is-a)
      is_b)
      is_c)
      is-d)
      is-e

  row_is : (r : ℕ) → r < 32 → mixed 1 1431655765 d r ≡ column rows r
  unfolding column
  row_is r h =
      sym (binary_whole 32 (mixed 1 1431655765 d r) (mixed_small 1 1431655765 d r (lit< tt)))
      ∙ binary_ext 32 (bit_at (mixed 1 1431655765 d r)) (λ (p : ℕ). bit_at (get_or rows p 0) r) (λ (p : ℕ) l.
      ap (λ (x : ℕ). bit_at x p) (sym (ap (λ (t : List ℕ). get_or t r 0) is-e ∙ get_d_up_to 32 (mixed 1 1431655765 d) 0 r h)) ∙ changed_about rows e all_lead r p h l)

  pub all_transposed : e ≡ transposed rows
  unfolding transposed
  all_transposed = is-e ∙ up_to_same (mixed 1 1431655765 d) (column rows) 32 row_is
