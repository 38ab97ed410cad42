-- The masks of cells, from the front. Assumes nothing.
use Rattle.std.proofs.Common.{◌≡◌, ℕ, zero, suc, ◌+◌, ◌-◌, ◌≤◌, List, [], ◌∷◌, ◌++◌, length, take, drop, sym, refl, ap, ap₂, ◌∙◌, arith, length-take, length-drop, append_assoc, append-nil, drop_of_length-le}
use borrow.Rule.Slice.PartMut.{put_mid}
use Rattle.std.proofs.lemmas.Slice.{take-put_mid}
use Rattle.sequence.proofs.UpTo.{length_up_to}
use Rattle.sequence.specs.UpTo.{up_to}
use Rattle.sequence.specs.Inner.{front}
use Rattle.plane_masks.specs.Planes.{cell_mask, cell_masks}

pub all_masks : (table old : List ℕ) (cells : ℕ) → length old ≡ cells → front (cell_mask table) old cells ≡ cell_masks cells table
unfolding front cell_masks
all_masks table old cells h =
    let l : length old ≤ cells = omega arith in
    ap (λ (r : List ℕ). up_to cells (cell_mask table) ++ r) (drop_of_length-le old l) ∙ append-nil (up_to cells (cell_mask table))

pub no_masks : (table : List ℕ) → [] ≡ cell_masks 0 table
unfolding cell_masks up_to
no_masks table = refl

-- those of k cells more
pub masks_more : (table : List ℕ) (c k : ℕ) → cell_masks c table ++ up_to k (λ (b : ℕ). cell_mask table (c + b)) ≡ cell_masks (c + k) table
unfolding cell_masks up_to
masks_more table c zero = let e : c ≡ c + 0 = omega arith in append-nil (up_to c (cell_mask table)) ∙ ap (λ (n : ℕ). up_to n (cell_mask table)) e
masks_more table c (suc k) =
    let e : suc (c + k) ≡ c + suc k = omega arith in
    sym (append_assoc (up_to c (cell_mask table)) (up_to k (λ (b : ℕ). cell_mask table (c + b))) (cell_mask table (c + k) ∷ []))
    ∙ ap (λ (l : List ℕ). l ++ (cell_mask table (c + k) ∷ [])) (masks_more table c k)
    ∙ ap (λ (n : ℕ). up_to n (cell_mask table)) e

-- a block more, as many of its cells as there are
pub block_more : (table masks new : List ℕ) (from to : ℕ) → from ≤ to → to ≤ length masks → take from masks ≡ cell_masks from table
    → new ≡ up_to (length (take (to - from) (drop from masks))) (λ (b : ℕ). cell_mask table (from + b)) → take to (put_mid from (to - from) masks new) ≡ cell_masks to table
block_more table masks new from to h l first is =
    let g : ℕ → ℕ = λ (b : ℕ). cell_mask table (from + b) in
    let n : length (take (to - from) (drop from masks)) ≡ to - from = simp (length-take, length-drop) (omega arith) in
    let e : new ≡ up_to (to - from) g = is ∙ ap (λ (k : ℕ). up_to k g) n in
    let k : to ≡ from + length new = omega (arith, ap length e, length_up_to (to - from) g) in
    let q : from + (to - from) ≡ to = omega arith in
    take-put_mid from (to - from) masks new to k (omega arith)
    ∙ ap₂ (λ (x y : List ℕ). x ++ y) first e
    ∙ masks_more table from (to - from)
    ∙ ap (λ (k : ℕ). cell_masks k table) q
