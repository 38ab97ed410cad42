-- The words of no cells are zeros. Assumes nothing.
use Rattle.std.proofs.Common.{◌≡◌, [], ℕ, sym, refl, ◌∙◌, replicate}
use Rattle.sequence.specs.UpTo.{up_to}
use Rattle.plane_masks.specs.Planes.{plane_words_of}
use Rattle.plane_masks.proofs.Planes.{no_words}

zeros : replicate {A = ℕ} 128 0 ≡ up_to 128 (λ (k : ℕ). 0)
unfolding up_to
zeros = refl

pub empty_words : plane_words_of [] ≡ replicate {A = ℕ} 128 0
empty_words = no_words ∙ sym zeros
