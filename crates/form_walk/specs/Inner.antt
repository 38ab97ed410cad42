-- What the functions of the crate give. Definitions of the algorithm's own.
use Rattle.std.specs.Prelude.{ℕ, ◌+◌, ◌-◌, ◌*◌, ◌<◌, ◌/◌, ◌%◌, ◌^◌, ◌≡◌, cond, eqb, length}
use Rattle.std.specs.Int.Bits.{bit_and, bit_or}
use Rattle.std.specs.Int.Count.{count_trailing_zeros}
use Rattle.signed_digit.specs.String.{DigitString}
use Rattle.form_masks.specs.declared.Form.{Form}
use Rattle.form_masks.specs.Form.{form_of}
use Rattle.form_links.specs.Inner.{opposed, links_of, taken_links}
use Rattle.form_walk.specs.declared.Chains.{Chains}
use Rattle.form_walk.specs.declared.Walk.{Walk}

abbrev pub ahead_of : ℕ → Chains → Chains
ahead_of k a = record {
  taken = bit_or a.taken (bit_and a.chained (a.taken / 2 ^ k));
  chained = bit_and a.chained (a.chained / 2 ^ k);
}

-- the mask is the one that is `opposite` or `equal` with itself two places further up: no other is so
abbrev pub IsTaken : ℕ → ℕ → ℕ → Type 0
IsTaken opposite equal mask = (v : ℕ) → v < 2 ^ 32 → v ≡ bit_or opposite (bit_and equal (v / 4)) → v ≡ mask

-- before the first link of a canonical string s
abbrev pub start_of : DigitString → Walk
start_of s = record { links = taken_links s * 4; opposite = links_of opposed s * 4; bit = 1; forms = 1; moved = 0 }

abbrev pub IsStart : Form → Walk → Type 0
IsStart form w = (s : DigitString) → length s ≡ 32 → form ≡ form_of s → w ≡ start_of s

-- at the next link
abbrev pub skip_of : Walk → Walk
skip_of w = record {
  links = w.links / 2 ^ count_trailing_zeros 64 w.links;
  opposite = w.opposite / 2 ^ count_trailing_zeros 64 w.links;
  bit = w.bit * 2 ^ count_trailing_zeros 64 w.links;
  forms = w.forms;
  moved = cond (eqb (count_trailing_zeros 64 w.links) 0) w.moved w.forms;
}

-- past it
abbrev pub next_of : Walk → Walk
next_of w = record {
  links = w.links / 4;
  opposite = w.opposite / 4;
  bit = w.bit * 4;
  forms = cond (eqb (w.opposite % 2) 1) (w.forms + w.moved) w.forms;
  moved = cond (eqb (w.opposite % 2) 1) w.forms (w.forms + w.moved);
}

-- what is added to both masks of a copy at the link where the walk stands
abbrev pub offset_of : Walk → ℕ
offset_of w = (2 ^ 32 - w.bit / 4) % 2 ^ 32
