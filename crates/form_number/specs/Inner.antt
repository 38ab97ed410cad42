-- The links of a walk noted in a table, and the form of a number by them. Definitions of the algorithm's own.
use Rattle.std.specs.Prelude.{◌≡◌, ◌≢◌, ℕ, ◌+◌, ◌-◌, ◌≤◌, cond, List, [], ◌∷◌, ℤ, nat_lt, take, reverse}
use Rattle.signed_digit.specs.CanonicalForm.{canonical}
use Rattle.form_masks.specs.Form.{form_of}
use Rattle.form_walk.specs.declared.Walk.{Walk}
use Rattle.form_walk.specs.Inner.{IsStart, skip_of, next_of, offset_of}
use Rattle.form_number.specs.declared.Link.{Link}

-- the link where the walk stands
abbrev pub link_of : Walk → Link
link_of w = record { front = w.forms; offset = offset_of w }

-- the links that a walk passes from its start on are noted, the last in front
pub data Noted (start : Walk) : List Link → Walk → Type 0 where
  none_yet : Noted start [] start
  one_more : {links : List Link} {w : Walk} → Noted start links w → w.links ≢ 0 → Noted start (link_of (skip_of w) ∷ links) (next_of (skip_of w))

-- all links of the walk of n are, in the order of the walk, in the front of the table
pub record AllNoted (n : ℤ) (table : List Link) (count : ℕ) : Type 0 where
  pub start : Walk
  pub starts : IsStart (form_of (canonical 32 n)) start
  pub end : Walk
  pub noted : Noted start (reverse (take count table)) end
  pub none_left : end.links ≡ 0
  pub few : count ≤ 17

-- the sum of the offsets of those of the links, the last in front, that form i takes
unfoldable pub offset_at_of : List Link → ℕ → ℕ
offset_at_of [] i = 0
offset_at_of (link ∷ links) i = cond (nat_lt i link.front) (offset_at_of links i) (link.offset + offset_at_of links (i - link.front))
