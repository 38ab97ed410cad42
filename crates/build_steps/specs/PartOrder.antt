-- The odd parts to be built, in document 01's words: "take the distinct odd parts by least weight, then by smaller value", and "For equal odd parts the
-- earliest tap's choice is used." Definitions only.
use Rattle.std.specs.Prelude.{◌≡◌, ℕ, ◌≤◌, ◌<◌, ℤ, pos, length, get_or}
use mathlib.Core.List.{List, [], ◌∷◌, Memᴰ}
use Rattle.signed_digit.specs.Reduction.{Sign}
use Rattle.coefficient.specs.Parts.{parts, parts_of}
use Rattle.build_steps.specs.Parts.{Part, least_weight_of}

-- v is built before w: "by least weight, then by smaller value"
pub data Before (v w : ℕ) : Type 0 where
  lighter : least_weight_of v < least_weight_of w → Before v w
  smaller : least_weight_of v ≡ least_weight_of w → v < w → Before v w

-- each part is built before every one after it
abbrev pub InOrder : List Part → Type 0
InOrder [] = Unit {0}
InOrder (p ∷ ps) = ((q : Part) → Memᴰ q ps → Before p.value q.value) × InOrder ps

-- the coefficient n has the odd part v
abbrev pub HasOddPart : ℤ → ℕ → Type 0
HasOddPart n v = (s : Sign) × (shift : ℕ) × (parts_of n ≡ parts s v shift)

-- "For equal odd parts the earliest tap's choice is used."
pub record Earliest (coefficients : List ℤ) (choices : List ℕ) (p : Part) : Type 0 where
  pub tap : ℕ
  pub within : tap < length coefficients
  pub has : HasOddPart (get_or coefficients tap (pos 0)) p.value
  pub choice : get_or choices tap 0 ≡ p.choice
  pub not_before : (j : ℕ) → j < tap → HasOddPart (get_or coefficients j (pos 0)) p.value → ⊥

-- "take the distinct odd parts by least weight, then by smaller value": these and no others, in order
pub record PartsInOrder (coefficients : List ℤ) (choices : List ℕ) (ps : List Part) : Type 0 where
  pub in_order : InOrder ps
  pub every : (i v : ℕ) → i < length coefficients → HasOddPart (get_or coefficients i (pos 0)) v → (p : Part) × Memᴰ p ps × (p.value ≡ v)
  pub earliest : (p : Part) → Memᴰ p ps → Earliest coefficients choices p
  pub few : length ps ≤ length coefficients
