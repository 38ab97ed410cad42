-- What can be built, and the form that is chosen. Document 01, "Bounds" and "Building". Definitions only.
use Rattle.std.specs.Prelude.{◌≡◌, false, ℕ, ◌%◌, ◌^◌, ◌≤◌, ◌<◌, ℤ, pos, length, get_or, replicate}
use mathlib.Core.List.{List, ◌∷◌, ◌++◌, reverse, Memᴰ}
use Rattle.word.specs.Bounds.{Coefficient}
use Rattle.signed_digit.specs.Digit.{one, nought}
use Rattle.signed_digit.specs.String.{DigitString}
use Rattle.signed_digit.specs.Weight.{weight}
use Rattle.signed_digit.specs.Minimal.{Minimal}
use Rattle.signed_digit.specs.Forms.{listing}
use Rattle.coefficient.specs.Parts.{Parts, no_odd_part, parts, parts_of}
use Rattle.network.specs.Rows.{row_table, tap_table}
use Rattle.build_steps.specs.Parts.{Part}
use Rattle.build_steps.specs.Chain.{chain_value, chain_end}
use Rattle.build_steps.specs.Answer.{no_such_form}

-- "any choice of one listed form per tap": its number is below the form count of the tap's odd part; a zero tap has none, and its choice is 0
abbrev pub Listed : Parts → ℕ → Type 0
Listed no_odd_part choice = choice ≡ 0
Listed (parts sign odd_part shift) choice = choice < length (listing 32 (pos odd_part))

-- at most 256 coefficients, each a coefficient within bounds, with a choice of one listed form per tap
pub record CanBuild (coefficients : List ℤ) (choices : List ℕ) : Type 0 where
  pub few : length coefficients ≤ 256
  pub enough : length coefficients ≤ length choices
  pub bounds : (i : ℕ) → i < length coefficients → Coefficient (get_or coefficients i (pos 0))
  pub forms : (i : ℕ) → i < length coefficients → no_such_form (parts_of (get_or coefficients i (pos 0))) (get_or choices i 0) ≡ false

-- the same of one coefficient or more, with two tables that are long enough: "rows 4,096, tap rows .. 256"
pub record CanBuildInto (coefficients : List ℤ) (choices rows taps : List ℕ) : Type 0 where
  pub some : 1 ≤ length coefficients
  pub can_build : CanBuild coefficients choices
  pub rows_long : row_table ≤ length rows
  pub taps_long : tap_table ≤ length taps

-- an odd part that can be built: odd, below 2^31, its choice below the number of forms
pub record Buildable (p : Part) : Type 0 where
  pub odd : p.value % 2 ≡ 1
  pub below : p.value < 2 ^ 31
  pub choice : p.choice < length (listing 32 (pos p.value))

-- the highest nonzero digit of a string is a 1; the digits from high to low
pub record LeadingOne (s : DigitString) : Type 0 where
  pub zeros : ℕ
  pub rest : DigitString
  pub is : s ≡ replicate zeros nought ++ (one ∷ rest)
  pub ends : chain_end s ≡ chain_value 1 1 rest

-- "The choice for a tap is a form number .. in the listing of its odd part"
pub record Chosen (v : ℕ) (form : DigitString) : Type 0 where
  pub listed : Memᴰ form (listing 32 (pos v))
  pub minimal : Minimal (pos v) form
  pub places : length form ≡ 32
  pub light : weight form ≤ 16
  -- "read the chosen form from its highest nonzero digit down": this digit is a 1, and the chain ends at v
  pub ends : v % 2 ≡ 1 → chain_end (reverse form) ≡ v
  pub leads : v % 2 ≡ 1 → LeadingOne (reverse form)
  pub light_down : weight (reverse form) ≤ 16
