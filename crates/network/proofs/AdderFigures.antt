-- Adders of the sheet's filter and of others over its rows. Assumes nothing.
use mathlib.Core.Path.{◌≡◌, refl}
use mathlib.Core.List.{List, []}
use Prim.Native.Nat.{ℕ, ◌+◌}
use Rattle.sequence.specs.UpTo.{up_to}
use Rattle.sequence.specs.Count.{how_many}
use Rattle.network.specs.Rows.{plus, minus, none, network_of}
use Rattle.network.specs.Coefficients.{coefficient_of}
use Rattle.network.specs.Adders.{adders}
use Rattle.network.specs.Figures.{tap, sheet_rows, sheet_tap_rows}

pub sheet_adders : (r t : List ℕ) → adders (network_of (sheet_rows r) 3 (sheet_tap_rows t) 4) ≡ 2 + 2
unfolding up_to coefficient_of how_many
sheet_adders r t = refl

pub zero_taps : adders (network_of (sheet_rows []) 1 (tap none 0 0 (tap none 0 0 (tap none 0 0 []))) 3) ≡ 0
unfolding up_to coefficient_of how_many
zero_taps = refl

pub one_tap : adders (network_of (sheet_rows []) 3 (tap none 0 0 (tap minus 2 1 (tap none 0 0 []))) 3) ≡ 2 + 0
unfolding up_to coefficient_of how_many
one_tap = refl

pub equal_taps : adders (network_of (sheet_rows []) 2 (tap plus 1 0 (tap plus 1 0 (tap plus 1 0 (tap plus 1 0 [])))) 4) ≡ 1 + 3
unfolding up_to coefficient_of how_many
equal_taps = refl

pub one_odd_part : adders (network_of (sheet_rows []) 2 (tap plus 1 0 (tap minus 1 0 (tap plus 1 1 (tap minus 1 2 [])))) 4) ≡ 1 + 3
unfolding up_to coefficient_of how_many
one_odd_part = refl
