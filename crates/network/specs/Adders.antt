-- The adders of a filter. Document 02, request 2. Two numbers, each with its name, and their sum. Definitions only.
use Rattle.std.specs.Prelude.{Bool, not, List, ℕ, ◌+◌, ◌-◌, ℤ, length}
use Rattle.word.specs.Zero.{is_zero}
use Rattle.sequence.specs.Count.{how_many}
use Rattle.network.specs.declared.TapRow.{TapRow}
use Rattle.network.specs.Rows.{Network}
use Rattle.network.specs.Coefficients.{coefficients}
use Rattle.network.specs.TapRowRule.{is_empty}

-- "rows less one": row 0 is the sample, and every later row is one sum or difference
abbrev pub row_adders : Network → ℕ
row_adders net = length net.rows - 1

-- a tap is nonzero where its coefficient is
abbrev pub is_nonzero : ℤ → Bool
is_nonzero c = not (is_zero c)

-- "nonzero taps"
abbrev pub nonzero_taps_of : List ℤ → ℕ
nonzero_taps_of h = how_many is_nonzero h

-- tap rows that are not empty: of a network that passes, as many (`taps_counted` in specs/Claims.antt)
abbrev pub used_tap_rows : List TapRow → ℕ
used_tap_rows taps = how_many (λ (t : TapRow). not (is_empty t)) taps

-- those that join the products of the taps into one output: "nonzero taps less one (plus 0 when there are none)". 0 - 1 is 0 here
abbrev pub joining_adders_of : List ℤ → ℕ
joining_adders_of h = nonzero_taps_of h - 1

-- those of the whole filter: "rows less one, plus nonzero taps less one"
abbrev pub adders : Network → ℕ
adders net = row_adders net + joining_adders_of (coefficients net)
