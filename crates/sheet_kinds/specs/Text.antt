-- The sheet of a network, and of a refusal. Document 01, "The sheet". Definitions only.
use Rattle.std.specs.Prelude.{List, ◌++◌, ℕ}
use Rattle.network.specs.declared.Row.{Row}
use Rattle.network.specs.declared.TapRow.{TapRow}
use Rattle.network.specs.Rows.{Network}
use Rattle.network.specs.Coefficients.{coefficient_of}
use Rattle.network.specs.Adders.{adders}
use Rattle.text.specs.Lines.{lines_from}
use Rattle.sheet_lines.specs.Lines.{header, node_line_of, tap_line_text, total_line_of, refused_line_of}

-- a tap's line: its value is the coefficient that its row, shift and sign give
abbrev pub tap_line_in : List Row → ℕ → TapRow → List ℕ
tap_line_in rows i t = tap_line_text i t (coefficient_of rows t)

-- "Node lines come first, then tap lines, each by number, then the total line". The total is the adders of the whole filter: document 02, request 2
unfoldable pub network_text : Network → List ℕ
network_text net = header ++ (lines_from node_line_of 0 net.rows ++ (lines_from (tap_line_in net.rows) 0 net.taps ++ total_line_of (adders net)))

-- "When turned down it prints the header and `refused,N,,,,,P` only"
unfoldable pub refused_text : ℕ → ℕ → List ℕ
refused_text number place = header ++ refused_line_of number place
