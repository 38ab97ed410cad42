-- The sheet's filter of document 01, and running calls with it such as demand 3 speaks of. Definitions only.
use Rattle.std.specs.Prelude.{List, [], ◌∷◌, ℕ, ℤ, pos, neg_ℤ}
use Rattle.network.specs.Rows.{Network, network_of, plus, minus}
use Rattle.network.specs.Figures.{row, sheet_rows, sheet_tap_rows}
use Rattle.run_calls.specs.Memory.{Lending}

-- the samples 1, 2, -32768 and what they give
abbrev pub sheet_samples : List ℤ
sheet_samples = pos 1 ∷ pos 2 ∷ neg_ℤ (pos 32768) ∷ []

abbrev pub sheet_outputs : List ℤ
sheet_outputs = pos 3 ∷ pos 0 ∷ neg_ℤ (pos 98271) ∷ []

-- another network, which breaks the row rule: row 2 names itself
abbrev pub broken_rows : List ℕ → List ℕ
broken_rows more = row 0 0 0 plus 1 (row 0 0 1 plus 3 (row 2 1 4 minus 45 more))

-- the sheet's network in tables, whatever stands past it in them
abbrev pub stored_network : List ℕ → List ℕ → Network
stored_network r t = network_of (sheet_rows r) 3 (sheet_tap_rows t) 4

-- ---- four calls, r and t being what stands past the network in its tables

-- accepted: 256 registers and one word past them, four outputs for three samples
abbrev pub accepted_call : List ℕ → List ℕ → Lending
accepted_call r t = record {
  call = record { rows = sheet_rows r; row_count_of = 3; taps = sheet_tap_rows t; tap_count = 4; samples = sheet_samples; registers = 257; outputs = 4 };
  start = 0;
  beyond = 77 ∷ [];
  held = pos 9 ∷ pos 9 ∷ pos 9 ∷ pos 9 ∷ [];
}

-- accepted, with no samples
abbrev pub silent_call : List ℕ → List ℕ → Lending
silent_call r t = record {
  call = record { rows = sheet_rows r; row_count_of = 3; taps = sheet_tap_rows t; tap_count = 4; samples = []; registers = 256; outputs = 0 };
  start = 0;
  beyond = [];
  held = [];
}

-- refused with 3: lent 5 registers from number 10 on
abbrev pub short_call : List ℕ → List ℕ → Lending
short_call r t = record {
  call = record { rows = sheet_rows r; row_count_of = 3; taps = sheet_tap_rows t; tap_count = 4; samples = pos 5 ∷ []; registers = 5; outputs = 1 };
  start = 10;
  beyond = [];
  held = pos 8 ∷ [];
}

-- refused with 10, place 2: handed another network
abbrev pub broken_call : List ℕ → List ℕ → Lending
broken_call r t = record {
  call = record { rows = broken_rows r; row_count_of = 3; taps = sheet_tap_rows t; tap_count = 4; samples = pos 5 ∷ []; registers = 256; outputs = 1 };
  start = 0;
  beyond = [];
  held = pos 8 ∷ [];
}

abbrev pub four_calls : List ℕ → List ℕ → List Lending
four_calls r t = accepted_call r t ∷ silent_call r t ∷ short_call r t ∷ broken_call r t ∷ []
