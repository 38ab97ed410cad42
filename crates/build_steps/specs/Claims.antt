-- What is claimed of building: of its steps, and of the tables that `build` leaves. proofs/Claims.antt proves it. Definitions only.
use Rattle.std.specs.Prelude.{◌≡◌, Bool, List, ℕ, ◌+◌, ◌-◌, ◌%◌, ◌^◌, ◌≤◌, ◌<◌, ltb, ℤ, pos, length, get_or}
use Rattle.word.specs.Bounds.{Coefficient}
use Rattle.refusal.specs.Answer.{Answer, given, refused}
use Rattle.signed_digit.specs.String.{DigitString}
use Rattle.signed_digit.specs.Weight.{weight}
use Rattle.signed_digit.specs.Minimal.{Minimal}
use Rattle.signed_digit.specs.Forms.{listing}
use Rattle.coefficient.specs.Parts.{parts_of}
use Rattle.network.specs.declared.Row.{Row}
use Rattle.network.specs.declared.TapRow.{TapRow}
use Rattle.network.specs.RowRule.{LaterRow}
use Rattle.network.specs.Coefficients.{coefficient_of}
use Rattle.network.specs.TapRowRule.{TapRowRule}
use Rattle.network.specs.Adders.{row_adders, joining_adders_of, adders}
use Rattle.network.specs.Check.{checked}
use Rattle.network.specs.Claims.{UnderLength, TablesFit}
use Rattle.build_steps.specs.Parts.{Part, least_weight_of, parts_to_build}
use Rattle.build_steps.specs.Search.{fit, none_fits, first_fit_of}
use Rattle.build_steps.specs.Chain.{chosen_form_of, chained}
use Rattle.build_steps.specs.Steps.{step, built_rows}
use Rattle.build_steps.specs.TapRows.{tap_row_of, built}
use Rattle.build_steps.specs.PartOrder.{HasOddPart, PartsInOrder}
use Rattle.build_steps.specs.RowSteps.{FirstFit, Lawful, HasRow, TheStep, Growth, most_rows, TheRows}
use Rattle.build_steps.specs.CanBuild.{Listed, CanBuild, CanBuildInto, Buildable, Chosen}
use Rattle.build_steps.specs.Built.{BuiltInto, HoldsNetwork}
use Rattle.build_steps.specs.Digits.{nonzero_digits}

-- the tap row t of the coefficient n
pub record TapOf (rows : List Row) (n : ℤ) (t : TapRow) : Type 0 where
  pub rule : TapRowRule rows t
  pub product : coefficient_of rows t ≡ n

-- "unchanged" on a refusal
pub record Untouched (rows taps rows' taps' : List ℕ) : Type 0 where
  pub rows_left : rows' ≡ rows
  pub taps_left : taps' ≡ taps

-- "choice not below the number of forms": of tap k, and of no lower one
pub record LowestChoice (coefficients : List ℤ) (choices : List ℕ) (k : ℕ) : Type 0 where
  pub within : k < length coefficients
  pub unlisted : Listed (parts_of (get_or coefficients k (pos 0))) (get_or choices k 0) → ⊥
  pub listed : (i : ℕ) → i < k → Listed (parts_of (get_or coefficients i (pos 0))) (get_or choices i 0)

-- "choices .. one per tap": the table of choices is under its length
abbrev pub few_choices : List ℤ → List ℕ → Bool
few_choices coefficients choices = ltb (length choices) (length coefficients)

-- "Turned down": what a number and a place mean that `build` returns; it returns no others
pub data BuildRefusals (coefficients : List ℤ) (choices rows taps : List ℕ) (number place : ℕ) : Type 0 where
  -- "1, place 0: no taps"
  no_coefficients : number ≡ 1 → place ≡ 0 → length coefficients ≡ 0 → BuildRefusals coefficients choices rows taps number place
  -- "2, place 0: more than 256 taps"
  too_many_coefficients : number ≡ 2 → place ≡ 0 → 256 < length coefficients → BuildRefusals coefficients choices rows taps number place
  -- "3, place 0: a lent table is under its length"
  table_short : number ≡ 3 → place ≡ 0 → 1 ≤ length coefficients → length coefficients ≤ 256 → UnderLength (few_choices coefficients choices) rows taps
      → BuildRefusals coefficients choices rows taps number place
  -- "9, tap: choice not below the number of forms"
  no_such_form_lem : number ≡ 9 → TablesFit (few_choices coefficients choices) rows taps (length coefficients) → LowestChoice coefficients choices place
      → BuildRefusals coefficients choices rows taps number place

pub record BuildingClaims : Type 0 where
  -- ---- "take the distinct odd parts by least weight, then by smaller value"; "For equal odd parts the earliest tap's choice is used."
  pub parts_in_order : (coefficients : List ℤ) (choices : List ℕ) → length coefficients ≤ length choices
      → PartsInOrder coefficients choices (parts_to_build coefficients choices)
  -- these words settle the list
  pub parts_only : (coefficients : List ℤ) (choices : List ℕ) → length coefficients ≤ length choices
      → (ps : List Part) → PartsInOrder coefficients choices ps → ps ≡ parts_to_build coefficients choices
  -- "least weight": no string of the value is lighter
  pub least_weight_lem : (v : ℕ) → v ≤ 2 ^ 31 → (s : DigitString) → Minimal (pos v) s → weight s ≡ least_weight_of v
  -- ---- step 2: "lowest left, then lowest shift, then sign in the order `+`, `-`, `r`. The first fit is added"
  pub fit_is_first : (rows : List Row) (v : ℕ) → v % 2 ≡ 1 → v < 2 ^ 31 → (r : Row) → first_fit_of rows v ≡ fit r → FirstFit rows v r
  -- "Only if none fits": where none is found there is none
  pub none_is_none : (rows : List Row) (v : ℕ) → first_fit_of rows v ≡ none_fits → (q : Row) → q.value ≡ v → LaterRow rows (length rows) q → ⊥
  -- these words settle the row
  pub first_fit_only : (rows : List Row) → Lawful rows → (v : ℕ) → v % 2 ≡ 1 → v < 2 ^ 31 → (r : Row) → FirstFit rows v r → first_fit_of rows v ≡ fit r
  -- ---- step 3: "read the chosen form from its highest nonzero digit down, v = 2^gap·v ± 1 with row 0 on the right; each v without a row gets one"
  pub chosen_form_lem : (v choice : ℕ) → v < 2 ^ 31 → choice < length (listing 32 (pos v)) → Chosen v (chosen_form_of v choice)
  pub chained_grows : (rows : List Row) (p : Part) → Lawful rows → Buildable p → Growth rows (chained rows (chosen_form_of p.value p.choice)) p.value 15
  -- ---- the three steps for one odd part, and the rows for all of them
  pub the_step : (rows : List Row) (p : Part) → Lawful rows → Buildable p → TheStep rows p (step rows p)
  pub the_rows : (coefficients : List ℤ) (choices : List ℕ) → CanBuild coefficients choices → TheRows coefficients (built_rows coefficients choices)
  -- ---- "A tap row is .. the number of a row of the network and a shift 0 to 31 whose product is a coefficient within bounds": the coefficient given
  pub tap_row : (rows : List Row) (n : ℤ) → Coefficient n → ((v : ℕ) → HasOddPart n v → HasRow rows v) → TapOf rows n (tap_row_of rows (parts_of n))
  -- ---- the network: it passes the checks, and its coefficients are those given; nothing runs out
  pub built_passes : (coefficients : List ℤ) (choices : List ℕ) → CanBuild coefficients choices → checked (built coefficients choices) ≡ given coefficients
  pub built_few : (coefficients : List ℤ) (choices : List ℕ) → CanBuild coefficients choices → length (built coefficients choices).rows ≤ most_rows
  -- ---- its adders (document 02, request 2): "rows less one, plus nonzero taps less one" of the coefficients given
  pub built_adders : (coefficients : List ℤ) (choices : List ℕ) → CanBuild coefficients choices
      → adders (built coefficients choices) ≡ row_adders (built coefficients choices) + joining_adders_of coefficients
  -- never above N_b - 1, what source document 004 counts where nothing is shared
  pub no_more_than_digits : (coefficients : List ℤ) (choices : List ℕ) → CanBuild coefficients choices
      → adders (built coefficients choices) ≤ nonzero_digits coefficients - 1
  -- 3,841 rows less one, and 256 taps less one
  pub most_adders : (coefficients : List ℤ) (choices : List ℕ) → CanBuild coefficients choices → adders (built coefficients choices) ≤ 3840 + 255
  -- ---- the tables that `build` leaves: it accepts what can be built ("a number is returned in no other circumstances"), returns the number of rows,
  -- and the tables hold the network
  pub built_accepted : (coefficients : List ℤ) (choices rows taps : List ℕ) (a : Answer ℕ) (rows' taps' : List ℕ)
      → CanBuildInto coefficients choices rows taps → BuiltInto coefficients choices rows taps a rows' taps'
      → HoldsNetwork coefficients choices rows taps a rows' taps'
  -- it accepts nothing else
  pub built_only : (coefficients : List ℤ) (choices rows taps : List ℕ) (n : ℕ) (rows' taps' : List ℕ)
      → ((i : ℕ) → i < length coefficients → Coefficient (get_or coefficients i (pos 0)))
      → BuiltInto coefficients choices rows taps (given n) rows' taps' → CanBuildInto coefficients choices rows taps
  -- "The first that applies is returned, with the lowest place that breaks it": what a refusal means
  pub built_refusals : (coefficients : List ℤ) (choices rows taps : List ℕ) (number place : ℕ) (rows' taps' : List ℕ)
      → BuiltInto coefficients choices rows taps (refused number place) rows' taps' → BuildRefusals coefficients choices rows taps number place
  -- "unchanged"
  pub built_refused : (coefficients : List ℤ) (choices rows taps : List ℕ) (number place : ℕ) (rows' taps' : List ℕ)
      → BuiltInto coefficients choices rows taps (refused number place) rows' taps' → Untouched rows taps rows' taps'
