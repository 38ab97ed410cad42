-- What is claimed of the reduction and of the trimmed filter, in document 01's words, "Digits". Statements only; proofs/Claims.antt proves `CoefficientClaims`.
use Rattle.std.specs.Prelude.{◌≡◌, List, [], ◌≢◌, ◌⊎◌, ℕ, ◌-◌, ◌%◌, ◌^◌, ◌≤◌, ◌<◌, ℤ, pos, ◌*ℤ◌, length, get_or}
use Rattle.word.specs.Bounds.{Coefficient}
use Rattle.signed_digit.specs.Reduction.{Sign, sign_value, Reduction}
use Rattle.coefficient.specs.Parts.{Parts, no_odd_part, parts, ReducedTo}
use Rattle.coefficient.specs.Stretch.{stretch, Location, further, StretchStarts, StretchEnds, TrimmedTo}
use Rattle.coefficient.specs.Figures.{ReductionFigures, TrimmedFigures}

pub record TheReduction (n : ℤ) (s : Sign) (odd_part shift : ℕ) : Type 0 where
  -- "sign × odd part × 2^shift"
  pub product : sign_value s *ℤ pos odd_part *ℤ pos (2 ^ shift) ≡ n
  pub odd : odd_part % 2 ≡ 1
  -- "the odd part positive"
  pub above_zero : 0 < odd_part
  -- the only such split
  pub only : (r : Reduction n) → (r.sign ≡ s) × (r.odd_part ≡ odd_part) × (r.shift ≡ shift)
  -- of a 32-bit coefficient
  pub bounds : Coefficient n → (odd_part < 2 ^ 31) × (shift ≤ 31)

-- what the parts tell of n
abbrev pub Right : Parts → ℤ → Type 0
Right no_odd_part n = n ≡ pos 0
Right (parts s odd_part shift) n = TheReduction n s odd_part shift

-- every coefficient is 0, or there is none
pub record AllZero (h : List ℤ) : Type 0 where
  pub zeros : (k : ℕ) → get_or h k (pos 0) ≡ pos 0

-- "from the first nonzero to the last": nothing, or a nonzero at either end
abbrev pub Bare : List ℤ → Type 0
Bare t = (t ≡ []) ⊎ ((get_or t 0 (pos 0) ≢ pos 0) × (get_or t (length t - 1) (pos 0) ≢ pos 0))

-- the stretch of h from the place a up to the place e is what trimming leaves
pub record Trimmed (h : List ℤ) (a e : ℕ) : Type 0 where
  pub in_order : a ≤ e
  pub within : e ≤ length h
  pub zeros_before : (k : ℕ) → k < a → get_or h k (pos 0) ≡ pos 0
  pub zeros_after : (k : ℕ) → e ≤ k → get_or h k (pos 0) ≡ pos 0
  pub bare : Bare (stretch h a e)

-- start and end are those of the trimmed filter
pub record TheStretch (h : List ℤ) (start end : ℕ) : Type 0 where
  pub trimmed : Trimmed h start end
  -- where not all is zero there is no other such stretch
  pub only : (AllZero h → ⊥) → (a e : ℕ) → Trimmed h a e → (a ≡ start) × (e ≡ end)
  -- "for all zeros or no coefficients, the empty stretch at the start"
  pub empty : AllZero h → (start ≡ 0) × (end ≡ 0)

-- "the caller's own stretch of coefficients": the part with these elements at this location, of the slice h at the location `at`
pub record OwnStretch (h : List ℤ) (at : Location) (part : List ℤ) (from : Location) : Type 0 where
  pub start : ℕ
  pub end : ℕ
  pub the_stretch : TheStretch h start end
  pub elements : part ≡ stretch h start end
  pub stands : from ≡ further at start
  -- "for all zeros or no coefficients, the empty stretch at the start"
  pub at_the_start : AllZero h → (part ≡ []) × (from ≡ at)

pub record CoefficientClaims : Type 0 where
  -- "a nonzero coefficient is sign × odd part × 2^shift, the odd part positive. Zero has no odd part."
  pub reduction_right : (n : ℤ) (p : Parts) → ReducedTo n p → Right p n
  -- "The trimmed filter is the caller's own stretch of coefficients from the first nonzero to the last", by its start and end
  pub stretch_found : (h : List ℤ) (start end : ℕ) → StretchStarts h start → StretchEnds h end → TheStretch h start end
  -- and by the part that is returned
  pub stretch_own : (h : List ℤ) (at : Location) (part : List ℤ) (from : Location) → TrimmedTo h at part from → OwnStretch h at part from
  -- worked examples
  pub reductions : ReductionFigures
  pub stretches : TrimmedFigures
