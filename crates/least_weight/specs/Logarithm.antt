-- Document 02, request 10: "the rounded-up base-2 logarithm". Definitions only.
use Rattle.std.specs.Prelude.{ℕ, zero, suc, ◌^◌, Bool, true, false, leb}

-- d where the test holds, else f at the next
abbrev pub or_next : Bool → ℕ → (ℕ → ℕ) → ℕ
or_next true d f = d
or_next false d f = f (suc d)

-- the first of k numbers from d on whose power of 2 is at least w
unfoldable pub least_from : ℕ → ℕ → ℕ → ℕ
least_from zero w d = d
least_from (suc k) w d = or_next (leb w (2 ^ d)) d (least_from k w)

-- the least d with w ≤ 2^d; it is among the first w numbers
unfoldable pub log2up : ℕ → ℕ
log2up w = least_from w w 0
