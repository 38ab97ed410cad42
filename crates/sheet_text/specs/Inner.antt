-- What the sheet of coefficients asks of them, and what the writers of a sheet leave. Definitions only.
use Rattle.std.specs.Prelude.{◌≡◌, List, ℕ, ◌≤◌, ◌<◌, ℤ, pos, length, get_or, Result, MatchResult}
use Rattle.word.specs.Bounds.{Coefficient}
use Rattle.refusal.specs.declared.Refusal.{Refusal}
use Rattle.refusal.specs.Answer.{Answer, turned_down_of}
use Rattle.network.specs.Rows.{Network}
use Rattle.text.specs.declared.Writer.{Writer}
use Rattle.text.specs.Inner.{Wrote}
use Rattle.sheet_lines.specs.Inner.{area_bytes}
use Rattle.sheet_text.specs.Sheet.{text_of}

-- 1 to 256 coefficients within the bounds
pub record Coefficients (cs : List ℤ) : Type 0 where
  pub some : 1 ≤ length cs
  pub few : length cs ≤ 256
  pub bounds : (i : ℕ) → i < length cs → Coefficient (get_or cs i (pos 0))

-- the sheet of an answer stands written; or the refusal is returned, and nothing is written
abbrev pub SheetOrRefusal : Writer → Answer Network → Result (Unit {0}) Refusal → Writer → Type 0
SheetOrRefusal u answer result v = MatchResult result (λ x. Wrote u (text_of answer) area_bytes v) (λ r. (v ≡ u) × (answer ≡ turned_down_of r))
