-- Check 3, table by table. Assumes nothing.
use Rattle.std.proofs.Common.{◌≡◌, Bool, true, ◌||◌, List, ℕ, ◌<◌, ℤ, length, ap, ◌∙◌}
use mathlib.Core.Bool.{or-true}
use borrow.Author.Tests.{lt-ltb}
use lib.Dec.{ltb}
use Rattle.network.specs.Rows.{row_table, tap_table}
use Rattle.network.specs.Check.{short_tables}
use Rattle.build_steps.proofs.Answers.{short}

module _ (cs : List ℤ) (ks rows taps : List ℕ) where
  pub short_choices : length ks < length cs → short cs ks rows taps ≡ true
  short_choices h = ap (λ (b : Bool). b || short_tables rows taps) (lt-ltb (length ks) (length cs) h)

  pub short_rows : length rows < row_table → short cs ks rows taps ≡ true
  short_rows h =
      ap (λ (b : Bool). ltb (length ks) (length cs) || (b || ltb (length taps) tap_table)) (lt-ltb (length rows) row_table h) ∙ or-true (ltb (length ks) (length cs))

  pub short_taps : length taps < tap_table → short cs ks rows taps ≡ true
  short_taps h =
      ap (λ (b : Bool). ltb (length ks) (length cs) || (ltb (length rows) row_table || b)) (lt-ltb (length taps) tap_table h)
      ∙ ap (λ (b : Bool). ltb (length ks) (length cs) || b) (or-true (ltb (length rows) row_table))
      ∙ or-true (ltb (length ks) (length cs))
