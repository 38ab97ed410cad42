-- `sheet_kinds::adders::nonzero_taps` meets its contract. Assumes nothing.
use borrow.Author.Rules.{rules}
use mathlib.Core.Path.{◌≡◌, sym, ◌∙◌}
use Rattle.std.specs.List.{count_by}
use Rattle.network.specs.Adders.{is_nonzero}
use Rattle.sheet_kinds.proofs.Counted.{how_many_counted}
use Rattle.sheet_kinds.proofs.adders.nonzero_taps.Goals as goal

pub returns : goal.returns
returns c =
    let counted : c.count.result ≡ count_by is_nonzero c.args.coefficients.now = search rules in
    counted ∙ sym (how_many_counted is_nonzero c.args.coefficients.now)
