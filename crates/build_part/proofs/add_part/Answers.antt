-- `build_part::add_part` meets its contract. The tests are the three steps of `step`: what `find` says of the value opens `looked_up`, and what `first_fit`
-- says opens `searched`. The room is that of the rows after the step, whichever it is. Assumes nothing.
use Rattle.std.proofs.Common.{◌≡◌, ℕ, List, Option, Some, None, true, false, is_some, sym, ap, subst, ◌∙◌, length, arith}
use mathlib.Core.Bool.{true≢false}
use Rattle.refusal.specs.Answer.{Place, nowhere, at_place, found_at}
use Rattle.form_masks.specs.declared.Form.{Form}
use Rattle.form_masks.specs.Form.{string_of}
use Rattle.network.specs.declared.Row.{Row}
use Rattle.build_steps.specs.Search.{row_with, fit, first_fit_of}
use Rattle.build_steps.specs.Chain.{chained}
use Rattle.build_steps.specs.Steps.{step}
use Rattle.build_index.specs.Inner.{HasRoom, Grown}
use Rattle.build_index.proofs.Growth.{grown_none}
use Rattle.build_index.proofs.Reading.{rows_read}
use Rattle.build_pair.specs.Inner.{fit_of}
use Rattle.build_chain.specs.Inner.{rows_in, Readable}
use Rattle.build_part.specs.Inner.{part_of}
use Rattle.build_part.proofs.Searches.{row_used, searchable, fit_added, fit_length, fit_new, readable, chain_added}
use Rattle.build_part.proofs.add_part.Goals.{Else-is_some, After-first_fit, After-chosen_form-form}
use Rattle.build_part.proofs.add_part.Goals as goal

-- what a look-up gave
found : (o : Option ℕ) (p : Place) → found_at o ≡ p → is_some o ≡ true → (i : ℕ) × (p ≡ at_place i)
found None p e f = absurd (true≢false (sym f))
found (Some i) p e f = (i, sym e)

not_found : (o : Option ℕ) (p : Place) → found_at o ≡ p → is_some o ≡ false → p ≡ nowhere
not_found None p e f = sym e
not_found (Some i) p e f = absurd (true≢false f)

missing : (c : Else-is_some) → row_with (rows_in c.args.rows.now) c.args.v ≡ nowhere
missing c = not_found c.find.result _ c.find.ensures (sym c.is_some.ensures ∙ c.if-is_some.false)

pub returns-then-is_some : goal.returns-then-is_some
returns-then-is_some c =
    let a = c.args in
    let e = found c.find.result _ c.find.ensures (sym c.is_some.ensures ∙ c.if-is_some.true) in
    subst (Grown a.rows.now a.rows.now) (row_used c.requires e.0 e.1) (grown_none a.rows.now c.requires.index)

pub first_fit-requires : goal.first_fit-requires
first_fit-requires c =
    let read = c.read.ensures in
    (searchable c.requires (missing (goal.at-first_fit-requires c).Else-is_some) c.read.result read, rw (read.table, read.count) c.requires.sieve)

-- what the search says of the rows that it read
fitted : (c : After-first_fit) → first_fit_of (rows_in c.args.rows.now) c.args.v ≡ fit_of c.first_fit.result
fitted c =
    sym (c.first_fit.ensures ∙ ap (λ (xs : List Row). first_fit_of xs c.args.v) (rows_read c.read.ensures))

pub put-requires : goal.put-requires
put-requires c =
    let a = c.args in
    let r = c.requires.room in
    let none = missing (goal.at-put-requires c).Else-is_some in
    let fits : first_fit_of (rows_in a.rows.now) a.v ≡ fit c.in-Some.row = fitted (goal.at-put-requires c).After-first_fit ∙ ap fit_of c.in-Some.is in
    let e = fit_length c.requires none c.in-Some.row fits in
    record {
      indexed = c.requires.index;
      room = (omega (arith, e, r.few), omega (arith, e, r.words), omega (arith, e, r.linked));
      new_value = fit_new c.requires none c.in-Some.row fits;
    }

-- the rows of the chosen form's chain
chain : (c : After-chosen_form-form) → chained (rows_in c.args.rows.now) (string_of c.chosen_form-form.result) ≡ step (rows_in c.args.rows.now) (part_of c.args.v c.args.choice)
chain c =
    let a = c.args in
    ap (λ (x : Form). chained (rows_in a.rows.now) (string_of x)) c.chosen_form-form.ensures
    ∙ chain_added c.requires (missing (goal.at-After-chosen_form-form c).Else-is_some) (fitted (goal.at-After-chosen_form-form c).After-first_fit ∙ ap fit_of c.in-None.is)

pub chosen_form-form-requires : goal.chosen_form-form-requires
chosen_form-form-requires c = let p = c.requires.part in (p.below, p.choice)

pub add_chain-requires : goal.add_chain-requires
add_chain-requires c =
    let a = c.args in record {
      indexed = (c.requires.index, subst (λ (x : Form). Readable x (rows_in a.rows.now)) (sym c.chosen_form-form.ensures) (readable c.requires));
      has_room = subst (λ (x : List Row). HasRoom a.rows.now (length x)) (sym (chain (goal.at-add_chain-requires c).After-chosen_form-form)) c.requires.room;
    }

pub returns-in-Some : goal.returns-in-Some
returns-in-Some c =
    let a = c.args in
    let fits : first_fit_of (rows_in a.rows.now) a.v ≡ fit c.in-Some.row = fitted (goal.at-returns-in-Some c).After-first_fit ∙ ap fit_of c.in-Some.is in
    subst (Grown a.rows.now c.put.new.self) (fit_added c.requires (missing (goal.at-returns-in-Some c).Else-is_some) c.in-Some.row fits) c.put.ensures.grown

pub returns-in-None : goal.returns-in-None
returns-in-None c =
    subst (Grown c.args.rows.now c.add_chain.new.rows) (chain (goal.at-returns-in-None c).After-chosen_form-form) c.add_chain.ensures
