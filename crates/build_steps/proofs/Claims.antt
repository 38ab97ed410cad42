-- `building_claims`: the claims of specs/Claims.antt. Assumes nothing.
use Rattle.build_steps.specs.Claims.{BuildingClaims}
use Rattle.build_steps.proofs.PartsInOrder.{parts_in_order}
use Rattle.build_steps.proofs.OnlyParts.{parts_only}
use Rattle.build_steps.proofs.FirstFit.{fit_is_first, none_is_none}
use Rattle.build_steps.proofs.OnlyFit.{first_fit_only}
use Rattle.build_steps.proofs.ChosenForm.{least_weight_lem, chosen_form_lem}
use Rattle.build_steps.proofs.Steps.{chained_grows}
use Rattle.build_steps.proofs.TheStep.{the_step}
use Rattle.build_steps.proofs.TheRows.{the_rows}
use Rattle.build_steps.proofs.TapRow.{tap_row}
use Rattle.build_steps.proofs.Passes.{built_few, built_passes}
use Rattle.build_steps.proofs.Adders.{built_adders, most_adders}
use Rattle.build_steps.proofs.Unshared.{no_more_than_digits}
use Rattle.build_steps.proofs.Refusals.{built_refusals}
use Rattle.build_steps.proofs.BuiltTables.{tables_hold, given_only, tables_untouched}

pub building_claims : BuildingClaims
building_claims = record {
  parts_in_order = parts_in_order;
  parts_only = parts_only;
  least_weight_lem = least_weight_lem;
  fit_is_first = fit_is_first;
  none_is_none = none_is_none;
  first_fit_only = first_fit_only;
  chosen_form_lem = chosen_form_lem;
  chained_grows = chained_grows;
  the_step = the_step;
  the_rows = the_rows;
  tap_row = tap_row;
  built_passes = built_passes;
  built_few = built_few;
  built_adders = built_adders;
  no_more_than_digits = no_more_than_digits;
  most_adders = most_adders;
  built_accepted = tables_hold;
  built_only = given_only;
  built_refusals = λ cs ks rows taps number place rows' taps' left. built_refusals cs ks rows taps number place left.answer;
  built_refused = tables_untouched;
}
