-- Demand 3 whole, proved.
use mathlib.Core.Path.{◌≡◌, sym, subst}
use mathlib.Core.List.{List}
use Prim.Native.Nat.{ℕ, ◌≤◌}
use lib.IntN.{ℤ, pos}
use lib.ListN.{length, get_or}
use Rattle.refusal.specs.Answer.{Answer, given}
use Rattle.coefficient.specs.Parts.{parts_of}
use Rattle.signed_digit.proofs.Claims.{digit_claims}
use Rattle.network.specs.Rows.{Network, row_table, tap_table}
use Rattle.build_steps.specs.TapRows.{built}
use Rattle.build_steps.specs.Answer.{build_answer}
use Rattle.build_steps.specs.CanBuild.{CanBuildInto}
use Rattle.build_steps.specs.Built.{BuiltInto, HoldsNetwork}
use Rattle.build_steps.proofs.Refusals.{has_form}
use Rattle.build_steps.proofs.BuiltTables.{can_give}
use Rattle.build_steps.proofs.Claims.{building_claims}
use Rattle.run_calls.specs.Memory.{Step}
use Rattle.run_calls.specs.Demand.{Calls, Demand}
use Rattle.run_calls.proofs.Theorem.{running_sums}
use Rattle.guarantee.specs.Demand3.{Taken, Guaranteed, Demand3}

-- demand 3 takes what can be built
builds : (cs : List ℤ) (ks rows taps : List ℕ) → Taken cs ks → row_table ≤ length rows → tap_table ≤ length taps → CanBuildInto cs ks rows taps
builds cs ks rows taps t rows_long taps_long = record {
  some = t.from_1;
  can_build = record {
    few = t.to_256;
    enough = t.one_per_tap;
    bounds = t.within_bounds_lem;
    forms = λ (i : ℕ) h. has_form (parts_of (get_or cs i (pos 0))) (get_or ks i 0) (t.listed i h);
  };
  rows_long = rows_long;
  taps_long = taps_long;
}

pub can_build : (cs : List ℤ) (ks rows taps : List ℕ) → Taken cs ks → row_table ≤ length rows → tap_table ≤ length taps → build_answer cs ks rows taps ≡ given (built cs ks)
can_build cs ks rows taps t rows_long taps_long = can_give cs ks rows taps (builds cs ks rows taps t rows_long taps_long)

module _ (cs : List ℤ) (ks rows taps : List ℕ) (answer : Answer ℕ) (rows' taps' : List ℕ) (t : Taken cs ks) (rows_long : row_table ≤ length rows)
    (taps_long : tap_table ≤ length taps) (left : BuiltInto cs ks rows taps answer rows' taps') where
  hold : HoldsNetwork cs ks rows taps answer rows' taps'
  hold = building_claims.built_accepted cs ks rows taps answer rows' taps' (builds cs ks rows taps t rows_long taps_long) left

  sums : (calls : List Step) → Calls (built cs ks) calls → Demand cs (built cs ks) calls
  sums calls f =
      subst (λ (net : Network). Demand cs net calls) hold.holds
      (running_sums cs rows' (length (built cs ks).rows) taps' (length cs) hold.passes calls (subst (λ (net : Network). Calls net calls) (sym hold.holds) f))

  guaranteed : Guaranteed cs ks answer rows' taps'
  guaranteed = record { accepts = hold.accepts; holds = hold.holds; sums = sums }

pub demand_3 : Demand3
demand_3 = record { listings = digit_claims.minimal_forms_written; networks = guaranteed }
