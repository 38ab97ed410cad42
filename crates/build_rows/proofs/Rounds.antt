-- The rows while the odd parts are taken one by one. Assumes nothing.
use mathlib.Core.Path.{◌≡◌, refl, sym, ap, subst, ◌∙◌}
use mathlib.Core.List.{List, [], ◌∷◌, map}
use Prim.Native.Nat.{ℕ, zero, suc, ◌+◌, ◌^◌, ◌≤◌, ◌<◌, max}
use native.Mathlib.Numerals.{add-one}
use native.Mathlib.Omega.{arith}
use lib.ListN.{length, get_or, drop, drop_of_length-le}
use lib.Seq.{drop-cons}
use Rattle.network.specs.declared.Row.{Row}
use Rattle.network.specs.Rows.{first_row_of}
use Rattle.build_steps.specs.Parts.{Part}
use Rattle.build_steps.specs.Steps.{step, steps}
use Rattle.build_steps.specs.RowSteps.{Lawful, row_0}
use Rattle.build_steps.specs.CanBuild.{Buildable}
use Rattle.build_steps.proofs.Steps.{step_grows}
use Rattle.build_odd_parts.specs.declared.OddPart.{OddPart}
use Rattle.build_odd_parts.specs.Inner.{part_in}
use Rattle.build_index.specs.declared.Rows.{Rows}
use Rattle.build_index.specs.Inner.{HasRoom, Grown}
use Rattle.build_sieve.specs.declared.Sieve.{Sieve}
use Rattle.build_sieve.specs.Inner.{HasSieve}
use Rattle.build_index.proofs.Growth.{grown_on}
use Rattle.build_index.proofs.Room.{less_room}
use Rattle.build_index.proofs.Values.{length_rows, value_in}
use Rattle.build_chain.specs.Inner.{rows_in}
use Rattle.build_part.specs.Inner.{Ready}
use Rattle.build_rows.proofs.Bounds.{Below, part_below}
use Rattle.build_rows.proofs.Longer.{step_longer, steps_longer}

module _ (taken : List OddPart) (choices : List ℕ) where
  abbrev parts : List OddPart → List Part
  parts = map (part_in choices)

  abbrev all_rows : List Row
  all_rows = steps (first_row_of ∷ []) (parts taken)

  -- after i parts
  pub record Round (r₀ r : Rows) (most i : ℕ) : Type 0 where
    pub grown : Grown r₀ r (rows_in r)
    pub lawful : Lawful (rows_in r)
    pub below : Below most (rows_in r)
    pub small : most < 2 ^ 31
    pub rest : steps (rows_in r) (parts (drop i taken)) ≡ all_rows

  first_below : Below 1 (first_row_of ∷ [])
  first_below zero h = omega arith
  first_below (suc i) h = absurd (omega arith)

  -- row 0 is there
  pub round_start : (r₀ r : Rows) → Grown r₀ r (first_row_of ∷ []) → Round r₀ r 1 0
  round_start r₀ r g = record {
    grown = record { rows_are = refl; rest = g.rest; index = g.index; lent = g.lent };
    lawful = subst Lawful (sym g.rows_are) row_0;
    below = subst (Below 1) (sym g.rows_are) first_below;
    small = omega arith;
    rest = ap (λ (rows : List Row). steps rows (parts taken)) g.rows_are;
  }

  pub some_rows : 1 ≤ length all_rows
  some_rows = steps_longer (first_row_of ∷ []) (parts taken)

  -- all parts are taken
  pub round_end : (r₀ r : Rows) (most i : ℕ) → length taken ≤ i → Round r₀ r most i → Grown r₀ r all_rows
  unfolding steps
  round_end r₀ r most i h o =
      record {
        rows_are = ap (λ (x : List OddPart). steps (rows_in r) (parts x)) (sym (drop_of_length-le taken {i = i} h)) ∙ o.rest;
        rest = o.grown.rest;
        index = o.grown.index;
        lent = o.grown.lent;
      }

  module _ (r₀ r : Rows) (most i : ℕ) (d : OddPart) (h : i < length taken) (o : Round r₀ r most i) (b : Buildable (part_in choices (get_or taken i d))) where
    abbrev p : Part
    p = part_in choices (get_or taken i d)

    abbrev rows : List Row
    rows = rows_in r

    later_is : parts (drop i taken) ≡ p ∷ parts (drop (i + 1) taken)
    later_is = ap parts (drop-cons taken i d h) ∙ ap (λ (k : ℕ). p ∷ parts (drop k taken)) (sym (add-one i))

    rest_is : steps (step rows p) (parts (drop (i + 1) taken)) ≡ all_rows
    unfolding steps
    rest_is = sym (ap (steps rows) later_is) ∙ o.rest

    step_room : length (step rows p) ≤ length all_rows
    step_room = subst (λ (x : List Row). length (step rows p) ≤ length x) rest_is (steps_longer (step rows p) (parts (drop (i + 1) taken)))

    pub ready : (s : Sieve) → HasRoom r (length all_rows) → HasSieve r s → length all_rows + 7 ≤ length s.values.now → Ready r s.values.now s.marks.now most p
    ready s m v w = record {
      index = o.grown.index;
      lawful = o.lawful;
      bounded = λ k w. (let e = value_in r.table.now r.count k w in omega (arith, e, o.below k (omega (arith, length_rows r.table.now r.count))));
      small = o.small;
      part = b;
      room = less_room r _ _ step_room m;
      sieve = v;
      sieve_room = omega (arith, step_room, w);
    }

    pub round_next : (r' : Rows) (most' : ℕ) → most' ≡ max most p.value → Grown r r' (step rows p) → Round r₀ r' most' (i + 1)
    round_next r' most' e g =
        let w = step_grows rows p o.lawful b in
        let up : r.count ≤ r'.count = omega (arith, length_rows r.table.now r.count, step_longer rows p, ap length g.rows_are, length_rows r'.table.now r'.count) in
        let f : Below most' rows = λ k m. omega (arith, o.below k m, e) in
        record {
          grown = grown_on up o.grown (record { rows_are = refl; rest = g.rest; index = g.index; lent = g.lent });
          lawful = subst Lawful (sym g.rows_are) w.lawful;
          below = subst (Below most') (sym g.rows_are) (part_below most' rows p b f (omega (arith, e)));
          small = omega (arith, e, o.small, b.below);
          rest = ap (λ (x : List Row). steps x (parts (drop (i + 1) taken))) g.rows_are ∙ rest_is;
        }
