-- From what can be built to the tables that are left. Assumes nothing.
use mathlib.Core.Path.{◌≡◌, refl, sym, ap, subst, ◌∙◌}
use mathlib.Core.List.{List, [], ◌∷◌, map, Memᴰ}
use Prim.Native.Nat.{ℕ, suc, ◌+◌, ◌≤◌, ◌<◌}
use native.Mathlib.Omega.{arith}
use lib.IntN.{ℤ}
use lib.ListN.{length, get_or, replicate, length-map, length-replicate, get_or-map}
use Rattle.sequence.proofs.Members.{member}
use Rattle.network.specs.declared.Row.{Row}
use Rattle.network.specs.Rows.{rows_of, words_of_rows, words_of_tap_rows, first_row_of}
use Rattle.build_steps.specs.Parts.{Part, least_weight_of, parts_to_build}
use Rattle.build_steps.specs.Steps.{steps, built_rows}
use Rattle.build_steps.specs.TapRows.{built}
use Rattle.build_steps.specs.RowSteps.{row_0, most_rows}
use Rattle.build_steps.specs.CanBuild.{CanBuildInto, Buildable}
use Rattle.build_steps.proofs.Passes.{part_buildable, rows_built}
use Rattle.build_steps.proofs.Steps.{part_weights, steps_light}
use Rattle.network.proofs.Items.{table_with}
use Rattle.network.proofs.Tables.{row_layout}
use Rattle.std.specs.Prelude.{sum_by}
use Rattle.std.specs.List.{All}
use Rattle.std.proofs.lemmas.List.Sums.{sum_by-cons}
use Rattle.build_odd_parts.specs.declared.OddPart.{OddPart}
use Rattle.build_odd_parts.specs.Inner.{part_in, Ordered}
use Rattle.build_index.specs.declared.Rows.{Rows}
use Rattle.build_index.specs.Inner.{Grown}
use Rattle.build_index.proofs.Empty.{indexed_none}
use Rattle.build_index.proofs.Values.{length_rows}
use Rattle.build_sieve.specs.declared.Sieve.{Sieve}
use Rattle.build_sieve.proofs.Sieves.{sieve_none}
use Rattle.build_rows.specs.Inner.{CanStart}
use Rattle.build_tap_rows.specs.Inner.{over, tap_rows_for}
use Rattle.build_tables.specs.Inner.{Written}

-- the odd parts are those to be built
module _ (cs : List ℤ) (ks : List ℕ) (taken : List OddPart) (parts_are : map (part_in ks) taken ≡ parts_to_build cs ks) where
  rows_are : steps (first_row_of ∷ []) (map (part_in ks) taken) ≡ built_rows cs ks
  unfolding built_rows
  rows_are = ap (steps (first_row_of ∷ [])) parts_are

  -- ---- the tables that are left
  pub written : (r r' : Rows) (rows rows' taps taps' : List ℕ) → r.table.now ≡ rows → rows' ≡ r'.table.now → Grown r r' (steps (first_row_of ∷ []) (map (part_in ks) taken))
      → taps' ≡ over (words_of_tap_rows (tap_rows_for (rows_of r'.table.now r'.count) cs)) taps → Written cs ks rows taps rows' taps' r'.count
  unfolding built
  written r r' rows rows' taps taps' first last g e =
      let same : rows_of r'.table.now r'.count ≡ built_rows cs ks = g.rows_are ∙ rows_are in
      record {
        count = sym (length_rows r'.table.now r'.count) ∙ ap length same;
        fits = g.index.few;
        rows_are = last ∙ table_with row_layout r'.table.now r.table.now r'.count (built_rows cs ks) g.index.room same g.rest ∙ ap (over (words_of_rows (built_rows cs ks))) first;
        taps_are = e ∙ ap (λ (y : List Row). over (words_of_tap_rows (tap_rows_for y cs)) taps) same;
      }

-- odd parts that have their weights
weights_same : (ks : List ℕ) (taken : List OddPart) → All (λ (q : OddPart). q.weight ≡ least_weight_of q.value) taken → part_weights (map (part_in ks) taken) ≡ sum_by (λ q. q.weight) taken
unfolding part_weights
weights_same ks [] e = refl
weights_same ks (q ∷ qs) e =
    let later = weights_same ks qs (λ k d h. e (suc k) d (omega arith)) in
    omega (arith, e 0 q (omega arith), later, sum_by-cons (λ (q : OddPart). q.weight) q qs)

-- ---- the network can be built, and its odd parts are in order
module _ (cs : List ℤ) (ks rows taps : List ℕ) (taken : List OddPart) (a : CanBuildInto cs ks rows taps) (o : Ordered cs taken) where
  pub parts_ordered : map (part_in ks) taken ≡ parts_to_build cs ks
  parts_ordered = o.parts ks a.can_build.enough

  length_parts : length (map (part_in ks) taken) ≡ length taken
  length_parts = length-map taken (part_in ks)

  buildable : All (λ (q : OddPart). Buildable (part_in ks q)) taken
  buildable i d h =
      let e : get_or (map (part_in ks) taken) i (part_in ks d) ≡ part_in ks (get_or taken i d) = get_or-map (part_in ks) taken i d in
      let w : Memᴰ (get_or (map (part_in ks) taken) i (part_in ks d)) (map (part_in ks) taken) = member (part_in ks d) (map (part_in ks) taken) i (omega (arith, length_parts)) in
      part_buildable cs ks a.can_build (part_in ks (get_or taken i d)) (subst (Memᴰ (part_in ks (get_or taken i d))) parts_ordered (subst (λ (x : Part). Memᴰ x (map (part_in ks) taken)) e w))

  -- ---- room
  pub rows_few : length (built_rows cs ks) ≤ most_rows
  rows_few = (rows_built cs ks a.can_build).few

  -- row 0, and for each odd part one row less than its weight
  pub rows_weighed : length (built_rows cs ks) + length taken ≤ 1 + sum_by (λ q. q.weight) taken
  unfolding built_rows
  rows_weighed =
      let l = steps_light (first_row_of ∷ []) (parts_to_build cs ks) row_0 (part_buildable cs ks a.can_build) in
      omega (arith, l, ap part_weights (sym parts_ordered), ap length (sym parts_ordered), length_parts, weights_same ks taken o.weights)

  -- an index and a sieve of zeros, with h heads, l links, w values and b marks
  pub can_start : (r : Rows) (s : Sieve) (h l w b : ℕ) → r.count ≡ 0 → r.table.now ≡ rows → r.heads.now ≡ replicate {A = ℕ} h 0 → r.links.now ≡ replicate {A = ℕ} l 0
      → s.values.now ≡ replicate {A = ℕ} w 0 → s.marks.now ≡ replicate {A = ℕ} b 0 → 0 < h → length (built_rows cs ks) ≤ l → length (built_rows cs ks) + 7 ≤ w → 2048 ≤ b
      → CanStart taken ks r s
  can_start r s h l w b none table heads links values marks p q v t =
      let e = ap length (rows_are cs ks taken parts_ordered) in
      let lh = ap length heads ∙ length-replicate h 0 in
      let ll = ap length links ∙ length-replicate l 0 in
      let lw = ap length values ∙ length-replicate w 0 in
      let lb = ap length marks ∙ length-replicate b 0 in
      record {
        none = none;
        index = rw none (indexed_none r.table.now r.heads.now r.links.now h heads (omega (arith, lh)));
        room = record { few = omega (arith, e, rows_few); words = omega (arith, e, rows_few, a.rows_long, ap length table); linked = omega (arith, e, ll) };
        sieve = rw none (sieve_none r.table.now s.values.now s.marks.now w values (omega (arith, lw)) (omega (arith, lb)));
        sieve_room = omega (arith, e, lw);
        taps = λ k d i. omega (arith, o.taps k d i, a.can_build.enough);
        parts = buildable;
      }
