-- What rows become when some are added: still lawful, with a row for a value, and no more than a bound. Assumes nothing.
use mathlib.Core.Path.{◌≡◌, refl, sym, ap, ◌∙◌, subst}
use mathlib.Core.List.{List, [], ◌∷◌, ◌++◌, append-nil, append_assoc}
use Prim.Native.Nat.{ℕ, ◌+◌, ◌≤◌}
use native.Mathlib.Omega.{arith}
use lib.ListN.{length, length-append}
use Rattle.refusal.specs.Answer.{nowhere}
use Rattle.network.specs.declared.Row.{Row}
use Rattle.network.specs.RowRule.{LaterRow}
use Rattle.build_steps.specs.Search.{row_with}
use Rattle.build_steps.specs.RowSteps.{Made, Lawful, one_more, HasRow, Growth}
use Rattle.build_steps.proofs.Lookup.{row_stays, row_joins}

pub has_still : (rows more : List Row) (v : ℕ) → HasRow rows v → HasRow (rows ++ more) v
has_still rows more v h = (h.0, row_stays rows v more h.0 h.1)

pub unchanged : (rows : List Row) (v most : ℕ) → Lawful rows → HasRow rows v → Growth rows rows v most
unchanged rows v most w h = record { lawful = w; has = h; more = []; is = sym (append-nil rows); few = omega arith }

pub one_row : (rows : List Row) (r : Row) (v most : ℕ) → 1 ≤ most → Lawful rows → LaterRow rows (length rows) r → row_with rows v ≡ nowhere → r.value ≡ v → Made rows r
    → Growth rows (rows ++ (r ∷ [])) v most
one_row rows r v most p w l n e m = record {
  lawful = one_more w l (ap (row_with rows) e ∙ n) m;
  has = (length rows, row_joins rows v r e n);
  more = r ∷ [];
  is = refl;
  few = omega arith;
}

pub then : {rows middle grown : List Row} {u v : ℕ} (i j most : ℕ) → Growth rows middle u i → Growth middle grown v j → i + j ≤ most → Growth rows grown v most
then {rows} i j most a b l = record {
  lawful = b.lawful;
  has = b.has;
  more = a.more ++ b.more;
  is = b.is ∙ ap (λ (l : List Row). l ++ b.more) a.is ∙ append_assoc rows a.more b.more;
  few = omega (arith, length-append a.more b.more, a.few, b.few);
}

-- a value that had a row has it still
pub still : {rows grown : List Row} {v : ℕ} (most u : ℕ) → Growth rows grown v most → HasRow rows u → HasRow grown u
still {rows} most u a h = subst (λ (l : List Row). HasRow l u) (sym a.is) (has_still rows a.more u h)

pub grown_length : {rows grown : List Row} {v : ℕ} (most : ℕ) → Growth rows grown v most → length grown ≤ length rows + most
grown_length {rows} most a = omega (arith, ap length a.is ∙ length-append rows a.more, a.few)
