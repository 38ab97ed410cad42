-- A table that grows row by row. Assumes nothing.
use mathlib.Core.Path.{◌≡◌, refl, sym, ap, ◌∙◌}
use mathlib.Core.List.{List}
use Prim.Native.Nat.{ℕ, ◌+◌, ◌-◌, ◌*◌, ◌≤◌}
use native.Mathlib.Omega.{arith}
use lib.ListN.{drop}
use lib.Seq.{drop-drop}
use Rattle.network.specs.declared.Row.{Row}
use Rattle.network.specs.Rows.{row_words, rows_of}
use Rattle.build_index.specs.declared.Rows.{Rows}
use Rattle.build_index.specs.Inner.{IsIndexed, SameLent, Grown}

pub same_lent : (r : Rows) → SameLent r r
same_lent r = record { table = refl; heads = refl; links = refl; table_long = refl; heads_long = refl; links_long = refl }

-- nothing is added
pub grown_none : (r : Rows) → IsIndexed r → Grown r r (rows_of r.table.now r.count)
grown_none r ix = record { rows_are = refl; rest = refl; index = ix; lent = same_lent r }

drop_more : (t t' : List ℕ) (a b : ℕ) → a ≤ b → drop a t' ≡ drop a t → drop b t' ≡ drop b t
drop_more t t' a b h e =
    let q : a + (b - a) ≡ b = omega arith in
    ap (λ (k : ℕ). drop k t') (sym q) ∙ sym (drop-drop (b - a) a t') ∙ ap (drop (b - a)) e ∙ drop-drop (b - a) a t ∙ ap (λ (k : ℕ). drop k t) q

pub lent_on : {r r' r'' : Rows} → SameLent r r' → SameLent r' r'' → SameLent r r''
lent_on s s' = record {
  table = s'.table ∙ s.table;
  heads = s'.heads ∙ s.heads;
  links = s'.links ∙ s.links;
  table_long = s'.table_long ∙ s.table_long;
  heads_long = s'.heads_long ∙ s.heads_long;
  links_long = s'.links_long ∙ s.links_long;
}

-- grown twice
pub grown_on : {r r' r'' : Rows} {rows' rows'' : List Row} → r'.count ≤ r''.count → Grown r r' rows' → Grown r' r'' rows'' → Grown r r'' rows''
grown_on {r} {r'} {r''} h g g' =
    record {
      rows_are = g'.rows_are;
      rest = g'.rest ∙ drop_more r.table.now r'.table.now (row_words * r'.count) (row_words * r''.count) (omega arith) g.rest;
      index = g'.index;
      lent = lent_on g.lent g'.lent;
    }
