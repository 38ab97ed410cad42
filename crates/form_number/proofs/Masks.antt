-- The masks of a form by its number: those of the canonical form with the offsets of the links that the form takes. The idea: beside the walk go the two tables
-- that the lister would leave, and place i of each is said by the links that are noted so far. Assumes nothing.
use Rattle.std.proofs.Common.{◌≡◌, ℕ, zero, suc, ◌+◌, ◌-◌, ◌%◌, ◌^◌, ◌<◌, ◌≤◌, Bool, true, false, ltb, ◌≢◌, List, [], ◌∷◌, ◌++◌, map, length, get_or, take, set, reverse, replicate, ℤ, nat_abs, sym, refl, ap, ◌∙◌, ap₂, mod-eq_of_lt, arith, length-take-le, get_or-take, get_or-append-add, ltb-false, ltb-true}
use native.Mathlib.Nat.{mod-add-mod, add-mod-mod}
use lib.ListN.{length-map, length-replicate, get_or-append}
use Rattle.signed_digit.specs.String.{DigitString}
use Rattle.signed_digit.specs.Masks.{plus_mask, minus_mask}
use Rattle.signed_digit.specs.CanonicalForm.{canonical}
use Rattle.signed_digit.specs.Forms.{listing}
use Rattle.signed_digit.proofs.Strings.{small}
use Rattle.signed_digit.proofs.Coefficients.{canonical_32}
use Rattle.form_masks.specs.declared.Form.{Form}
use Rattle.form_masks.specs.Form.{form_of}
use Rattle.form_links.specs.Inner.{shifted, grown}
use Rattle.form_links.proofs.Growth.{grown_front, grown_all}
use Rattle.form_walk.specs.declared.Walk.{Walk}
use Rattle.form_walk.specs.Inner.{skip_of, next_of, offset_of}
use Rattle.form_walk.proofs.Counted.{started}
use Rattle.form_listing.proofs.Listed.{Ready, ready, Listing, list_start, list_link, list_next, list_end, widen_fits}
use Rattle.form_number.specs.declared.Link.{Link}
use Rattle.form_number.specs.Inner.{link_of, Noted, none_yet, one_more, AllNoted, offset_at_of}
use Rattle.form_number.proofs.Offsets.{not_taken, taken}
use Rattle.form_number.proofs.Noted.{skip_made, next_made}

-- ---- a table after a growth, place by place
at_map : {A : Type 0} (f : A → ℕ) (d : A) (l : List A) (i : ℕ) → i < length l → get_or (map f l) i 0 ≡ f (get_or l i d)
at_map f d [] i h = absurd (omega arith)
at_map f d (x ∷ l) zero h = refl
at_map f d (x ∷ l) (suc i) h = at_map f d l i (omega arith)

module _ (old : List ℕ) (at n offset : ℕ) (room : at + n ≤ length old) (i : ℕ) where
  kept_at : i < at → get_or (grown old at n offset) i 0 ≡ get_or old i 0
  kept_at h = sym (get_or-take at (grown old at n offset) i 0 h) ∙ ap (λ (t : List ℕ). get_or t i 0) (grown_front old at n offset room) ∙ get_or-take at old i 0 h

  copied_at : at ≤ i → i < at + n → get_or (grown old at n offset) i 0 ≡ shifted offset (get_or old (i - at) 0)
  copied_at l h =
      let copies : List ℕ = map (shifted offset) (take n old) in
      let e : i ≡ length (take at old) + (i - at) = omega (arith, length-take-le at old (omega arith)) in
      sym (get_or-take (at + n) (grown old at n offset) i 0 h)
      ∙ ap₂ (λ (t : List ℕ) (j : ℕ). get_or t j 0) (grown_all old at n offset room) e
      ∙ get_or-append-add (take at old) copies (i - at) 0
      ∙ at_map (shifted offset) 0 (take n old) (i - at) (omega (arith, length-take-le n old (omega arith)))
      ∙ ap (shifted offset) (get_or-take n old (i - at) 0 (omega arith))

-- ---- the lister's tables beside the links that are noted
abbrev masked : List Link → ℕ → ℕ → ℕ
masked links first i = (first + offset_at_of links i) % 2 ^ 32

-- the links say what stands in the places below `made`
abbrev Says : List ℕ → ℕ → List Link → ℕ → Type 0
Says table first links made = (i : ℕ) → i < made → get_or table i 0 ≡ masked links first i

first_only : (table : List ℕ) (first : ℕ) → first < 2 ^ 32 → take 1 table ≡ first ∷ [] → Says table first [] 1
unfolding offset_at_of
first_only table first b e i h =
    let z : i ≡ 0 = omega arith in
    let f : first + 0 ≡ first = omega arith in
    ap (λ (j : ℕ). get_or table j 0) z
    ∙ sym (get_or-take 1 table 0 0 (omega arith))
    ∙ ap (λ (l : List ℕ). get_or l 0 0) e
    ∙ sym (ap (λ (x : ℕ). x % 2 ^ 32) f ∙ mod-eq_of_lt b)

-- a table at a link
says_next : (table : List ℕ) (first : ℕ) (links : List Link) (link : Link) (made n : ℕ) → link.front + n ≤ length table → link.front ≤ made → n ≤ made
    → Says table first links made → Says (grown table link.front n link.offset) first (link ∷ links) (link.front + n)
says_next table first links link made n room f m s i h = go (ltb i link.front) refl
  where
    go : (b : Bool) → ltb i link.front ≡ b → get_or (grown table link.front n link.offset) i 0 ≡ masked (link ∷ links) first i
    go true e =
        let l = ltb-true i link.front e in
        kept_at table link.front n link.offset room i l ∙ s i (omega arith) ∙ ap (λ (x : ℕ). (first + x) % 2 ^ 32) (sym (not_taken links link i l))
    go false e =
        let l = ltb-false i link.front e in
        let q : first + offset_at_of links (i - link.front) + link.offset ≡ first + offset_at_of (link ∷ links) i = omega (arith, taken links link i l) in
        copied_at table link.front n link.offset room i l h
        ∙ ap (shifted link.offset) (s (i - link.front) (omega arith))
        ∙ mod-add-mod (first + offset_at_of links (i - link.front)) (2 ^ 32) link.offset
        ∙ ap (λ (x : ℕ). x % 2 ^ 32) q

module _ (n : ℤ) (plus₀ minus₀ : List ℕ) (R : Ready n plus₀ minus₀) where
  record Beside (links : List Link) (w : Walk) : Type 0 where
    plus : List ℕ
    minus : List ℕ
    listing_way : Listing n plus₀ minus₀ R plus minus w
    made : ℕ
    plus_says : Says plus (plus_mask (canonical 32 n)) links made
    minus_says : Says minus (minus_mask (canonical 32 n)) links made
    forms_made : w.forms ≤ made
    moved_made : w.moved ≤ made

  small_masks : plus_mask (canonical 32 n) + minus_mask (canonical 32 n) < 2 ^ 32
  small_masks = omega (arith, small (canonical 32 n), ap (λ (x : ℕ). 2 ^ x) (canonical_32 n R.bounded).places)

  beside_start : (w : Walk) → Listing n plus₀ minus₀ R plus₀ minus₀ w → w.forms ≤ 1 → w.moved ≤ 1 → Beside [] w
  beside_start w A f m = record {
    plus = plus₀;
    minus = minus₀;
    listing_way = A;
    made = 1;
    plus_says = first_only plus₀ (plus_mask (canonical 32 n)) (omega (arith, small_masks)) R.plus_first;
    minus_says = first_only minus₀ (minus_mask (canonical 32 n)) (omega (arith, small_masks)) R.minus_first;
    forms_made = f;
    moved_made = m;
  }

  beside_next : (links : List Link) (w : Walk) → Beside links w → w.links ≢ 0 → Beside (link_of (skip_of w) ∷ links) (next_of (skip_of w))
  beside_next links w B h =
      let v : Walk = skip_of w in
      let A = list_link n plus₀ minus₀ R B.plus B.minus w B.listing_way h v refl in
      let r = widen_fits n plus₀ minus₀ R B.plus B.minus v A in
      let m = skip_made w B.made B.forms_made B.moved_made in
      record {
        plus = grown B.plus v.forms v.moved (offset_of v);
        minus = grown B.minus v.forms v.moved (offset_of v);
        listing_way = list_next n plus₀ minus₀ R B.plus B.minus v A (next_of v) _ _ refl refl refl;
        made = v.forms + v.moved;
        plus_says = says_next B.plus (plus_mask (canonical 32 n)) links (link_of v) B.made v.moved r.0 B.forms_made m B.plus_says;
        minus_says = says_next B.minus (minus_mask (canonical 32 n)) links (link_of v) B.made v.moved r.1 B.forms_made m B.minus_says;
        forms_made = (next_made v).0;
        moved_made = (next_made v).1;
      }

  beside : (start : Walk) → Beside [] start → (links : List Link) (w : Walk) → Noted start links w → Beside links w
  beside start B links w none_yet = B
  beside start B links w (one_more {links = more} {w = u} N h) = beside_next more u (beside start B more u N) h

  -- where no link is left, the tables hold the listing
  table_at : (f : DigitString → ℕ) (table more : List ℕ) (links : List Link) (made i : ℕ) → table ≡ map f (listing 32 n) ++ more → Says table (f (canonical 32 n)) links made
      → i < length (listing 32 n) → i < made → f (get_or (listing 32 n) i []) ≡ masked links (f (canonical 32 n)) i
  table_at f table more links made i e s h l =
      sym (ap (λ (t : List ℕ). get_or t i 0) e ∙ get_or-append (map f (listing 32 n)) more 0 i (omega (arith, length-map (listing 32 n) f)) ∙ at_map f [] (listing 32 n) i h)
      ∙ s i l

  at_end_lem : (links : List Link) (w : Walk) → Beside links w → w.links ≡ 0 → (i : ℕ) → i < length (listing 32 n)
      → (plus_mask (get_or (listing 32 n) i []) ≡ masked links (plus_mask (canonical 32 n)) i) × (minus_mask (get_or (listing 32 n) i []) ≡ masked links (minus_mask (canonical 32 n)) i)
  at_end_lem links w B z i h =
      let e = list_end n plus₀ minus₀ R B.plus B.minus w B.listing_way z in
      let l : i < B.made = omega (arith, e.0, B.forms_made) in
      (table_at plus_mask B.plus _ links B.made i e.1 B.plus_says h l, table_at minus_mask B.minus _ links B.made i e.2 B.minus_says h l)

-- ---- the theorem: form i of the listing, from the links of the whole walk
module _ (n : ℤ) (bounded : nat_abs n ≤ 2 ^ 31) (table : List Link) (count : ℕ) (N : AllNoted n table count) (i : ℕ) (inside : i < length (listing 32 n)) where
  abbrev links : List Link
  links = reverse (take count table)

  abbrev canonical_form : Form
  canonical_form = form_of (canonical 32 n)

  empty : List ℕ
  empty = replicate 1597 0

  room : 1597 ≤ length empty
  unfolding empty
  room = omega (arith, length-replicate {A = ℕ} 1597 0)

  abbrev plus₀ : List ℕ
  plus₀ = set empty 0 canonical_form.plus

  abbrev minus₀ : List ℕ
  minus₀ = set empty 0 canonical_form.minus

  tables_ready : Ready n plus₀ minus₀
  tables_ready = ready n bounded canonical_form refl empty empty room room

  masks : (plus_mask (get_or (listing 32 n) i []) ≡ masked links (plus_mask (canonical 32 n)) i)
      × (minus_mask (get_or (listing 32 n) i []) ≡ masked links (minus_mask (canonical 32 n)) i)
  masks =
      let s = started n bounded canonical_form refl N.start N.starts in
      let A = list_start n plus₀ minus₀ tables_ready canonical_form refl N.start N.starts in
      let f = ap (λ (w : Walk). w.forms) s in
      let m = ap (λ (w : Walk). w.moved) s in
      let B = beside_start n plus₀ minus₀ tables_ready N.start A (omega arith) (omega arith) in
      at_end_lem n plus₀ minus₀ tables_ready links N.end (beside n plus₀ minus₀ tables_ready N.start B links N.end N.noted) N.none_left i inside

  pub form_is : (sum : ℕ) → sum ≡ offset_at_of links i % 2 ^ 32 → (form : Form) → form ≡ canonical_form
      → (p m : ℕ) → p ≡ (form.plus + sum) % 2 ^ 32 → m ≡ (form.minus + sum) % 2 ^ 32 → record { plus = p; minus = m } ≡ form_of (get_or (listing 32 n) i [])
  form_is sum e form q p m ep em =
      ap₂ together
      (added form.plus p ep ∙ ap (λ (x : Form). masked links x.plus i) q ∙ sym masks.0)
      (added form.minus m em ∙ ap (λ (x : Form). masked links x.minus i) q ∙ sym masks.1)
    where
      together : ℕ → ℕ → Form
      together p m = record { plus = p; minus = m }

      added : (first r : ℕ) → r ≡ (first + sum) % 2 ^ 32 → r ≡ masked links first i
      added first r er = er ∙ ap (λ (x : ℕ). (first + x) % 2 ^ 32) e ∙ add-mod-mod first (offset_at_of links i) (2 ^ 32)
