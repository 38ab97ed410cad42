-- The offsets of the links that a form takes, link by link from the last, and added up modulo 2^32. Assumes nothing.
use Rattle.std.proofs.Common.{◌≡◌, ℕ, ◌+◌, ◌-◌, ◌%◌, ◌^◌, ◌<◌, ◌≤◌, Bool, cond, ltb, List, [], ◌∷◌, ◌++◌, length, reverse, sym, ap, ◌∙◌, arith, le-ltb, lt-ltb}
use Rattle.std.proofs.lemmas.List.{reverse-append}
use native.Mathlib.Nat.{mod-add-mod}
use Rattle.form_number.specs.declared.Link.{Link}
use Rattle.form_number.specs.Inner.{offset_at_of}

module _ (links : List Link) (link : Link) (i : ℕ) where
  -- the last link: not taken by form i, or taken
  by_test : (b : Bool) → ltb i link.front ≡ b → offset_at_of (link ∷ links) i ≡ cond b (offset_at_of links i) (link.offset + offset_at_of links (i - link.front))
  unfolding offset_at_of
  by_test b e = ap (λ (c : Bool). cond c (offset_at_of links i) (link.offset + offset_at_of links (i - link.front))) e

  pub not_taken : i < link.front → offset_at_of (link ∷ links) i ≡ offset_at_of links i
  not_taken h = by_test _ (lt-ltb i link.front h)

  pub taken : link.front ≤ i → offset_at_of (link ∷ links) i ≡ link.offset + offset_at_of links (i - link.front)
  taken h = by_test _ (le-ltb i link.front h)

-- ---- the loop of `offset_at`: with sum, the offsets of the links to come at i are the total
abbrev pub Adding : List Link → ℕ → ℕ → ℕ → Type 0
Adding links i sum total = (sum + offset_at_of (reverse links) i) % 2 ^ 32 ≡ total

module _ (links rest : List Link) (link : Link) (e : links ≡ rest ++ link ∷ []) (i sum total : ℕ) (A : Adding links i sum total) where
  last : (sum + offset_at_of (link ∷ reverse rest) i) % 2 ^ 32 ≡ total
  last = ap (λ (l : List Link). (sum + offset_at_of l i) % 2 ^ 32) (sym (ap reverse e ∙ reverse-append rest (link ∷ []))) ∙ A

  pub add_not : i < link.front → Adding rest i sum total
  add_not h = ap (λ (x : ℕ). (sum + x) % 2 ^ 32) (sym (not_taken (reverse rest) link i h)) ∙ last

  pub add_taken : link.front ≤ i → Adding rest (i - link.front) ((sum + link.offset) % 2 ^ 32) total
  add_taken h =
      let more : ℕ = offset_at_of (reverse rest) (i - link.front) in
      let q : sum + link.offset + more ≡ sum + offset_at_of (link ∷ reverse rest) i = omega (arith, taken (reverse rest) link i h) in
      mod-add-mod (sum + link.offset) (2 ^ 32) more ∙ ap (λ (x : ℕ). x % 2 ^ 32) q ∙ last

pub add_end : (links : List Link) (i sum total : ℕ) → length links ≡ 0 → sum < 2 ^ 32 → Adding links i sum total → sum ≡ total
unfolding offset_at_of
add_end [] i sum total z h A = omega (arith, A)
add_end (link ∷ links) i sum total z h A = absurd (omega arith)
