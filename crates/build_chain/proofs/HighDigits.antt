-- The highest nonzero digit of a string, by the mask of its nonzero digits. Assumes nothing.
use mathlib.Core.Path.{◌≡◌, refl, sym, ap, ◌∙◌}
use mathlib.Core.List.{List, [], ◌∷◌, ◌++◌, reverse, reverse-append, append_assoc, append-nil}
use Prim.Native.Nat.{ℕ, zero, suc, ◌+◌, ◌*◌, ◌-◌, ◌^◌, ◌≤◌, ◌<◌}
use native.Mathlib.Decide.{dec_le}
use native.Mathlib.Nat.{lt_of_not-le, pow-suc}
use native.Mathlib.Omega.{arith}
use lib.ListN.{length, take, replicate}
use lib.Pow.{pow_mono}
use lib.Seq.{get_or_at, take_at, take-take, get_or-take, length-take-le}
use Rattle.signed_digit.specs.Digit.{Digit, nought, nonzero}
use Rattle.signed_digit.specs.String.{DigitString, digit_at}
use Rattle.signed_digit.specs.Same.{stripped}
use Rattle.signed_digit.specs.Masks.{mask}
use Rattle.signed_digit.specs.Forms.{top}
use Rattle.signed_digit.proofs.Strings.{bit, top_places, top_mask, topped, pad, pad_places, pad_mask}
use Rattle.signed_digit.proofs.Same.{Zeros, stripped_zeros, stripped_high}
use Rattle.network.specs.declared.Row.{Row}
use Rattle.build_steps.specs.Chain.{chain_from, chain_down, chain_value, chain_end}

-- the places of the nonzero digits
abbrev pub places : DigitString → ℕ
places s = mask nonzero s

pub places_small : (s : DigitString) → places s < 2 ^ length s
places_small [] = omega arith
places_small (d ∷ s) = omega (arith, places_small s, bit d, pow-suc 2 (length s))

-- a number is in one stretch from a power of 2 to the next
one_stretch : (a b n : ℕ) → 2 ^ a ≤ n → n < 2 ^ suc b → a ≤ b
one_stretch a b n h l = go (dec_le a b)
  where
    go : Dec (a ≤ b) → a ≤ b
    go (yes y) = y
    go (no x) = let p : 2 ^ suc b ≤ 2 ^ a = pow_mono (lt_of_not-le x) in absurd (omega arith)

-- ---- zeros above a string
pad_suc : (k : ℕ) (w : DigitString) → pad (suc k) w ≡ pad k (top nought w)
pad_suc k w = sym (append_assoc w (nought ∷ []) (replicate k nought))

top_reverse : (d : Digit) (w : DigitString) → reverse (top d w) ≡ d ∷ reverse w
top_reverse d w = reverse-append w (d ∷ [])

chain_pad : (rows : List Row) (v : ℕ) (k gap : ℕ) (w : DigitString) → chain_from rows v gap (reverse (pad k w)) ≡ chain_from rows v (gap + k) (reverse w)
unfolding chain_from
chain_pad rows v zero gap w =
    let e : w ++ [] ≡ w = append-nil w in
    let z : gap + 0 ≡ gap = omega arith in
    ap (λ (x : DigitString). chain_from rows v gap (reverse x)) e ∙ ap (λ (g : ℕ). chain_from rows v g (reverse w)) (sym z)
chain_pad rows v (suc k) gap w =
    let z : suc (gap + k) ≡ gap + suc k = omega arith in
    ap (λ (x : DigitString). chain_from rows v gap (reverse x)) (pad_suc k w)
    ∙ chain_pad rows v k gap (top nought w)
    ∙ ap (chain_from rows v (gap + k)) (top_reverse nought w)
    ∙ ap (λ (g : ℕ). chain_from rows v g (reverse w)) z

value_pad : (v : ℕ) (k gap : ℕ) (w : DigitString) → chain_value v gap (reverse (pad k w)) ≡ chain_value v (gap + k) (reverse w)
unfolding chain_value
value_pad v zero gap w =
    let z : gap + 0 ≡ gap = omega arith in
    ap (λ (x : DigitString). chain_value v gap (reverse x)) (append-nil w) ∙ ap (λ (g : ℕ). chain_value v g (reverse w)) (sym z)
value_pad v (suc k) gap w =
    let z : suc (gap + k) ≡ gap + suc k = omega arith in
    ap (λ (x : DigitString). chain_value v gap (reverse x)) (pad_suc k w)
    ∙ value_pad v k gap (top nought w)
    ∙ ap (chain_value v (gap + k)) (top_reverse nought w)
    ∙ ap (λ (g : ℕ). chain_value v g (reverse w)) z

down_pad : (rows : List Row) (k : ℕ) (w : DigitString) → chain_down rows (reverse (pad k w)) ≡ chain_down rows (reverse w)
unfolding chain_down
down_pad rows zero w = ap (λ (x : DigitString). chain_down rows (reverse x)) (append-nil w)
down_pad rows (suc k) w = ap (λ (x : DigitString). chain_down rows (reverse x)) (pad_suc k w) ∙ down_pad rows k (top nought w) ∙ ap (chain_down rows) (top_reverse nought w)

end_pad : (k : ℕ) (w : DigitString) → chain_end (reverse (pad k w)) ≡ chain_end (reverse w)
unfolding chain_end
end_pad zero w = ap (λ (x : DigitString). chain_end (reverse x)) (append-nil w)
end_pad (suc k) w = ap (λ (x : DigitString). chain_end (reverse x)) (pad_suc k w) ∙ end_pad k (top nought w) ∙ ap chain_end (top_reverse nought w)

-- ---- the highest nonzero digit
record Highest (t : DigitString) : Type 0 where
  zeros : ℕ
  digit : Digit
  under : DigitString
  is : t ≡ pad zeros (top digit under)
  counts : nonzero digit ≡ 1

highest : (t : DigitString) → 0 < places t → Highest t
highest t h = go (stripped t) refl
  where
    z : Zeros t (stripped t)
    z = stripped_zeros t

    whole : places t ≡ places (stripped t)
    whole = ap places z.is ∙ pad_mask nonzero refl z.number (stripped t)

    go : (r : DigitString) → stripped t ≡ r → Highest t
    go [] e = absurd (omega (arith, whole, ap places e))
    go (d ∷ r) e =
        let w = topped d r in
        record {
          zeros = z.number;
          digit = w.high;
          under = w.rest;
          is = z.is ∙ ap (pad z.number) (e ∙ w.is);
          counts = stripped_high t w.rest w.high (e ∙ w.is);
        }

-- of the digits below place p of s the highest nonzero one stands at q
pub record Next (s : DigitString) (p q : ℕ) : Type 0 where
  pub before : q < p
  pub counts : nonzero (digit_at s q) ≡ 1
  pub rest : places (take q s) + 2 ^ q ≡ places (take p s)
  pub chain : (rows : List Row) (v : ℕ) → chain_from rows v 1 (reverse (take p s)) ≡ chain_from rows v (p - q) (digit_at s q ∷ reverse (take q s))
  pub value : (v : ℕ) → chain_value v 1 (reverse (take p s)) ≡ chain_value v (p - q) (digit_at s q ∷ reverse (take q s))
  pub down : (rows : List Row) → chain_down rows (reverse (take p s)) ≡ chain_down rows (digit_at s q ∷ reverse (take q s))
  pub end : chain_end (reverse (take p s)) ≡ chain_end (digit_at s q ∷ reverse (take q s))

module _ (s : DigitString) (p q : ℕ) (in-s : p ≤ length s) (low : 2 ^ q ≤ places (take p s)) (high : places (take p s) < 2 ^ suc q) where
  pub next : Next s p q
  next = go (highest (take p s) (omega (arith, low, pow_mono {i = 0} {j = q} (omega arith))))
    where
      go : Highest (take p s) → Next s p q
      go h =
          let u = h.under in
          let d = h.digit in
          let k = h.zeros in
          let w = top_mask nonzero d u in
          let m : places (take p s) ≡ places u + 2 ^ length u * 1 = ap places h.is ∙ pad_mask nonzero refl k (top d u) ∙ w ∙ ap (λ (x : ℕ). places u + 2 ^ length u * x) h.counts in
          let small = places_small u in
          let e : length u ≡ q = same (length u) q (one_stretch (length u) q (places (take p s)) (omega arith) high) (one_stretch q (length u) (places (take p s)) low (omega (arith, pow-suc 2 (length u)))) in
          let l : p ≡ q + 1 + k = sym (length-take-le p s in-s) ∙ ap length h.is ∙ pad_places k (top d u) ∙ omega (arith, top_places d u, e) in
          let f : take p s ≡ u ++ (d ∷ replicate k nought) = h.is ∙ append_assoc u (d ∷ []) (replicate k nought) in
          let tu : take q s ≡ u = sym (take-take q p s (omega arith)) ∙ ap (take q) f ∙ take_at u (d ∷ replicate k nought) q e in
          let dd : digit_at s q ≡ d = sym (get_or-take p s q nought (omega arith)) ∙ ap (λ (x : DigitString). digit_at x q) f ∙ get_or_at u d (replicate k nought) nought q e in
          let g : 1 + k ≡ p - q = omega arith in
          let r : d ∷ reverse u ≡ digit_at s q ∷ reverse (take q s) = cc in
          let tr = top_reverse d u in
          record {
            before = omega arith;
            counts = ap nonzero dd ∙ h.counts;
            rest = ap (λ (x : DigitString). places x + 2 ^ q) tu ∙ ap (λ (n : ℕ). places u + 2 ^ n) (sym e) ∙ omega (arith, m);
            chain = λ rows v. ap (λ (x : DigitString). chain_from rows v 1 (reverse x)) h.is ∙ chain_pad rows v k 1 (top d u) ∙ ap (λ (n : ℕ). chain_from rows v n (reverse (top d u))) g ∙ ap (chain_from rows v (p - q)) (tr ∙ r);
            value = λ v. ap (λ (x : DigitString). chain_value v 1 (reverse x)) h.is ∙ value_pad v k 1 (top d u) ∙ ap (λ (n : ℕ). chain_value v n (reverse (top d u))) g ∙ ap (chain_value v (p - q)) (tr ∙ r);
            down = λ rows. ap (λ (x : DigitString). chain_down rows (reverse x)) h.is ∙ down_pad rows k (top d u) ∙ ap (chain_down rows) (tr ∙ r);
            end = ap (λ (x : DigitString). chain_end (reverse x)) h.is ∙ end_pad k (top d u) ∙ ap chain_end (tr ∙ r);
          }
        where
          same : (a b : ℕ) → a ≤ b → b ≤ a → a ≡ b
          same a b x y = omega arith

-- ---- no nonzero digit
no_digit : (t : DigitString) → places t ≡ 0 → stripped t ≡ []
no_digit t h = go (stripped t) refl
  where
    go : (r : DigitString) → stripped t ≡ r → r ≡ []
    go [] e = refl
    go (d ∷ r) e =
        let w = topped d r in
        let c = stripped_high t w.rest w.high (e ∙ w.is) in
        let z = stripped_zeros t in
        let m : places t ≡ places w.rest + 2 ^ length w.rest * 1 = ap places (z.is ∙ ap (pad z.number) (e ∙ w.is)) ∙ pad_mask nonzero refl z.number (top w.high w.rest) ∙ top_mask nonzero w.high w.rest ∙ ap (λ (x : ℕ). places w.rest + 2 ^ length w.rest * x) c in
        absurd (omega (arith, m, h, pow_mono {i = 0} {j = length w.rest} (omega arith)))

pub chain_none : (rows : List Row) (v gap : ℕ) (t : DigitString) → places t ≡ 0 → chain_from rows v gap (reverse t) ≡ rows
unfolding chain_from
chain_none rows v gap t h =
    let z = stripped_zeros t in
    ap (λ (x : DigitString). chain_from rows v gap (reverse x)) (z.is ∙ ap (pad z.number) (no_digit t h)) ∙ chain_pad rows v z.number gap []

pub end_none : (t : DigitString) → places t ≡ 0 → chain_end (reverse t) ≡ 0
unfolding chain_end
end_none t h =
    let z = stripped_zeros t in
    ap (λ (x : DigitString). chain_end (reverse x)) (z.is ∙ ap (pad z.number) (no_digit t h)) ∙ end_pad z.number []
