-- Registers and outputs while samples pass, one by one and four by four. Assumes nothing.
use mathlib.Core.Path.{◌≡◌, refl, sym, ap, subst, ◌∙◌}
use mathlib.Core.List.{List, [], ◌∷◌, ◌++◌}
use Prim.Native.Nat.{ℕ, suc, ◌+◌, ◌<◌, ◌≤◌, ◌^◌}
use native.Mathlib.Omega.{arith}
use lib.IntN.{ℤ, pos, ◌+ℤ◌, ◌*ℤ◌}
use lib.ListN.{length, get_or, take, drop}
use borrow.Rule.Slice.PartMut.{put_mid}
use Rattle.std.proofs.lemmas.Slice.{put_mid-paste}
use Rattle.std.proofs.Math.Seq.{take-length}
use Rattle.std.proofs.lemmas.List.{drop-drop, take_all}
use Rattle.std.proofs.Math.ListN.{drop_of_length-le}
use Rattle.std.proofs.Common.{append-nil, append_assoc, length-drop, ap₂}
use lib.Seq.{drop-cons, sets, sets-eq}
use Rattle.sequence.specs.Inner.{front}
use Rattle.run_convolution.specs.Running.{next, outputs_of, registers_of}
use Rattle.run_convolution.specs.Sums.{held}
use Rattle.run_convolution.specs.Bounds.{Words}
use Rattle.run_convolution.proofs.Words.{wrapped_lt}
use Rattle.run_convolution.proofs.Steps.{held_next, next_drop, length_next, length_outputs}
use Rattle.run_tables.specs.Inner.{Raised, after4, ZeroFrom}
use Rattle.run_tables.proofs.ZeroFrom.{zero_from_four}
use Rattle.run_moves.proofs.Moves.{moved_all}
use Rattle.run_kernel.specs.Inner.{Passed}

-- ---- four samples

module _ (h xs : List ℤ) (r : List ℕ) (i : ℕ) (l : i + 4 ≤ length xs) where
  abbrev x0 : ℤ
  x0 = get_or xs i (pos 0)

  abbrev x1 : ℤ
  x1 = get_or xs (i + 1) (pos 0)

  abbrev x2 : ℤ
  x2 = get_or xs (i + 2) (pos 0)

  abbrev x3 : ℤ
  x3 = get_or xs (i + 3) (pos 0)

  drop_four : drop i xs ≡ x0 ∷ x1 ∷ x2 ∷ x3 ∷ drop (i + 4) xs
  drop_four =
      let q1 : i + 1 ≡ suc i = omega arith in
      let q2 : i + 2 ≡ suc (suc i) = omega arith in
      let q3 : i + 3 ≡ suc (suc (suc i)) = omega arith in
      let q4 : i + 4 ≡ suc (suc (suc (suc i))) = omega arith in
      rw (q1, q2, q3, q4) (drop-cons xs i (pos 0) (omega (arith, l)) ∙ ap (λ t. get_or xs i (pos 0) ∷ t) (drop-cons xs (suc i) (pos 0) (omega (arith, l))
      ∙ ap (λ t. get_or xs (suc i) (pos 0) ∷ t) (drop-cons xs (suc (suc i)) (pos 0) (omega (arith, l))
      ∙ ap (λ t. get_or xs (suc (suc i)) (pos 0) ∷ t) (drop-cons xs (suc (suc (suc i))) (pos 0) (omega (arith, l))))))

  four_registers : registers_of h (after4 h x0 x1 x2 x3 r) (drop (i + 4) xs) ≡ registers_of h r (drop i xs)
  unfolding registers_of
  four_registers = ap (registers_of h r) (sym drop_four)

  four_outputs : (outs news : List ℤ) → news ≡ sets outs i (outputs_of h r (x0 ∷ x1 ∷ x2 ∷ x3 ∷ []))
      → sets news (i + 4) (outputs_of h (after4 h x0 x1 x2 x3 r) (drop (i + 4) xs)) ≡ sets outs i (outputs_of h r (drop i xs))
  unfolding outputs_of
  four_outputs outs news p =
      let q4 : i + 4 ≡ suc (suc (suc (suc i))) = omega arith in
      ap (λ o. sets o (i + 4) (outputs_of h (after4 h x0 x1 x2 x3 r) (drop (i + 4) xs))) p
      ∙ ap (λ k. sets (sets outs i (outputs_of h r (x0 ∷ x1 ∷ x2 ∷ x3 ∷ []))) k (outputs_of h (after4 h x0 x1 x2 x3 r) (drop (i + 4) xs))) q4
      ∙ ap (λ d. sets outs i (outputs_of h r d)) (sym drop_four)

length_four : (h : List ℤ) (x0 x1 x2 x3 : ℤ) (r : List ℕ) → 256 ≤ length r → length (after4 h x0 x1 x2 x3 r) ≡ length r
length_four h x0 x1 x2 x3 r l =
    let e0 : length (next h x0 r) ≡ length r = length_next h x0 r l in
    let e1 : length (next h x1 (next h x0 r)) ≡ length r = length_next h x1 (next h x0 r) (omega arith) ∙ e0 in
    let e2 : length (next h x2 (next h x1 (next h x0 r))) ≡ length r = length_next h x2 (next h x1 (next h x0 r)) (omega arith) ∙ e1 in
    length_next h x3 (next h x2 (next h x1 (next h x0 r))) (omega arith) ∙ e2

next_word : (h : List ℤ) → length h ≤ 256 → (x : ℤ) (r : List ℕ) (k : ℕ) → held (next h x r) k < 2 ^ 64
next_word h few x r k = rw (held_next h few x r k) (wrapped_lt (pos (held r (suc k)) +ℤ get_or h (suc k) (pos 0) *ℤ x))

-- outputs written to a part are those set there
pub sets_mid : (outs os : List ℤ) (i k : ℕ) → length os ≡ k → i + k ≤ length outs → put_mid i k outs os ≡ sets outs i os
sets_mid outs os i k e l =
    put_mid-paste i k outs os os (length os) refl e refl ∙ ap (λ t. take i outs ++ t ++ drop (i + length os) outs) (take-length os) ∙ sym (sets-eq os outs i (omega arith))

-- outputs written to the rest, where it has more places than they are
pub sets_rest : (outs os new : List ℤ) (i k : ℕ) → i + k ≡ length outs → length new ≡ k → length os ≤ k
    → new ≡ os ++ drop (length os) (take k (drop i outs)) → put_mid i k outs new ≡ sets outs i os
sets_rest outs os new i k e m l f =
    let whole : take k (drop i outs) ≡ drop i outs = take_all k (drop i outs) (omega (arith, length-drop i outs)) in
    let tail : drop (length os) (take k (drop i outs)) ≡ drop (i + length os) outs = ap (drop (length os)) whole ∙ drop-drop (length os) i outs in
    put_mid-paste i k outs new new k refl refl (sym m)
    ∙ ap₂ (λ s t. take i outs ++ s ++ t) (take_all k new (omega arith)) (drop_of_length-le outs (omega arith))
    ∙ append-nil (take i outs ++ new) ∙ ap (λ t. take i outs ++ t) (f ∙ ap (λ t. os ++ t) tail) ∙ sym (append_assoc (take i outs) os (drop (i + length os) outs))
    ∙ sym (sets-eq os outs i (omega arith))

module _ (h : List ℤ) (few : length h ≤ 256) (w : ℕ) (v r : List ℕ) (xs outs : List ℤ) where
  pub passed_none : (words : List ℕ) → ZeroFrom w h r → Raised w v 0 r words → Passed h w v r xs outs 0 0 words outs
  passed_none words q f = record { registers = r; zero_from = q; size = refl; past = refl; fit = λ l. absurd (omega arith); raised = f; to_come_lem = refl; outputs = refl }

  -- four samples more
  pub passed_four : (i g n : ℕ) (words new : List ℕ) (news outputs four os : List ℤ) → i + 4 ≤ length xs → 256 ≤ length r → length xs ≤ length news → four ≡ get_or xs i (pos 0) ∷ get_or xs (i + 1) (pos 0) ∷ get_or xs (i + 2) (pos 0) ∷ get_or xs (i + 3) (pos 0) ∷ []
      → ((s : List ℕ) → ZeroFrom w h s → Raised w v g s words → (Raised w v n (registers_of h s four) new) × (os ≡ outputs_of h s four))
      → outputs ≡ put_mid i 4 news os → Passed h w v r xs outs i g words news → Passed h w v r xs outs (i + 4) n new outputs
  unfolding registers_of
  passed_four i g n words new news outputs four os l b m e f o p =
      let s = p.registers in
      let y0 = get_or xs i (pos 0) in
      let y1 = get_or xs (i + 1) (pos 0) in
      let y2 = get_or xs (i + 2) (pos 0) in
      let y3 = get_or xs (i + 3) (pos 0) in
      let step = f s p.zero_from p.raised in
      let k : length os ≡ 4 = ap length step.1 ∙ length_outputs h s four ∙ ap length e in
      let q : outputs ≡ sets news i (outputs_of h s (y0 ∷ y1 ∷ y2 ∷ y3 ∷ [])) =
      o ∙ sets_mid news os i 4 k (omega arith) ∙ ap (sets news i) (step.1 ∙ ap (outputs_of h s) e) in
      record {
        registers = after4 h y0 y1 y2 y3 s;
        zero_from = zero_from_four h few w y0 y1 y2 y3 s p.zero_from;
        size = length_four h y0 y1 y2 y3 s (omega (arith, b, p.size)) ∙ p.size;
        past = next_drop h y3 _ ∙ next_drop h y2 _ ∙ next_drop h y1 _ ∙ next_drop h y0 s ∙ p.past;
        fit = λ m k. next_word h few y3 (next h y2 (next h y1 (next h y0 s))) k;
        raised = subst (λ x. Raised w v n (registers_of h s x) new) e step.0;
        to_come_lem = four_registers h xs s i l ∙ p.to_come_lem;
        outputs = four_outputs h xs s i l news outputs q ∙ p.outputs;
      }

-- the same coefficients by another name
pub passed_same : {g h : List ℤ} {w : ℕ} {v r : List ℕ} {xs outs : List ℤ} {i bias : ℕ} {words : List ℕ} {news : List ℤ} → g ≡ h
    → Passed g w v r xs outs i bias words news → Passed h w v r xs outs i bias words news
passed_same {w = w} {v = v} {r = r} {xs = xs} {outs = outs} {i = i} {bias = bias} {words = words} {news = news} e p = subst (λ f. Passed f w v r xs outs i bias words news) e p

-- the registers that the words stand for, once they are lowered
pub lowered_to : {h : List ℤ} {w : ℕ} {v r : List ℕ} {xs outs : List ℤ} {i bias : ℕ} {words : List ℕ} {news : List ℤ} → length h ≡ 256 → 256 ≤ length r → w ≤ 256 → 0 < i
    → ZeroFrom w h r → (p : Passed h w v r xs outs i bias words news) → (new : List ℕ)
    → ((s : List ℕ) → Words s → Raised w v bias s words → new ≡ front (held s) r w) → new ≡ p.registers
lowered_to {h = h} {w = w} {r = r} n l b k q p new f =
    moved_all h (omega arith) w r p.registers l b q p.zero_from p.size p.past new (f p.registers (p.fit k) p.raised)

module _ {h : List ℤ} {w : ℕ} {v r : List ℕ} {xs outs : List ℤ} {i bias : ℕ} {words : List ℕ} {news : List ℤ} (p : Passed h w v r xs outs i bias words news) {new : List ℕ} (e : new ≡ p.registers) where
  pub passed_zero_from : ZeroFrom w h new
  passed_zero_from = subst (ZeroFrom w h) (sym e) p.zero_from

  pub passed_registers : registers_of h new (drop i xs) ≡ registers_of h r xs
  passed_registers = ap (λ s. registers_of h s (drop i xs)) e ∙ p.to_come_lem

  pub passed_outputs : sets news i (outputs_of h new (drop i xs)) ≡ sets outs 0 (outputs_of h r xs)
  passed_outputs = ap (λ s. sets news i (outputs_of h s (drop i xs))) e ∙ p.outputs
