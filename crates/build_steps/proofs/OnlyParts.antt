-- Document 01's words settle the odd parts to be built: no other list has them in order with the earliest tap's choice. Assumes nothing.
use mathlib.Core.Path.{◌≡◌, refl, sym, ap, ◌∙◌, subst}
use mathlib.Core.List.Memᴰ
use mathlib.Core.List.{List, Memᴰ}
use Prim.Native.Nat.{ℕ, ◌≤◌}
use native.Mathlib.Omega.{arith}
use lib.IntN.{ℤ, pos}
use lib.ListN.{length, get_or}
use Rattle.word.proofs.Order.{not_above}
use Rattle.sequence.proofs.Ordered.{in_order_only}
use Rattle.build_steps.specs.Parts.{Part, parts_to_build}
use Rattle.build_steps.specs.PartOrder.{InOrder, HasOddPart, Earliest, PartsInOrder, Before}
use Rattle.build_steps.proofs.Order.{before_apart, before_trans}
use Rattle.build_steps.proofs.PartsInOrder.{parts_in_order}

-- ---- a list in order is fixed by its members
one_way : (p q : Part) → Before p.value q.value → Before q.value p.value → ⊥
one_way p q b c = before_apart p.value p.value (before_trans p.value q.value p.value b c) refl

parts_order_only : (ps qs : List Part) → InOrder ps → InOrder qs → ((p : Part) → Memᴰ p ps → Memᴰ p qs) → ((p : Part) → Memᴰ p qs → Memᴰ p ps) → ps ≡ qs
parts_order_only = in_order_only (λ (p q : Part). Before p.value q.value) one_way InOrder (λ p ps o. o.1) (λ p ps o. o.0)

-- ---- two lists for the same taps have the same members
module _ (cs : List ℤ) (ks : List ℕ) where
  same_part : (p q : Part) → p.value ≡ q.value → Earliest cs ks p → Earliest cs ks q → p ≡ q
  same_part p q e x y =
      let a = not_above x.tap y.tap (λ l. x.not_before y.tap l (subst (HasOddPart (get_or cs y.tap (pos 0))) (sym e) y.has)) in
      let b = not_above y.tap x.tap (λ l. y.not_before x.tap l (subst (HasOddPart (get_or cs x.tap (pos 0))) e x.has)) in
      let t : x.tap ≡ y.tap = omega arith in
      let c : p.choice ≡ q.choice = sym x.choice ∙ ap (λ (i : ℕ). get_or ks i 0) t ∙ y.choice in
      ap (λ (v : ℕ). record { value = v; choice = p.choice }) e ∙ ap (λ (k : ℕ). record { value = q.value; choice = k }) c

  member_too : (ps qs : List Part) → PartsInOrder cs ks ps → PartsInOrder cs ks qs → (p : Part) → Memᴰ p ps → Memᴰ p qs
  member_too ps qs x y p m =
      let e = x.earliest p m in
      let q = y.every e.tap p.value e.within e.has in
      Memᴰ.cast (sym (same_part q.0 p q.2 (y.earliest q.0 q.1) e)) q.1

  -- ---- the theorem
  pub parts_only : length cs ≤ length ks → (ps : List Part) → PartsInOrder cs ks ps → ps ≡ parts_to_build cs ks
  parts_only l ps x =
      let y = parts_in_order cs ks l in
      parts_order_only ps (parts_to_build cs ks) x.in_order y.in_order (member_too ps (parts_to_build cs ks) x y) (member_too (parts_to_build cs ks) ps y x)
