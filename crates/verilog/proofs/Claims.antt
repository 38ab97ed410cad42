-- `meaning_claims`: the claims of specs/Claims.antt. Assumes nothing.
use mathlib.Core.Path.{◌≡◌, refl, sym, ap, subst, ◌∙◌}
use mathlib.Core.Bool.{Bool, true, false, cond, not, ◌&&◌, true≢false}
use mathlib.Core.List.{List, [], ◌∷◌}
use Prim.Native.Nat.{ℕ}
use lib.IntN.{ℤ}
use Rattle.verilog.specs.Reading.{Reading, reads, nothing, when_read}
use Rattle.verilog.specs.Syntax.{Module, same, module_of}
use Rattle.verilog.specs.Sound.{amongst, distinct, within, any_keyword, all_closed, called_in, left_in, targets, nets_of, ordered, sound}
use Rattle.verilog.specs.Meaning.{meaning, Settled, evaluated}
use Rattle.verilog.specs.Claims.{MeaningClaims}
use Rattle.verilog.proofs.Same.{same_equal}
use Rattle.verilog.proofs.Order.{both, evaluated_settles}

-- a text that has a meaning is a sound module
abbrev is_read : {A : Type 0} → Reading A → Bool
is_read (reads a) = true
is_read nothing = false

sound_if : (k m : Module) (b : Bool) → sound k ≡ b → cond b (reads k) nothing ≡ reads m → sound m ≡ true
sound_if k m true e q = let r : k ≡ m = cc in subst (λ (w : Module). sound w ≡ true) r e
sound_if k m false e q = absurd (true≢false (sym (ap is_read q)))

sound_read : (o : Reading Module) (m : Module) → when_read o (λ w. cond (sound w) (reads w) nothing) ≡ reads m → sound m ≡ true
sound_read (reads k) m q = sound_if k m (sound k) refl q
sound_read nothing m q = absurd (true≢false (sym (ap is_read q)))

-- what is not among the names is not among those that all are
outside : (s : List ℕ) (ls names : List (List ℕ)) → within ls names ≡ true → amongst s names ≡ false → amongst s ls ≡ false
outside s [] names w k = refl
outside s (t ∷ ts) names w k = go (amongst t names) refl w (same t s) refl (λ u. outside s ts names u k)
  where
    go : (a : Bool) → amongst t names ≡ a → cond a (within ts names) false ≡ true → (b : Bool) → same t s ≡ b → (within ts names ≡ true → amongst s ts ≡ false)
        → amongst s (t ∷ ts) ≡ false
    go true e u true q f = absurd (true≢false (sym e ∙ ap (λ (z : List ℕ). amongst z names) (same_equal t s q) ∙ k))
    go true e u false q f = rw q (f u)
    go false e u b q f = absurd (true≢false (sym u))

-- nets have names of their own, so the input's is not an output's or a wire's
apart : (b d : Bool) → cond b false d ≡ true → b ≡ false
apart true d e = absurd (true≢false (sym e))
apart false d e = refl

-- the second, the third and the last of six
chosen : (a b c d e f : Bool) → (a && b && c && d && e && f) ≡ true → (b ≡ true) × (c ≡ true) × (f ≡ true)
chosen a b c d e f q =
    let last = both (a && b && c && d && e) f q in
    let fifth = both (a && b && c && d) e last.0 in
    let fourth = both (a && b && c) d fifth.0 in
    let third = both (a && b) c fourth.0 in
    ((both a b third.0).1, third.1, last.1)

module _ (m : Module) where
  abbrev input_name : List ℕ
  input_name = m.input.called

  sound_parts : sound m ≡ true → (amongst input_name (left_in m.assigns) ≡ false) × (ordered m.assigns ≡ true)
  unfolding sound
  sound_parts e =
      let nets = called_in (nets_of m) in
      let its = called_in (targets m) in
      let lefts = left_in m.assigns in
      let w = chosen (not (any_keyword (m.called ∷ nets))) (distinct nets) (within lefts its) (within its lefts) (all_closed nets m.assigns) (ordered m.assigns) e in
      (outside input_name lefts its w.1 (apart (amongst input_name its) (distinct its) w.0), w.2)

in_order : (text : List ℕ) (m : Module) → meaning text ≡ reads m → (x : ℤ) → Settled m x (evaluated m x)
in_order text m e x = let p = sound_parts m (sound_read (module_of text) m e) in evaluated_settles m x p.1 p.0

pub meaning_claims : MeaningClaims
meaning_claims = record { in_order = in_order }
