-- One running call: from registers that are the sums over the samples so far to registers that are the sums after it. Assumes nothing.
use mathlib.Core.Path.{◌≡◌, refl, sym, ap, ap₂, ◌∙◌, subst}
use mathlib.Core.List.{List, [], ◌++◌, reverse, map}
use Prim.Native.Nat.{ℕ, ◌+◌, ◌<◌, ◌≤◌}
use native.Mathlib.Omega.{arith}
use lib.IntN.{ℤ, pos}
use lib.ListN.{length, get_or, take, drop, length-map, get_or-map}
use lib.Seq.{ext_get_or}
use mir.Syntax.{w16, w32, w64}
use mir.Val.{to_z}
use Rattle.refusal.specs.Answer.{Answer, given, refused, stored, filled}
use Rattle.sequence.specs.UpTo.{up_to}
use Rattle.sequence.proofs.UpTo.{length_up_to, get_d_up_to}
use Rattle.run_convolution.specs.Bounds.{Within}
use Rattle.run_convolution.specs.Running.{registers_of, outputs_of}
use Rattle.run_convolution.specs.Sums.{output_sums, register_sum, held}
use Rattle.run_convolution.proofs.Steps.{length_registers, drop_registers, length_sums}
use Rattle.run_convolution.proofs.Theorems.{Holds, Cleared, holds_after, within_after, register_exact, outputs_exact}
use Rattle.network.specs.Check.{outcome}
use Rattle.run_calls.specs.Run.{run_registers, run_outputs}
use Rattle.run_calls.specs.Memory.{Lending, lent, overwritten, memory}
use Rattle.run_calls.proofs.Stretches.{length_lent, same_memory, first_256, past_256, held_lent, beyond_stays, registers_new, held_first, length_first}

-- the memory after a call that was answered so, by what `run` leaves
abbrev pub after_by : Answer (List ℤ) → List ℕ → Lending → List ℕ
after_by a r l = overwritten l.start (run_registers a l.call.samples (lent r l)) (memory r l)

-- what is so between two calls, after the samples xs: 256 registers, the sums over xs modulo 2^64
pub record Between (h : List ℤ) (r₀ : List ℕ) (xs : List ℤ) (r : List ℕ) : Type 0 where
  pub size : length r ≡ 256
  pub samples : Within w16 (reverse xs)
  pub holds : Holds h r₀ xs r

module _ (h : List ℤ) (few : length h ≤ 256) (sized : Within w32 h) (r₀ : List ℕ) (clear : Cleared r₀) where
  -- the registers read as signed are the sums
  pub registers_are : (xs : List ℤ) (r : List ℕ) → Between h r₀ xs r → map (to_z w64) r ≡ up_to 256 (register_sum h xs)
  registers_are xs r b =
      ext_get_or (pos 0) (map (to_z w64) r) (up_to 256 (register_sum h xs)) (length-map r (to_z w64) ∙ b.size ∙ sym (length_up_to 256 (register_sum h xs))) at
    where
      at : (k : ℕ) → k < length (map (to_z w64) r) → get_or (map (to_z w64) r) k (pos 0) ≡ get_or (up_to 256 (register_sum h xs)) k (pos 0)
      at k l =
          let u : k < 256 = omega (arith, length-map r (to_z w64), b.size) in
          get_or-map (to_z w64) r k 0 ∙ register_exact h few sized r₀ clear xs r b.samples b.holds k u ∙ sym (get_d_up_to 256 (register_sum h xs) (pos 0) k u)

  module _ (xs : List ℤ) (r : List ℕ) (b : Between h r₀ xs r) (l : Lending) (room : l.start + l.call.registers ≤ 256 + length l.beyond) (fit : Within w16 l.call.samples) where
    abbrev ys : List ℤ
    ys = l.call.samples

    module _ (long : 256 ≤ l.call.registers) (whole : l.start ≡ 0) where
      fits : l.call.registers ≤ 256 + length l.beyond
      fits = omega (arith, room, whole)

      lent_holds : Holds h r₀ xs (lent r l)
      lent_holds k = held_lent r l.beyond b.size l.start l.call.registers whole fits long k ∙ b.holds k

      abbrev new : List ℕ
      new = registers_of h (lent r l) ys

      length_new : length new ≡ l.call.registers
      length_new =
          let e = length_lent r l.beyond b.size l.start l.call.registers room in
          length_registers h (lent r l) ys (omega arith) ∙ e

      accepted_first : take 256 (after_by (given h) r l) ≡ take 256 new
      accepted_first = registers_new r l.beyond b.size l.start l.call.registers whole fits new long length_new (drop_registers h (lent r l) ys)

      accepted_holds : Holds h r₀ (xs ++ ys) (take 256 (after_by (given h) r l))
      accepted_holds k = ap (λ t. held t k) accepted_first ∙ held_first new k ∙ holds_after h few r₀ ys xs (lent r l) lent_holds k

      accepted_size : length (take 256 (after_by (given h) r l)) ≡ 256
      accepted_size = ap length accepted_first ∙ length_first new (omega (arith, length_new))

    -- an accepted call lends 256 registers from the first on and is handed a network with the coefficients h
    abbrev Told : Answer (List ℤ) → Type 0
    Told a = (g : List ℤ) → a ≡ given g → ((256 ≤ l.call.registers) × (l.start ≡ 0)) × (g ≡ h)

    -- the memory after a call that was turned down
    refused_memory : (number place : ℕ) → after_by (refused number place) r l ≡ memory r l
    refused_memory number place = same_memory r l.beyond b.size l.start l.call.registers room

    pub between : (a : Answer (List ℤ)) → Told a → Between h r₀ (stored a (λ (g : List ℤ). xs ++ ys) xs) (take 256 (after_by a r l))
    between (given g) t =
        let long = (t g refl).0.0 in
        let whole = (t g refl).0.1 in
        subst (λ (f : List ℤ). Between h r₀ (xs ++ ys) (take 256 (after_by (given f) r l))) (sym (t g refl).1)
        (record { size = accepted_size long whole; samples = within_after ys xs b.samples fit; holds = accepted_holds long whole })
    between (refused number place) t =
        subst (Between h r₀ xs) (sym (ap (take 256) (refused_memory number place) ∙ first_256 r l.beyond b.size)) b

    pub outputs : (a : Answer (List ℤ)) → Told a
        → run_outputs a ys (lent r l) l.held ≡ filled (outcome a) (stored a (λ (g : List ℤ). output_sums h xs ys) []) l.held
    outputs (given g) t =
        ap (λ (f : List ℤ). outputs_of f (lent r l) ys ++ drop (length ys) l.held) (t g refl).1
        ∙ ap₂ (λ (s : List ℤ) (n : ℕ). s ++ drop n l.held) (outputs_exact h few sized r₀ clear ys xs (lent r l) b.samples fit (lent_holds (t g refl).0.0 (t g refl).0.1))
        (sym (length_sums h xs ys))
    outputs (refused number place) t = refl

    pub beyond : (a : Answer (List ℤ)) → Told a → drop 256 (after_by a r l) ≡ l.beyond
    beyond (given g) t =
        let long = (t g refl).0.0 in
        let whole = (t g refl).0.1 in
        ap (λ (f : List ℤ). drop 256 (after_by (given f) r l)) (t g refl).1
        ∙ beyond_stays r l.beyond b.size l.start l.call.registers whole (fits long whole) (new long whole) long (length_new long whole) (drop_registers h (lent r l) ys)
    beyond (refused number place) t = ap (drop 256) (refused_memory number place) ∙ past_256 r l.beyond b.size
