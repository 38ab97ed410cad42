-- `sheet_input::taps::read_taps` meets its contract. Assumes nothing.
use mathlib.Core.Path.{◌≡◌, sym, ap, ◌∙◌}
use mathlib.Core.List.{List, []}
use Prim.Native.Nat.{ℕ, ◌*◌, ◌/◌, ◌<◌}
use native.Mathlib.Omega.{arith}
use mir.Syntax.{w64}
use Rattle.std.specs.Int.{from_le_bytes}
use lib.Ieee.{nan, binary64, of_bits}
use lib.ListN.{length, get_or, set, take, drop}
use Rattle.sequence.proofs.Front.{front_start, front_next}
use Rattle.sheet_input.specs.Taps.{tap_at_of}
use Rattle.sheet_input.proofs.Bytes.{eight_at, tap_eight}
use Rattle.sheet_input.proofs.taps.read_taps.Goals as goal

pub loop-i-init : goal.loop-i-init
loop-i-init c = sym (front_start (tap_at_of c.args.input.now) c.args.taps.now)

pub loop-i-preserved : goal.loop-i-preserved
unfolding tap_at_of
loop-i-preserved c =
    let s = c.args.input.now in
    let i = c.loop-i.i in
    let inside : i < length s / 8 = omega (arith, c.loop-i-test.true, c.as_chunks.ensures.front_len) in
    let word : get_or c.as_chunks.result.0.now i [] ≡ take 8 (drop (8 * i) s) = ap (λ (l : List (List ℕ)). get_or l i []) c.as_chunks.ensures.front ∙ eight_at (length s / 8) i s inside in
    let tap : c.of_bits.result ≡ tap_at_of s i
    = c.of_bits.ensures ∙ ap (of_bits binary64) (c.from_le_bytes.ensures ∙ ap (from_le_bytes w64) word ∙ tap_eight i s (omega arith)) in
    ap (λ v. set c.loop-i.taps i v) tap ∙ ap (λ t. set t i (tap_at_of s i)) c.loop-i.invariant ∙ front_next (tap_at_of s) c.args.taps.now i nan (omega (arith, c.requires))
