-- What is promised of the text of a network: it multiplies by the coefficients h, and does as running does. Document 02, request 1: "evaluating the text for a
-- 16-bit input gives every tap's product, as running does". Definitions only.
use Rattle.std.specs.Prelude.{◌≡◌, true, cond, List, [], ◌∷◌, ℕ, zero, suc, ◌+◌, ◌%◌, ◌^◌, ◌<◌, ltb, ℤ, pos, ◌*ℤ◌, length, get_or}
use Rattle.std.specs.Int.{w16, w64}
use Rattle.std.proofs.Common.{SFits, to_z}
use Rattle.run_convolution.specs.Running.{outputs_of, registers_of}
use Rattle.text.specs.Ascii.{ascii}
use Rattle.text.specs.Numbers.{decimal}
use Rattle.verilog.specs.Reading.{reads}
use Rattle.verilog.specs.Syntax.{Net, Module, net_of}
use Rattle.verilog.specs.Values.{Values}
use Rattle.verilog.specs.Meaning.{meaning, Settled, Agree, evaluated}

-- ---- the outputs

-- t0, t1, .. by name: 116 is `t`
abbrev pub tap_net : ℕ → List ℕ
tap_net k = 116 ∷ decimal k

-- n nets of 64 bits, signed, each called by a letter and a number, from number i on
abbrev pub nets_from : (letter i n : ℕ) → List Net
nets_from letter i zero = []
nets_from letter i (suc n) = net_of (letter ∷ decimal i) 64 true ∷ nets_from letter (suc i) n

-- ---- the text multiplies

-- for one input: evaluating the assigns in their order settles the module, nothing else does, and every output, read as signed, is its coefficient times the input
pub record Products (m : Module) (h : List ℤ) (x : ℤ) : Type 0 where
  pub settled : Settled m x (evaluated m x)
  pub alone : (v : Values) → Settled m x v → Agree m v (evaluated m x)
  pub product : (k : ℕ) → k < length h → to_z w64 (evaluated m x (tap_net k)) ≡ get_or h k (pos 0) *ℤ x

-- the text is a module `smoother` with an input x of 16 bits and an output t0, t1, .. of 64 bits for each coefficient, all signed, and multiplies every 16-bit input
pub record Multiplies (text : List ℕ) (h : List ℤ) : Type 0 where
  pub means : Module
  pub meant : meaning text ≡ reads means
  pub called : means.called ≡ ascii "smoother"
  pub input : means.input ≡ net_of (ascii "x") 16 true
  pub outputs : means.outputs ≡ nets_from 116 0 (length h)
  pub products : (x : ℤ) → SFits w16 x → Products means h x

-- ---- as running does

-- t(k) of m taps; 0 past the last
abbrev pub tap_of : ℕ → Values → ℕ → ℕ
tap_of m v k = cond (ltb k m) (v (tap_net k)) 0

-- one sample x through running with the coefficients h, from the registers r, beside values v of the text: the output is r(0) + t0, "then each r(k) becomes
-- r(k+1)" + t(k+1), both modulo 2^64, "and r255 becomes 0"
pub record AsRunning (h : List ℤ) (r : List ℕ) (x : ℤ) (v : Values) : Type 0 where
  pub output : outputs_of h r (x ∷ []) ≡ to_z w64 ((get_or r 0 0 + tap_of (length h) v 0) % 2 ^ 64) ∷ []
  pub registers : (k : ℕ) → k < 255 → get_or (registers_of h r (x ∷ [])) k 0 ≡ (get_or r (suc k) 0 + tap_of (length h) v (suc k)) % 2 ^ 64
  pub last : get_or (registers_of h r (x ∷ [])) 255 0 ≡ 0

-- from cleared registers the output is t0 and register k is t(k+1)
pub record FromCleared (h : List ℤ) (x : ℤ) (v : Values) (r : List ℕ) : Type 0 where
  pub output : outputs_of h r (x ∷ []) ≡ to_z w64 (v (tap_net 0)) ∷ []
  pub registers : (k : ℕ) → k < 255 → get_or (registers_of h r (x ∷ [])) k 0 ≡ tap_of (length h) v (suc k)
