-- The text of a network that keeps the rules multiplies (`text_multiplies`), and does as running does (`text_as_running`, `text_from_cleared`). Assumes nothing.
use borrow.Author.Tests.{lt-ltb, le-ltb}
use mathlib.Core.Path.{◌≡◌, refl, sym, ap, subst, ◌∙◌}
use mathlib.Core.Bool.{Bool, cond}
use mathlib.Core.List.{List, [], ◌∷◌}
use mathlib.Core.Logic.{⊎_elim}
use Prim.Native.Nat.{ℕ, suc, ◌+◌, ◌%◌, ◌^◌, ◌≤◌, ◌<◌}
use native.Mathlib.Omega.{arith}
use lib.IntN.{ℤ, pos, ◌+ℤ◌, ◌*ℤ◌, zero-*ℤ}
use lib.ListN.{length, get_or, length-map, get_or-eq_default}
use mir.Syntax.{w16, w64}
use mir.Val.{SFits, to_z}
use Rattle.word.proofs.Bounds.{coefficient_i32}
use Rattle.word.proofs.Order.{lt_or_le}
use Rattle.network.specs.Rows.{Network}
use Rattle.network.specs.Coefficients.{coefficient_of}
use Rattle.network.specs.Accepted.{KeepsRules}
use Rattle.network.proofs.Given.{coefficient_is, coefficient_within}
use Rattle.run_convolution.specs.Words.{wrapped}
use Rattle.run_convolution.specs.Running.{sum_at, registers_of, outputs_of}
use Rattle.run_convolution.proofs.Words.{wrapped_add, wrapped_lt, wrapped_exact}
use Rattle.run_convolution.proofs.Sizes.{product_fits}
use Rattle.run_convolution.proofs.Steps.{next_low, next_last}
use Rattle.verilog.specs.Reading.{Reading, reads, nothing, when_read}
use Rattle.verilog.specs.Syntax.{Module}
use Rattle.verilog.specs.Sound.{sound}
use Rattle.verilog.specs.Values.{Values}
use Rattle.verilog.specs.Meaning.{meaning, Settled, evaluated}
use Rattle.verilog.proofs.Claims.{meaning_claims}
use Rattle.verilog_text.specs.Text.{verilog_text_of}
use Rattle.verilog_text.specs.Promise.{tap_net, nets_from, Products, Multiplies, tap_of, AsRunning, FromCleared}
use Rattle.verilog_text.proofs.Expected.{module_for}
use Rattle.verilog_text.proofs.Parsing.{module_of_text}
use Rattle.verilog_text.proofs.Soundness.{text_sound}
use Rattle.verilog_text.proofs.Products.{settled_right}
use Rattle.verilog_text.proofs.Settling.{settled_alone}

-- a sum of any number and a word, as a word
wrapped_plus : (n : ℕ) (z : ℤ) → (n + wrapped z) % 2 ^ 64 ≡ wrapped (pos n +ℤ z)
wrapped_plus n z = let e : (n + wrapped z) % 2 ^ 64 ≡ (n % 2 ^ 64 + wrapped z) % 2 ^ 64 = omega arith in e ∙ wrapped_add (pos n) z

module _ (net : Network) (h : List ℤ) (passed : KeepsRules net h) where
  many : length h ≡ length net.taps
  many = ap length passed.result ∙ length-map net.taps (coefficient_of net.rows)

  text_meant : meaning (verilog_text_of net) ≡ reads (module_for net)
  text_meant =
      ap (λ (o : Reading Module). when_read o (λ m. cond (sound m) (reads m) nothing)) (module_of_text net)
      ∙ ap (λ (b : Bool). cond b (reads (module_for net)) nothing) (text_sound net h passed)

  in_order : (x : ℤ) → Settled (module_for net) x (evaluated (module_for net) x)
  in_order = meaning_claims.in_order (verilog_text_of net) (module_for net) text_meant

  module _ (x : ℤ) (fits : SFits w16 x) where
    -- whatever settles the text has at t(k) the pattern of h(k)·x
    tap_pattern : (v : Values) → Settled (module_for net) x v → (k : ℕ) → k < length h → v (tap_net k) ≡ wrapped (get_or h k (pos 0) *ℤ x)
    tap_pattern v s k l =
        (settled_right net h passed x fits v s).taps k (omega (arith, many)) ∙ ap (λ (c : ℤ). wrapped (c *ℤ x)) (sym (coefficient_is net h passed k))

    text_products : Products (module_for net) h x
    text_products =
        record {
          settled = in_order x;
          alone = λ v s. settled_alone net h passed x fits v (evaluated (module_for net) x) s (in_order x);
          product = λ k l.
              ap (to_z w64) (tap_pattern (evaluated (module_for net) x) (in_order x) k l)
              ∙ wrapped_exact (get_or h k (pos 0) *ℤ x) (product_fits (get_or h k (pos 0)) x (coefficient_i32 (get_or h k (pos 0)) (coefficient_within net h passed k (omega (arith, many)))) fits);
        }

  pub text_multiplies : Multiplies (verilog_text_of net) h
  text_multiplies =
      record {
        means = module_for net;
        meant = text_meant;
        called = refl;
        input = refl;
        outputs = ap (nets_from 116 0) (sym many);
        products = text_products;
      }

  same_module : (m : Module) → meaning (verilog_text_of net) ≡ reads m → module_for net ≡ m
  same_module m e = let q : reads (module_for net) ≡ reads m = sym text_meant ∙ e in cc

  -- ---- whatever settles the text's module does as running does
  module _ (m : Module) (e : meaning (verilog_text_of net) ≡ reads m) (x : ℤ) (fits : SFits w16 x) (v : Values) (s : Settled m x v) where
    settled : Settled (module_for net) x v
    settled = subst (λ (w : Module). Settled w x v) (sym (same_module m e)) s

    -- t(k), or 0 past the last tap, is h(k)·x, h(k) being 0 past the last
    tap_is : (k : ℕ) → tap_of (length h) v k ≡ wrapped (get_or h k (pos 0) *ℤ x)
    tap_is k =
        ⊎_elim (λ (a : k < length h). rw (lt-ltb k (length h) a) (tap_pattern x fits v settled k a))
        (λ (b : length h ≤ k). rw (le-ltb k (length h) b) (sym (ap (λ (c : ℤ). wrapped (c *ℤ x)) (get_or-eq_default h (pos 0) b) ∙ ap wrapped (zero-*ℤ x))))
        (lt_or_le k (length h))

    module _ (r : List ℕ) where
      sum_is : (k : ℕ) → sum_at h x r k ≡ (get_or r k 0 + tap_of (length h) v k) % 2 ^ 64
      unfolding sum_at
      sum_is k = sym (ap (λ (t : ℕ). (get_or r k 0 + t) % 2 ^ 64) (tap_is k) ∙ wrapped_plus (get_or r k 0) (get_or h k (pos 0) *ℤ x))

      pub text_as_running : AsRunning h r x v
      unfolding outputs_of registers_of
      text_as_running =
          record {
            output = ap (λ (n : ℕ). to_z w64 n ∷ []) (sum_is 0);
            registers = λ k l. next_low h x r k l ∙ sum_is (suc k);
            last = next_last h x r;
          }

      module _ (some : 1 ≤ length h) (clear : (k : ℕ) → get_or r k 0 ≡ 0) where
        from_zero : (k : ℕ) → (get_or r k 0 + tap_of (length h) v k) % 2 ^ 64 ≡ tap_of (length h) v k
        from_zero k =
            let t : tap_of (length h) v k < 2 ^ 64 = omega (arith, tap_is k, wrapped_lt (get_or h k (pos 0) *ℤ x)) in
            ap (λ (n : ℕ). (n + tap_of (length h) v k) % 2 ^ 64) (clear k) ∙ omega (arith, t)

        pub text_from_cleared : FromCleared h x v r
        text_from_cleared =
            let first : tap_of (length h) v 0 ≡ v (tap_net 0) = rw (lt-ltb 0 (length h) (omega arith)) in
            record {
              output = text_as_running.output ∙ ap (λ (n : ℕ). to_z w64 n ∷ []) (from_zero 0 ∙ first);
              registers = λ k l. text_as_running.registers k l ∙ from_zero (suc k);
            }
