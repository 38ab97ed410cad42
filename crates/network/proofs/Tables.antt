-- Rows as records, and the layouts of rows and of tap rows, which proofs/Items.antt has the laws of. Assumes nothing.
use mathlib.Core.Path.{◌≡◌, refl, ap, ◌∙◌}
use Prim.Native.Nat.{ℕ, ◌+◌, ◌*◌}
use mathlib.Core.List.{List}
use native.Mathlib.Omega.{arith}
use lib.ListN.{get_or}
use Rattle.sequence.specs.UpTo.{up_to}
use Rattle.network.specs.declared.Row.{Row}
use Rattle.network.specs.Rows.{row_words, words_of_row, row_at, tap_words, words_of_tap_row, tap_row_at}
use Rattle.network.proofs.Items.{Layout}

-- two rows with the same fields
pub same_row : (r q : Row) → r.left ≡ q.left → r.right ≡ q.right → r.shift ≡ q.shift → r.sign ≡ q.sign → r.value ≡ q.value → r ≡ q
same_row r q a b c d e =
    ap (λ (x : ℕ). record { left = x; right = r.right; shift = r.shift; sign = r.sign; value = r.value }) a
    ∙ ap (λ (x : ℕ). record { left = q.left; right = x; shift = r.shift; sign = r.sign; value = r.value }) b
    ∙ ap (λ (x : ℕ). record { left = q.left; right = q.right; shift = x; sign = r.sign; value = r.value }) c
    ∙ ap (λ (x : ℕ). record { left = q.left; right = q.right; shift = q.shift; sign = x; value = r.value }) d
    ∙ ap (λ (x : ℕ). record { left = q.left; right = q.right; shift = q.shift; sign = q.sign; value = x }) e

-- two words of the same number: the first of an item is written without an addition
word : (s t : List ℕ) (a b k : ℕ) → get_or s (a + k) 0 ≡ get_or t (b + k) 0 → (x y : ℕ) → x ≡ a + k → y ≡ b + k → get_or s x 0 ≡ get_or t y 0
word s t a b k e x y p q = rw (p, q) e

pub row_layout : Layout row_words words_of_row row_at
unfolding up_to
row_layout =
    record {
      size = λ r. refl;
      there = λ r rest. refl;
      back = λ t. refl;
      same = λ s t i j h. cc (
        word s t (row_words * i) (row_words * j) 0 (h 0 (omega arith)) (row_words * i) (row_words * j) (omega arith) (omega arith),
        h 1 (omega arith),
        h 2 (omega arith),
        h 3 (omega arith),
        h 4 (omega arith),
      );
    }

pub tap_layout : Layout tap_words words_of_tap_row tap_row_at
unfolding up_to
tap_layout =
    record {
      size = λ r. refl;
      there = λ r rest. refl;
      back = λ t. refl;
      same = λ s t i j h. cc (
        word s t (tap_words * i) (tap_words * j) 0 (h 0 (omega arith)) (tap_words * i) (tap_words * j) (omega arith) (omega arith),
        h 1 (omega arith),
        h 2 (omega arith),
      );
    }
