-- Texts by number, one more at a time, as a loop writes them. Assumes nothing.
use mathlib.Core.Path.{◌≡◌, sym, ap, ◌∙◌}
use mathlib.Core.Logic.{⊎_elim}
use mathlib.Core.List.{List, [], ◌∷◌, ◌++◌, append_assoc, append-nil}
use Prim.Native.Nat.{ℕ, zero, suc, ◌+◌, ◌*◌, ◌≤◌, ◌<◌}
use native.Mathlib.Omega.{arith}
use native.Mathlib.Numerals.{add-one}
use lib.ListN.{length, get_or, length-append}
use Rattle.sequence.specs.UpTo.{up_to}
use Rattle.sequence.proofs.UpTo.{length_up_to}
use Rattle.word.proofs.Order.{lt_or_le}
use Rattle.text.specs.Lines.{lines_from, numbered_from}
use Rattle.text.specs.declared.Writer.{Writer}
use Rattle.text.specs.Inner.{Wrote, WroteAll}
use Rattle.text.proofs.Puts.{put_none}

-- ---- the lines of a list
module _ {A : Type 0} (line_of : ℕ → A → List ℕ) where
  lines_more : (i : ℕ) (xs : List A) (x : A) → lines_from line_of i (xs ++ (x ∷ [])) ≡ lines_from line_of i xs ++ line_of (i + length xs) x
  unfolding lines_from
  lines_more i [] x = let e : i + 0 ≡ i = omega arith in rw e (append-nil (line_of i x))
  lines_more i (y ∷ xs) x =
      let e : suc i + length xs ≡ i + suc (length xs) = omega arith in
      ap (λ (l : List ℕ). line_of i y ++ l) (lines_more (suc i) xs x ∙ ap (λ (k : ℕ). lines_from line_of (suc i) xs ++ line_of k x) e)
      ∙ sym (append_assoc (line_of i y) (lines_from line_of (suc i) xs) (line_of (i + suc (length xs)) x))

  -- one line more
  pub lines_next : (f : ℕ → A) (n : ℕ) → lines_from line_of 0 (up_to (n + 1) f) ≡ lines_from line_of 0 (up_to n f) ++ line_of n (f n)
  unfolding up_to
  lines_next f n =
      let e : 0 + length (up_to n f) ≡ n = omega (arith, length_up_to n f) in
      ap (λ (k : ℕ). lines_from line_of 0 (up_to k f)) (add-one n) ∙ lines_more 0 (up_to n f) (f n) ∙ ap (λ (k : ℕ). lines_from line_of 0 (up_to n f) ++ line_of k (f n)) e

-- before the first line
pub nothing_put : {A : Type 0} (line_of : ℕ → A → List ℕ) (f : ℕ → A) (u : Writer) → Wrote u (lines_from line_of 0 (up_to 0 f)) 0 u
unfolding up_to lines_from
nothing_put line_of f u = put_none u

-- lines of at most k bytes
pub lines_within : {A : Type 0} (line_of : ℕ → A → List ℕ) (none : A) (k i : ℕ) (xs : List A) → ((j : ℕ) → j < length xs → length (line_of (i + j) (get_or xs j none)) ≤ k)
    → length (lines_from line_of i xs) ≤ k * length xs
unfolding lines_from
lines_within line_of none k i [] h = omega arith
lines_within line_of none k i (x ∷ xs) h =
    let e : i + 0 ≡ i = omega arith in
    let first = rw e at (h 0 (omega arith)) in
    let rest = lines_within line_of none k (suc i) xs (λ j l. later j (h (suc j) (omega arith))) in
    let c : k * suc (length xs) ≡ k + k * length xs = omega arith in
    omega (arith, first, length-append (line_of i x) (lines_from line_of (suc i) xs))
  where
    later : (j : ℕ) → length (line_of (i + suc j) (get_or xs j none)) ≤ k → length (line_of (suc i + j) (get_or xs j none)) ≤ k
    later j h = let e : suc i + j ≡ i + suc j = omega arith in rw e h

-- ---- the texts of numbers
module _ (text_of : ℕ → List ℕ) where
  numbered_more : (i n : ℕ) → numbered_from text_of i (suc n) ≡ numbered_from text_of i n ++ text_of (i + n)
  unfolding numbered_from
  numbered_more i zero = let e : i + 0 ≡ i = omega arith in rw e (append-nil (text_of i))
  numbered_more i (suc n) =
      let e : suc i + n ≡ i + suc n = omega arith in
      ap (λ (l : List ℕ). text_of i ++ l) (numbered_more (suc i) n ∙ ap (λ (k : ℕ). numbered_from text_of (suc i) n ++ text_of k) e)
      ∙ sym (append_assoc (text_of i) (numbered_from text_of (suc i) n) (text_of (i + suc n)))

  -- one number more
  pub numbered_next : (n : ℕ) → numbered_from text_of 0 (n + 1) ≡ numbered_from text_of 0 n ++ text_of n
  numbered_next n =
      let e : 0 + n ≡ n = omega arith in
      ap (numbered_from text_of 0) (add-one n) ∙ numbered_more 0 n ∙ ap (λ (k : ℕ). numbered_from text_of 0 n ++ text_of k) e

  -- before the first number
  pub none_put : (u : Writer) → WroteAll u (numbered_from text_of 0 0) u
  unfolding numbered_from
  none_put u = put_none u

-- ---- room for one more: of texts that grow piece by piece, the first i and the next piece are no longer than the first n, i being below n
module _ (grown : ℕ → List ℕ) (piece : ℕ → List ℕ) (next : (n : ℕ) → grown (n + 1) ≡ grown n ++ piece n) where
  pub length_next : (n : ℕ) → length (grown (n + 1)) ≡ length (grown n) + length (piece n)
  length_next n = ap length (next n) ∙ length-append (grown n) (piece n)

  pub room_next : (i n : ℕ) → i < n → length (grown i) + length (piece i) ≤ length (grown n)
  room_next i zero h = absurd (omega arith)
  room_next i (suc n) h =
      let e : length (grown (suc n)) ≡ length (grown n) + length (piece n) = ap (λ (k : ℕ). length (grown k)) (sym (add-one n)) ∙ length_next n in
      ⊎_elim (λ a. omega (arith, room_next i n a))
      (λ (b : n ≤ i). let k : i ≡ n = omega (arith, b, h) in rw k (omega (arith, e)))
      (lt_or_le i n)
