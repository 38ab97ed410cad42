-- `form_listing::minimal_forms` meets its contract. A table under 1597 elements is turned down and left as it was; else `list` writes the listing of n and
-- returns its length, which a u32 holds, being at most 1597. Assumes nothing.
use Rattle.std.proofs.Common.{◌≡◌, ℕ, List, ◌++◌, map, length, drop, ℤ, sym, ap, ◌∙◌, arith}
use mathlib.Core.Logic.{⊎_elim}
use Rattle.refusal.specs.Answer.{refused}
use Rattle.signed_digit.specs.Listed.{form_count_of}
use Rattle.signed_digit.specs.String.{DigitString}
use Rattle.signed_digit.specs.Masks.{plus_mask, minus_mask}
use Rattle.signed_digit.specs.Forms.{listing}
use Rattle.word.proofs.Bounds.{i32_coefficient, coefficient_magnitude}
use Rattle.signed_digit.proofs.Coefficients.{at_most_1597}
use Rattle.signed_digit.proofs.FormCount.{plus_short, minus_short}
use Rattle.form_listing.proofs.Machine.{read_once}
use Rattle.form_listing.proofs.Entry.{untouched, answered, left}
use Rattle.form_listing.proofs.minimal_forms.Goals as goal

-- a table that the lister leaves
table : (n : ℤ) (f : DigitString → ℕ) (t new : List ℕ) (z : ℤ) → z ≡ n → new ≡ map f (listing 32 z) ++ drop (length (listing 32 z)) t
    → new ≡ map f (listing 32 n) ++ drop (length (listing 32 n)) t
table n f t new z e h = h ∙ ap (λ (i : ℤ). map f (listing 32 i) ++ drop (length (listing 32 i)) t) e

pub returns-then-plus-lt-MOST_FORMS : goal.returns-then-plus-lt-MOST_FORMS
returns-then-plus-lt-MOST_FORMS c =
    let n = c.args.n in
    let plus = c.args.plus.now in
    let minus = c.args.minus.now in
    let e : form_count_of n (length plus) (length minus) ≡ refused 3 0 =
    ⊎_elim (λ p. plus_short n (length plus) (length minus) (omega (arith, p)))
    (λ m. minus_short n (length plus) (length minus) (omega (arith, m.0)) (omega (arith, m.1)))
    c.then-plus-lt-MOST_FORMS.either in
    record { count = sym e; plus_table = untouched _ 3 0 _ plus e; minus_table = untouched _ 3 0 _ minus e }

pub returns : goal.returns
returns c =
    let n = c.args.n in
    let plus = c.args.plus.now in
    let minus = c.args.minus.now in
    let long_plus = c.if-plus-lt-MOST_FORMS.false in
    let long_minus = c.if-minus-lt-MOST_FORMS.false in
    let k = read_once n c.ranges.n in
    record {
      count = answered n plus minus long_plus long_minus c.list.result (c.list.ensures.count ∙ ap (λ (z : ℤ). length (listing 32 z)) k);
      plus_table = left n plus minus long_plus long_minus plus_mask plus c.list.new.plus (table n plus_mask plus c.list.new.plus _ k c.list.ensures.plus);
      minus_table = left n plus minus long_plus long_minus minus_mask minus c.list.new.minus (table n minus_mask minus c.list.new.minus _ k c.list.ensures.minus);
    }

pub overflow_cast-result : goal.overflow_cast-result
overflow_cast-result c =
    let e = c.list.ensures.count ∙ ap (λ (z : ℤ). length (listing 32 z)) (read_once c.args.n c.ranges.n) in
    record { fits = omega (arith, e, at_most_1597 c.args.n (coefficient_magnitude c.args.n (i32_coefficient c.args.n c.ranges.n))) }
