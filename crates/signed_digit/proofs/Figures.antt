-- The figures of specs/Figures.antt, proved.
use mathlib.Core.Path.{◌≡◌, refl, sym, ap, ap₂, ◌∙◌}
use mathlib.Core.List.{List, [], ◌∷◌, ◌++◌, map}
use Prim.Native.Nat.{ℕ, ◌+◌, ◌≤◌}
use native.Mathlib.Omega.{arith}
use lib.IntN.{pos, neg_ℤ}
use lib.ListN.{length, drop, replicate, length-replicate}
use Rattle.refusal.specs.Answer.{Answer, given, filled}
use Rattle.signed_digit.specs.String.{DigitString}
use Rattle.signed_digit.specs.Masks.{plus_mask, minus_mask}
use Rattle.signed_digit.specs.CanonicalForm.{canonical_nat}
use Rattle.signed_digit.specs.Forms.{forms, listing}
use Rattle.signed_digit.specs.Listed.{form_count_of, FormsListed}
use Rattle.signed_digit.specs.Figures.{form, plus45, minus45, Figures}
use Rattle.signed_digit.proofs.Wider.{listing_wider}
use Rattle.signed_digit.proofs.FormCount.{long_enough}

abbrev forms45 : List DigitString
forms45 = form (64 + 1) (16 + 4) ∷ form 64 (16 + 2 + 1) ∷ form (32 + 16 + 1) 4 ∷ form (32 + 16) (2 + 1) ∷ form (32 + 8 + 4 + 1) 0 ∷ []

of_45 : listing 32 (pos 45) ≡ forms45
unfolding listing forms canonical_nat
of_45 = listing_wider 7 24 (pos 45) (omega arith)

-- ---- tables that hold the forms of 45
module _ (plus minus : List ℕ) (hp : 1597 ≤ length plus) (hm : 1597 ≤ length minus) where
  five : form_count_of (pos 45) (length plus) (length minus) ≡ given 5
  five = long_enough (pos 45) (length plus) (length minus) hp hm ∙ ap (λ (l : List DigitString). given (length l)) of_45

  table : (f : DigitString → ℕ) (t : List ℕ) → map f forms45 ++ drop (length (map f forms45)) t ≡ filled (form_count_of (pos 45) (length plus) (length minus)) (map f (listing 32 (pos 45))) t
  table f t =
      sym (ap₂ (λ (a : Answer ℕ) (l : List DigitString). filled a (map f l) t) five of_45)

  tables_45 : FormsListed (pos 45) plus minus (given 5) (plus45 (drop 5 plus)) (minus45 (drop 5 minus))
  tables_45 = record { count = sym five; plus_table = table plus_mask plus; minus_table = table minus_mask minus }

long : 1597 ≤ length (replicate {A = ℕ} 1597 0)
long = omega (arith, length-replicate {A = ℕ} 1597 0)

pub figures : Figures
unfolding listing forms canonical_nat
figures = record {
  of_45 = of_45;
  of_180 = ap length (listing_wider 9 22 (pos 180) (omega arith));
  of_minus_45 = ap length (listing_wider 7 24 (neg_ℤ (pos 45)) (omega arith));
  of_3 = listing_wider 3 28 (pos 3) (omega arith);
  of_11 = listing_wider 5 26 (pos 11) (omega arith);
  of_13 = listing_wider 5 26 (pos 13) (omega arith);
  of_0 = refl;
  of_1 = refl;
  of_greatest = refl;
  of_least = refl;
  tables_45 = tables_45;
  listed_45 = tables_45 (replicate 1597 0) (replicate 1597 0) long long;
  counted_45 = record { number = sym (ap length of_45) };
}
