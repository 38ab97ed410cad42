-- Demand 3, its first two sentences, of the listing of every 32-bit coefficient n.
use mathlib.Core.Path.{refl}
use lib.IntN.{ℤ}
use lib.ListN.{length}
use Rattle.word.specs.Bounds.{Coefficient}
use Rattle.word.proofs.Bounds.{coefficient_magnitude}
use Rattle.signed_digit.specs.Forms.{listing}
use Rattle.signed_digit.specs.Claims.{ListingComplete}
use Rattle.signed_digit.proofs.Listing.{listing_is}
use Rattle.signed_digit.proofs.Coefficients.{stands_32, count_32}

pub listing_complete : (n : ℤ) → Coefficient n → ListingComplete n (length (listing 32 n)) (listing 32 n)
listing_complete n c =
    let h = coefficient_magnitude n c in
    let l = listing_is 32 n in
    record {
      stands = λ s. (
        λ x. (let m = (stands_32 n h s).0 x in (m.has_value, m.least)),
        λ m. (stands_32 n h s).1 (record { has_value = m.0; least = m.1 }),
      );
      once = l.once;
      in_order = l.ordered;
      number = count_32 n h;
      held = refl;
      places = λ s m. (l.only s m).0;
    }
