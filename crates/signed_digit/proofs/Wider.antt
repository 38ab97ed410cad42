-- More places bring leading zeros to the listing and nothing else.
use mathlib.Core.Path.{◌≡◌, ap, sym, ◌∙◌}
use mathlib.Core.List.Memᴰ
use mathlib.Core.List.{map, Memᴰ}
use mathlib.Core.Logic.{◌↔◌}
use Prim.Native.Nat.{ℕ, suc, ◌+◌, ◌≤◌, ◌^◌}
use native.Mathlib.Omega.{arith}
use lib.IntN.{ℤ, nat_abs}
use lib.ListN.{length}
use Rattle.signed_digit.specs.Digit.{nonzero}
use Rattle.signed_digit.specs.String.{DigitString}
use Rattle.signed_digit.specs.Same.{stripped}
use Rattle.signed_digit.specs.Minimal.{Minimal}
use Rattle.signed_digit.specs.Order.{Earlier}
use Rattle.signed_digit.specs.Listing.{StandsIn}
use Rattle.signed_digit.specs.Forms.{listing}
use Rattle.signed_digit.proofs.Strings.{pad, pad_places, pad_digit}
use Rattle.signed_digit.proofs.Same.{pad_same}
use Rattle.signed_digit.proofs.Pairs.{pairs_map}
use Rattle.signed_digit.proofs.Listing.{listing_is, listing_unique, listing_stands, stands_listing}

earlier_pad : (q : ℕ) (s t : DigitString) → Earlier s t → Earlier (pad q s) (pad q t)
earlier_pad q s t e = record {
  place = e.place;
  nonzero_here = ap nonzero (pad_digit q s e.place) ∙ e.nonzero_here;
  zero_there = pad_digit q t e.place ∙ e.zero_there;
  same_above = λ i h. pad_digit q s i ∙ e.same_above i h ∙ sym (pad_digit q t i);
}

module _ (p q : ℕ) (n : ℤ) (h : nat_abs n ≤ 2 ^ p) where
  places : (s : DigitString) → Memᴰ s (map (pad q) (listing (suc p) n)) → length s ≡ suc p + q
  places s m =
      let y = Memᴰ.of_map (pad q) (listing (suc p) n) m in
      omega (arith, ap length y.2, pad_places q y.0, ((listing_is (suc p) n).only y.0 y.1).0)

  stands : (s : DigitString) → StandsIn s (map (pad q) (listing (suc p) n)) ↔ Minimal n s
  stands s = (
    λ y. (let z = Memᴰ.of_map (pad q) (listing (suc p) n) y.1 in (listing_stands p n h s).0 (z.0, z.1, sym (pad_same q z.0) ∙ ap stripped z.2 ∙ y.2)),
    λ m. (let y = (listing_stands p n h s).1 m in (pad q y.0, Memᴰ.map (pad q) y.1, pad_same q y.0 ∙ y.2)),
  )

  pub listing_wider : listing (suc p + q) n ≡ map (pad q) (listing (suc p) n)
  listing_wider =
      let o = pairs_map Earlier Earlier (pad q) (listing (suc p) n) (λ s t i j. earlier_pad q s t) (listing_is (suc p) n).ordered in
      sym (listing_unique (suc p + q) n (map (pad q) (listing (suc p) n)) (stands_listing (suc p + q) n (map (pad q) (listing (suc p) n)) places stands o))
