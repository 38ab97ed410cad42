-- Links noted one by one, and why there are at most 17 of them. Assumes nothing.
use Rattle.std.proofs.Common.{◌≡◌, ℕ, suc, ◌+◌, ◌*◌, ◌^◌, ◌<◌, ◌≤◌, ◌≢◌, List, [], ◌∷◌, length, take, set, reverse, ap, ◌∙◌, pow-suc, add-one, Bool, true, false, cond, eqb, ◌%◌, lt_of_not-le, le-mul_of_pos_right, arith, pow_pos, pow_mono}
use Rattle.std.proofs.lemmas.List.{take_more_set, reverse-append}
use native.Mathlib.Decide.{dec_le}
use lib.Count.{count_trailing_zeros}
use Rattle.form_walk.specs.declared.Walk.{Walk}
use Rattle.form_walk.specs.Inner.{skip_of, next_of}
use Rattle.form_number.specs.declared.Link.{Link}
use Rattle.form_number.specs.Inner.{link_of, Noted, one_more}

-- what the place k holds comes to those in front of it
front_next : (table : List Link) (k : ℕ) (link : Link) → k < length table → reverse (take (k + 1) (set table k link)) ≡ link ∷ reverse (take k table)
front_next table k link h = ap reverse (take_more_set table k link h) ∙ reverse-append (take k table) (link ∷ [])

-- one link more
pub note_next : (start w v u : Walk) (table : List Link) (k : ℕ) → Noted start (reverse (take k table)) w → w.links ≢ 0 → v ≡ skip_of w → u ≡ next_of v → k < length table
    → (link : Link) → link ≡ link_of v → Noted start (reverse (take (k + 1) (set table k link))) u
note_next start w v u table k N h e f room link q =
    rw (front_next table k link room, q, f, e) (one_more N h)

-- ---- as many forms are made at a link as stand in front of it, at most
-- no more are copied than were made, and none is counted that was not made
pub skip_made : (w : Walk) (made : ℕ) → w.forms ≤ made → w.moved ≤ made → (skip_of w).moved ≤ made
skip_made w made f m = go (eqb (count_trailing_zeros 64 w.links) 0)
  where
    go : (b : Bool) → cond b w.moved w.forms ≤ made
    go true = m
    go false = f

pub next_made : (v : Walk) → ((next_of v).forms ≤ v.forms + v.moved) × ((next_of v).moved ≤ v.forms + v.moved)
next_made v = go (eqb (v.opposite % 2) 1)
  where
    go : (b : Bool) → (cond b (v.forms + v.moved) v.forms ≤ v.forms + v.moved) × (cond b v.forms (v.forms + v.moved) ≤ v.forms + v.moved)
    go true = (omega arith, omega arith)
    go false = (omega arith, omega arith)

-- ---- links stand two places apart at least, and the last below place 34; each doubles the forms at most
pub record Spaced (k : ℕ) (w : Walk) : Type 0 where
  pub few : k ≤ 17
  pub bit : 2 ^ (2 * k) ≤ w.bit
  pub forms : w.forms ≤ 2 ^ k
  pub moved : w.moved ≤ 2 ^ k

module _ (k : ℕ) (w v : Walk) (S : Spaced k w) (e : v ≡ skip_of w) (low : v.bit ≤ 2 ^ 33) where
  further : 2 ^ (2 * k) ≤ v.bit
  further = omega (arith, S.bit, ap (λ (x : Walk). x.bit) e, le-mul_of_pos_right w.bit (pow_pos (count_trailing_zeros 64 w.links)))

  pub some_room : k < 17
  some_room = go (dec_le k 16)
    where
      go : Dec (k ≤ 16) → k < 17
      go (yes l) = omega arith
      go (no l) = absurd (omega (arith, further, pow_mono {i = 34} {j = 2 * k} (omega (arith, lt_of_not-le l))))

  same_forms : v.forms ≤ 2 ^ k
  same_forms = omega (arith, S.forms, ap (λ (x : Walk). x.forms) e)

  pub few_forms : v.forms < 2 ^ 32
  few_forms = omega (arith, same_forms, pow_mono {i = k} {j = 16} (omega (arith, some_room)))

  pub spaced_next : (u : Walk) → u ≡ next_of v → Spaced (k + 1) u
  spaced_next u f =
      let q : 2 * (k + 1) ≡ suc (suc (2 * k)) = omega arith in
      let m : v.moved ≤ 2 ^ k = omega (arith, skip_made w (2 ^ k) S.forms S.moved, ap (λ (x : Walk). x.moved) e) in
      let d : 2 ^ (k + 1) ≡ 2 ^ k * 2 = ap (λ (i : ℕ). 2 ^ i) (add-one k) ∙ pow-suc 2 k in
      let r = next_made v in
      record {
        few = omega (arith, some_room);
        bit = omega (arith, further, ap (λ (x : Walk). x.bit) f, ap (λ (i : ℕ). 2 ^ i) q, pow-suc 2 (2 * k), pow-suc 2 (suc (2 * k)));
        forms = omega (arith, same_forms, m, d, r.0, ap (λ (x : Walk). x.forms) f);
        moved = omega (arith, same_forms, m, d, r.1, ap (λ (x : Walk). x.moved) f);
      }
