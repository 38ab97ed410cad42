-- `form_walk::Walk::skip` meets its contract. 2 to the number of zeros below the next link is at most `links`, so that `bit` shifted by it is at most `bit` times `links` and no bit is lost. Assumes nothing.
use Rattle.std.proofs.Common.{◌≡◌, ◌*◌, ◌≤◌, ◌%◌, ◌^◌, refl, arith}
use Rattle.std.proofs.Math.Nat.{mul-le-mul_left, pos_of_ne-zero}
use lib.Count.{count_trailing_zeros}
use Rattle.word.proofs.LowZeros.{zeros_power}
use Rattle.form_walk.proofs.Parts.{walk}
use Rattle.form_walk.proofs.Walk.skip.Goals as goal

pub returns : goal.returns
returns c =
    let w = c.args.self in
    let z = count_trailing_zeros 64 w.links in
    let least : 2 ^ z ≤ w.links = zeros_power 64 w.links (omega arith) (pos_of_ne-zero c.requires.0) in
    let p : w.bit * 2 ^ z ≤ w.bit * w.links = mul-le-mul_left w.bit least in
    let b : w.bit * 2 ^ z % 2 ^ 64 ≡ w.bit * 2 ^ z = omega (arith, p, c.requires.2) in
    walk refl refl b refl c.choose.ensures
