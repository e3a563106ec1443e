use Rattle.std.proofs.Common.{◌≡◌, ◌/◌, pos, negsuc, ◌-ℤ◌, true, arith, rules}
use Rattle.std.specs.Int.{w64}
use Rattle.std.specs.Int.Signed.{le_z}
use Rattle.std.specs.Prelude.{FitsSigned}
use Rattle.std.proofs.lemmas.Int.{to_z-of_z, to_z_pos}
use Rattle.ir_eval.proofs.Words.{fits_signed_is, below_zero_fits}
use Rattle.ir_eval.proofs.short.fits_signed.Goals as goal

pub returns-then-most-number : goal.returns-then-most-number
returns-then-most-number c =
    let known : FitsSigned w64 c.in-Some.number = search rules in
    let number = to_z-of_z w64 c.in-Some.number known in
    let most = to_z_pos w64 (c.greatest.result / 2) (omega arith) in
    let least = to_z-of_z w64 (negsuc 0 -ℤ pos (c.greatest.result / 2)) (below_zero_fits w64 (c.greatest.result / 2) (omega arith)) in
    let above : le_z (negsuc 0 -ℤ pos (c.greatest.result / 2)) c.in-Some.number ≡ true = rw (most, least, number) at c.if-most-number.true in
    rw (number, most, c.in-Some.is) (fits_signed_is c.args.width c.greatest.result c.in-Some.number c.requires.width c.greatest.ensures above)
