use Rattle.std.proofs.Common.{◌≡◌, ◌-◌, ◌<◌, ◌==◌, false, length, take, drop, get_or, arith, length-drop}
use Rattle.std.proofs.Math.Seq.{take-length}
use Rattle.std.proofs.lemmas.Bool.{ne_eqb}
use Rattle.ir_terminals.specs.Digits.{decimal}
use Rattle.ir_terminals.proofs.Written.{some_digit, zeros_dropped}
use Rattle.ir_terminals.proofs.digits.without_zeros.Goals as goal

pub returns : goal.returns
returns c =
    let i = c.zeros.i in
    let s = c.args.digits.now in
    let same : decimal (drop i s) ≡ decimal s = c.zeros.invariant in
    let some : 0 < decimal (drop i s) = rw same c.requires.some in
    let within : i < length s = some_digit i s some in
    let left : 0 < length (drop i s) = omega (arith, length-drop i s) in
    let whole : take (length s - i) (drop i s) ≡ drop i s = rw (← length-drop i s) (take-length (drop i s)) in
    let other : (get_or s i 0 == 48) ≡ false = ne_eqb (get_or s i 0) 48 (λ e. omega (arith, e)) in
    rw whole (zeros_dropped i s c.requires.digits left same other)
