use Rattle.std.proofs.Common.{◌<◌, ◌+◌, length, get_or, refl, arith}
use Rattle.std.proofs.lemmas.List.{length-set}
use Rattle.instruction_verify.proofs.OnUses.Counted.{counted_next}
use Rattle.instruction_verify.proofs.uses.counts.count.Goals as goal

pub numbers-preserved : goal.numbers-preserved
numbers-preserved c =
    let xs = c.args.numbers.now in
    let i = c.numbers.number-index in
    let counts = c.numbers.counts in
    let x = get_or xs i 0 in
    let lt : i < length xs = omega arith in
    let long = length-set counts x (get_or counts x 0 + 1) in
    let within = c.requires.known i 0 lt in
    let known : x < length counts = omega (arith, c.numbers.invariant.0, within) in
    (omega (arith, long, c.numbers.invariant.0), counted_next xs i lt counts known (get_or counts x 0 + 1) refl c.numbers.invariant.1)
