use Rattle.std.proofs.Common.{◌≡◌, length, subst, arith}
use Rattle.module_linker.specs.Filling.Standing.{AreLast}
use Rattle.module_linker.proofs.filling.standing.last_numbers.Goals as goal

pub numbers-init : goal.numbers-init
numbers-init c = λ m x home l lt there defined read. absurd (omega (arith, lt))

pub numbers-preserved : goal.numbers-preserved
numbers-preserved c = c.note_origin.ensures c.args.origins.now c.origin_at.ensures c.numbers.invariant

pub returns : goal.returns
returns c =
    let end : c.numbers.number ≡ length c.args.origins.now = omega (arith, c.numbers-test.false, c.numbers.auto.number-end) in
    subst (λ n. AreLast n c.args.origins.now c.numbers.last.items) end c.numbers.invariant
