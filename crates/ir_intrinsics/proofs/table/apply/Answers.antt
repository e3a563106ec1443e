use Rattle.std.proofs.Common.{sym, subst}
use Rattle.ir_eval.specs.Value.{IsInteger}
use Rattle.ir_intrinsics.specs.Operands.{IsOperand, second_width}
use Rattle.ir_intrinsics.specs.Kinds.{IsOutcome}
use Rattle.ir_intrinsics.proofs.ResultKinds.{numbers_kind, operand_below}
use Rattle.ir_intrinsics.proofs.table.apply.Goals as goal

pub returns-in-Int-Int-Int-clause-kind : goal.returns-in-Int-Int-Int-clause-kind
returns-in-Int-Int-Int-clause-kind c =
    let found = c.in-Int-Int-Int in
    let is_a = subst (λ leaf. IsInteger c.args.width leaf) found.is-0 c.requires.a in
    let is_b = subst (λ leaf. IsOperand (second_width c.args.which c.args.width) leaf) found.is-1 c.requires.b in
    subst (λ outcome. IsOutcome c.args.which c.args.width outcome) (sym c.numbers.ensures)
    (numbers_kind c.args.which c.args.width found.a found.b found.c c.requires.width is_a (operand_below c.args.which c.args.width found.b c.requires.width is_b))
