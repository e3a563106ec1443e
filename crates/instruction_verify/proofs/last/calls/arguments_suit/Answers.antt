use Rattle.std.proofs.Common.{◌||◌, ◌&&◌, ◌==◌, ◌∙◌, length, arith}
use Rattle.instruction_verify.proofs.OnLast.CallsTold.{enough, too_few}
use Rattle.instruction_verify.proofs.last.calls.arguments_suit.Goals as goal

pub returns-then-arguments-parameters : goal.returns-then-arguments-parameters
returns-then-arguments-parameters c cs vs bs = too_few c.args.types.now cs vs bs c.args.variadic c.args.parameters.now c.args.arguments.now c.if-arguments-parameters.true

pub returns : goal.returns
returns c cs vs bs =
    (λ j. (c.args.variadic || (length c.args.arguments.now == length c.args.parameters.now)) && c.are_alike.ensures j)
    ∙ enough c.args.types.now cs vs bs c.args.variadic c.args.parameters.now c.args.arguments.now (omega (arith, c.if-arguments-parameters.false))
