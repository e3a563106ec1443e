use Rattle.std.proofs.Common.{refl}
use Rattle.record_read.specs.Fields.{texts_of}
use Rattle.body_read.proofs.OnAhead.Gathering.{parameters_gather}
use Rattle.body_read.proofs.ahead.ahead.gather_record.Goals as goal

pub returns-then-code-eq-PARAMETERS-clause-gathers : goal.returns-then-code-eq-PARAMETERS-clause-gathers
returns-then-code-eq-PARAMETERS-clause-gathers c = λ operands front.
    parameters_gather (texts_of c.args.texts.now) c.args.parameters c.args.voids.now c.args.is_first c.args.code operands c.args.ahead.now _ c.if-code-eq-PARAMETERS.true c.if-is_first.true refl refl (c.in_ok-ahead-2.ensures.names operands front)
