use Rattle.run_acts.proofs.FirstCalls.{constructor_told}
use Rattle.run_acts.proofs.due.is_constructor.Goals as goal

pub returns : goal.returns
returns c =
    let f = c.args.function.now in
    constructor_told c.args.types.now f.result f.parameters f.variadic c.is_void-gives_nothing.result c.is_empty.result c.is_void-gives_nothing.ensures c.is_empty.ensures
