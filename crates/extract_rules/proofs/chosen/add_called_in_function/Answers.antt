use Rattle.extract_rules.proofs.Called.{callees_known}
use Rattle.extract_rules.proofs.chosen.add_called_in_function.Goals as goal

pub add_called_in_blocks-requires-clause-known : goal.add_called_in_blocks-requires-clause-known
add_called_in_blocks-requires-clause-known c =
    callees_known c.args.arena.now c.variable_count-count.ensures.good c.args.id c.function.result.now c.in-Some.body c.as_slice.result.now c.function.ensures c.in-Some.is c.as_slice.ensures
