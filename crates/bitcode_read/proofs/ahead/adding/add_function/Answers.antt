use Rattle.module_arena.specs.Changes.{with_function}
use Rattle.bitcode_read.proofs.OnAhead.Whole.{refused_adds}
use Rattle.bitcode_read.proofs.ahead.adding.add_function.Goals as goal

pub returns-in-Err : goal.returns-in-Err
returns-in-Err c = refused_adds c.args.arena.now (with_function c.args.arena.now c.args.function) _ c.args.function.name c.in-Err.fault c.refused.result c.in-Err.ensures.err c.in-Err.ensures.fault c.refused.ensures
