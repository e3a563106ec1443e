use Rattle.std.proofs.Common.{sym, ◌∙◌}
use Rattle.run_acts.proofs.Leaving.{ending_more}
use Rattle.run_acts.proofs.leave.end_allocas.Goals as goal

pub loop-alloca-preserved : goal.loop-alloca-preserved
loop-alloca-preserved c =
    ending_more c.args.stack.now c.args.memory.now c.loop-alloca.stack c.loop-alloca.memory c.loop-alloca.invariant c.pop_alloca.new.self c.pop_alloca.ensures.others c.in-Some.alloca
    (sym c.in-Some.is ∙ c.pop_alloca.ensures.last) c.release.new.memory c.release.ensures.value c.release.ensures.kept
