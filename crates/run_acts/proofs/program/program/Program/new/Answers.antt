use Rattle.std.proofs.Common.{length, ap, ◌∙◌}
use Rattle.module_arena.specs.Lists.{Lists}
use Rattle.run_acts.proofs.OnProgram.Loading.{loaded_new}
use Rattle.run_acts.proofs.program.program.Program.new.Goals as goal

pub invariant_of-program : goal.invariant_of-program
invariant_of-program c =
    loaded_new _ _ _ _ _ c.function_count-count.result c.new-signatures.ensures c.program-module.ensures c.in_ok-heads.ensures c.in_ok-bodies.ensures
    (c.function_count-count.ensures ∙ ap (λ (x : Lists). length x.functions) (c.arena.ensures.arena ∙ c.program-module.ensures))
