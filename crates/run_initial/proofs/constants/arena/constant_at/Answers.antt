use Rattle.std.proofs.Common.{◌≡◌, ◌<◌, ◌∙◌, length, sym, subst}
use Rattle.module_arena.specs.Changes.{constant_in}
use Rattle.module_arena.specs.Known.{KnowsConst, counts}
use Rattle.module_arena.specs.Lists.{Lists}
use Rattle.module_arena.proofs.ConstantsTold.{const_known, constant_here}
use Rattle.run_initial.specs.Constants.Sound.{constant_of}
use Rattle.run_initial.proofs.constants.arena.constant_at.Goals as goal

pub constant-requires : goal.constant-requires
constant-requires c = subst (λ (x : Lists). c.args.id < length x.constants) (sym (c.arena-arena.ensures.arena ∙ c.program.ensures)) c.requires

pub returns-clause-here : goal.returns-clause-here
returns-clause-here c =
    subst (λ (x : Lists). constant_of x c.args.id ≡ constant_in x c.constant.result.now) (c.arena-arena.ensures.arena ∙ c.program.ensures)
    (constant_here c.arena-arena.result.now c.variable_count-count.ensures.good c.args.id c.constant.result.now c.constant.ensures)

pub returns-clause-known : goal.returns-clause-known
returns-clause-known c =
    subst (λ (x : Lists). KnowsConst (length x.table.types) (counts x) c.args.id c.constant.result.now) (c.arena-arena.ensures.arena ∙ c.program.ensures)
    (const_known c.arena-arena.result.now c.variable_count-count.ensures.good c.args.id c.constant.result.now c.constant.ensures)
