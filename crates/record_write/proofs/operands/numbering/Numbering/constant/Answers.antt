use Rattle.std.proofs.Common.{◌≡◌, length, subst}
use Rattle.module_arena.specs.Lists.{Lists}
use Rattle.module_arena.specs.Known.{KnowsConst, counts}
use Rattle.module_arena.specs.Changes.{constant_in}
use Rattle.module_arena.proofs.ConstantsTold.{const_known, constant_here}
use Rattle.record_write.specs.Operands.Numbered.{constant_of}
use Rattle.record_write.proofs.operands.numbering.Numbering.constant.Goals as goal

pub returns-clause-here : goal.returns-clause-here
returns-clause-here c =
    subst (λ (x : Lists). constant_of x c.args.id ≡ constant_in x c.constant.result.now) c.self.view_is
    (constant_here c.self.inside.arena.now c.variable_count-count.ensures.good c.args.id c.constant.result.now c.constant.ensures)

pub returns-clause-known : goal.returns-clause-known
returns-clause-known c =
    subst (λ (x : Lists). KnowsConst (length x.table.types) (counts x) c.args.id c.constant.result.now) c.self.view_is
    (const_known c.self.inside.arena.now c.variable_count-count.ensures.good c.args.id c.constant.result.now c.constant.ensures)
