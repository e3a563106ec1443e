use Rattle.std.proofs.Common.{◌≡◌, subst}
use Rattle.module_arena.specs.Changes.{constant_in}
use Rattle.module_arena.specs.Lists.{Lists}
use Rattle.module_arena.specs.View.{constant_at, constants_of}
use Rattle.module_arena.proofs.ConstantsTold.{constant_here}
use Rattle.entry_verify.proofs.constants.judge.Judge.constant.Goals as goal

pub returns : goal.returns
returns c =
    subst (λ (a : Lists). constant_at (constants_of a) c.args.id ≡ constant_in a c.constant.result.now) c.self.view_is
    (constant_here c.self.inside.arena.now c.self.invariant.good c.args.id c.constant.result.now c.constant.ensures)
