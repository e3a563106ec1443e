use Rattle.std.proofs.Common.{◌≡◌, subst}
use Rattle.type_table.specs.Types.{Types, names, trees, tree_of, tree}
use Rattle.module_arena.proofs.HostTypesAgree.{tree_here}
use Rattle.entry_verify.proofs.types.types.TypeJudge.get.Goals as goal

pub returns : goal.returns
returns c =
    subst (λ (t : Types). tree t c.args.ty ≡ tree_of (names t) (trees t) c.get.result.now) c.self.view_is
    (tree_here c.self.inside.table.now c.args.ty c.get.result.now c.self.invariant.good c.get.ensures)
