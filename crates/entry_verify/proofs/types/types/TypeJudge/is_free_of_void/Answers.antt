use Rattle.std.proofs.Common.{◌∙◌, ap, false, get_or}
use Rattle.type_table.specs.Tree.{void}
use Rattle.type_table.specs.Types.{Types, trees, tree}
use Rattle.type_table.proofs.UnderIds.{get_or-map}
use Rattle.module_arena.specs.TypeTests.{is_free_of_void}
use Rattle.entry_verify.proofs.types.types.TypeJudge.is_free_of_void.Goals as goal

pub returns : goal.returns
returns c =
    c.flag_at.ensures
    ∙ (λ j. get_or ((c.deref.ensures.value ∙ c.self.invariant.voids) j) c.args.ty false)
    ∙ get_or-map is_free_of_void (trees c.self.inside.table.now) c.args.ty void
    ∙ ap (λ (t : Types). is_free_of_void (tree t c.args.ty)) c.self.view_is
