use Rattle.std.proofs.Common.{◌∙◌, ap}
use Rattle.type_table.specs.Types.{Types, structs, tree}
use Rattle.module_arena.specs.TypeTests.{is_small_layout, is_passable}
use Rattle.entry_verify.proofs.types.types.TypeJudge.is_passable.Goals as goal

pub returns-in-Some : goal.returns-in-Some
returns-in-Some c = ap is_small_layout c.in-Some.ensures ∙ ap (λ (t : Types). is_passable (structs t) (tree t c.args.ty)) c.self.view_is
