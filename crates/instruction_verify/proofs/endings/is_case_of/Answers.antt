use Rattle.std.proofs.Common.{◌&&◌, ap, ◌∙◌}
use Rattle.std.specs.Prelude.{is_some}
use Rattle.type_table.specs.Types.{Types, tree}
use Rattle.module_arena.specs.Same.{same_type}
use Rattle.instruction_verify.proofs.endings.is_case_of.Goals as goal

pub returns : goal.returns
returns c =
    let alike = c.same_type.ensures ∙ ap (λ (u : Types). same_type (tree u c.args.case.now.ty) (tree u c.args.ty)) c.types.ensures in
    let number = c.is_some.ensures ∙ ap is_some c.number_of-number.ensures in
    λ j. alike j && number j
