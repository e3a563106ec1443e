use Rattle.std.proofs.Common.{◌||◌, List, nat_eq, sym, ap, ◌∙◌}
use Rattle.std.specs.Prelude.{◌==◌}
use Rattle.std.specs.List.{list_any}
use Rattle.module_arena.specs.Mentions.{targets_of}
use Rattle.module_arena.specs.declared.instruction.Case.{Case}
use Rattle.module_arena.specs.declared.instruction.Ending.{Ending}
use Rattle.instruction_verify.proofs.OnUses.Entered.{any_target}
use Rattle.instruction_verify.proofs.uses.first_block.goes_to_first.Goals as goal

pub returns-in-Switch : goal.returns-in-Switch
returns-in-Switch c =
    (λ j. nat_eq (c.number-in-Switch.ensures j) 0
    || (c.has_case_to_first-by_case.ensures
    ∙ ap (λ (cases : List Case). list_any (λ (x : Case). x.target == 0) cases) c.as_slice.ensures
    ∙ any_target 0 c.in-Switch.cases) j)
    ∙ ap (λ (e : Ending). list_any (λ t. t == 0) (targets_of e)) (sym c.in-Switch.is)
