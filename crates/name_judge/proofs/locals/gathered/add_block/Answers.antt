use Rattle.std.proofs.Common.{true, List, [], ◌∷◌, map, subst}
use Rattle.std.specs.Prelude.{flat_map, OnOk}
use Rattle.std.proofs.lemmas.Result.{on_ok_weaker}
use Rattle.ir_phrases.specs.declared.instructions.block.Instruction.{Instruction}
use Rattle.ir_phrases.specs.Instructions.View.{instruction_view}
use Rattle.name_rules.specs.Locals.{announced_result}
use Rattle.name_judge.specs.Locals.Names.{Announces}
use Rattle.name_judge.proofs.OnLocals.Named.{announces_both}
use Rattle.name_judge.proofs.locals.gathered.add_block.Goals as goal

pub returns : goal.returns
returns c =
    let block = c.args.block.now in
    on_ok_weaker c.add_results.result (λ added. announces_both _ _ _ ((true, block.label) ∷ []) (flat_map announced_result (map instruction_view block.instructions.items)) c.in_ok-put.ensures added)
    (subst (λ (xs : List Instruction). OnOk c.add_results.result (Announces c.put.new.self c.add_results.new.names (flat_map announced_result (map instruction_view xs)))) c.deref.ensures.value c.add_results.ensures)
