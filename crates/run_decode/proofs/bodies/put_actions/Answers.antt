use Rattle.std.proofs.Common.{List, map, subst, ◌∙◌, arith}
use Rattle.std.proofs.lemmas.List.{take_all}
use Rattle.module_arena.specs.declared.instruction.Inst.{Inst}
use Rattle.run_decode.proofs.OnFlat.Growth.{grows_none, grows_then}
use Rattle.run_decode.proofs.OnSignatures.Numbered.{numbers_none, numbers_then}
use Rattle.run_decode.specs.Operations.{action_from}
use Rattle.run_decode.specs.Rows.{AddsActions}
use Rattle.run_decode.proofs.Rowed.{adds_more, adds_nothing}
use Rattle.run_decode.proofs.bodies.put_actions.Goals as goal

pub instructions-init : goal.instructions-init
instructions-init c = record {
  grows = grows_none c.args.pools.now;
  numbers = numbers_none c.args.signatures.now;
  numbered = c.requires.numbered;
  actions = adds_nothing c.args.scope.now c.args.pools.now c.args.actions.now c.args.instructions.now;
}

pub put_instruction-requires-clause-lists : goal.put_instruction-requires-clause-lists
put_instruction-requires-clause-lists c = c.instructions.invariant.numbers.lists ∙ c.requires.lists

pub instructions-preserved : goal.instructions-preserved
instructions-preserved c = record {
  grows = grows_then c.args.pools.now c.instructions.pools c.put_instruction.new.pools c.instructions.invariant.grows c.in_ok-action.ensures.grows;
  numbers = numbers_then c.args.signatures.now c.instructions.signatures c.put_instruction.new.signatures c.instructions.invariant.numbers c.put_instruction.ensures.numbers;
  numbered = c.in_ok-action.ensures.numbered;
  actions =
      adds_more c.args.scope.now c.instructions.pools c.put_instruction.new.pools c.args.actions.now c.instructions.actions c.push.new.self c.in_ok-action.action c.args.instructions.now c.instructions.instruction-index c.instruction-item.result c.instruction-item.result c.in_ok-action.ensures.grows
      c.instructions-test.true c.instruction-item.is c.in_ok-push.ensures.items c.in_ok-action.ensures.action c.instructions.invariant.actions;
}

pub returns-clause-actions : goal.returns-clause-actions
returns-clause-actions c =
    subst (λ (is : List Inst). AddsActions c.args.scope.now c.instructions.pools c.args.actions.now c.instructions.actions (map (action_from c.args.scope.now) is))
    (take_all c.instructions.instruction-index c.args.instructions.now (omega arith)) c.instructions.invariant.actions
