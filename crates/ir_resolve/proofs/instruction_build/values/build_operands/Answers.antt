use Rattle.std.proofs.Common.{map, sym, subst, arith, []}
use Rattle.std.proofs.lemmas.List.{take_all}
use Rattle.ir_phrases.specs.Constants.View.{typed_value_view}
use Rattle.name_rules.specs.Written.{operand_in}
use Rattle.item_build.proofs.OnTypes.Growing.{grows_not, grows_on}
use Rattle.ir_resolve.specs.InstructionBuild.Meant.{IsOperand}
use Rattle.ir_resolve.specs.InstructionBuild.Parts.{value_names, block_names, TakesOperand, Each}
use Rattle.ir_resolve.proofs.OnInstructionBuild.Lists.{each_step}
use Rattle.ir_resolve.proofs.OnInstructionBuild.Standing.{operand_stays}
use Rattle.ir_resolve.proofs.OnInstructionBuild.Taking.{at_mapped, takes_operand}
use Rattle.ir_resolve.proofs.instruction_build.values.build_operands.Goals as goal

pub build_operand-requires-clause-can : goal.build_operand-requires-clause-can
build_operand-requires-clause-can c =
    let here = at_mapped typed_value_view (TakesOperand c.args.builder.now.arena c.args.locals.now) c.args.written.now c.loop-one.one-index c.one-item.result c.loop-one-test.true c.one-item.is c.requires.can in
    takes_operand _ _ c.loop-one.invariant.grows c.args.locals.now (typed_value_view c.one-item.result) here

pub loop-one-init : goal.loop-one-init
loop-one-init c = record {
  grows = grows_not c.args.builder.now.arena;
  so_far = subst (λ os. Each (IsOperand (value_names c.args.locals.now) (block_names c.args.locals.now) c.args.builder.now.arena) os []) (sym c.in_ok-operands.ensures.items) tt;
}

pub loop-one-preserved : goal.loop-one-preserved
loop-one-preserved c =
    let values = value_names c.args.locals.now in
    let blocks = block_names c.args.locals.now in
    record {
      grows = grows_on _ _ _ c.loop-one.invariant.grows c.in_ok-operand.ensures.grows;
      so_far = each_step typed_value_view operand_in c.args.written.now c.loop-one.one-index c.one-item.result c.loop-one-test.true c.one-item.is
          (IsOperand values blocks c.loop-one.builder.arena) (IsOperand values blocks c.build_operand.new.builder.arena) (operand_stays values blocks _ _ c.in_ok-operand.ensures.grows)
          c.loop-one.operands.items _ c.in_ok-operand.operand c.loop-one.invariant.so_far c.in_ok-operand.ensures.is c.in_ok-push.ensures.items;
    }

pub returns-clause-grows : goal.returns-clause-grows
returns-clause-grows c = c.loop-one.invariant.grows

pub returns-clause-are : goal.returns-clause-are
returns-clause-are c =
    let Is = IsOperand (value_names c.args.locals.now) (block_names c.args.locals.now) c.loop-one.builder.arena in
    subst (λ os. Each Is os (map operand_in (map typed_value_view c.args.written.now))) (sym c.from_vec.ensures)
    (subst (λ ws. Each Is c.loop-one.operands.items (map operand_in (map typed_value_view ws))) (take_all c.loop-one.one-index c.args.written.now (omega arith)) c.loop-one.invariant.so_far)
