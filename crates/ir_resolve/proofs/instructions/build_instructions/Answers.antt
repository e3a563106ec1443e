use Rattle.std.proofs.Common.{◌+◌, ◌++◌, ◌∷◌, [], map, flat_map, take, refl, sym, ap, subst, ◌∙◌, arith}
use Rattle.std.specs.List.{sum_by}
use Rattle.std.proofs.lemmas.List.{take_all}
use Rattle.ir_phrases.specs.declared.instructions.block.Instruction.{Instruction}
use Rattle.ir_phrases.specs.Instructions.View.{instruction_view}
use Rattle.type_table.specs.Types.{structs}
use Rattle.module_arena.specs.Mentions.{result_of}
use Rattle.module_arena.specs.Known.{upto}
use Rattle.name_rules.specs.Locals.{has_result}
use Rattle.item_build.specs.Types.Holding.{entries}
use Rattle.item_build.proofs.OnTypes.Growing.{grows_not, grows_on}
use Rattle.item_build.proofs.OnTypes.Staying.{at_item}
use Rattle.item_build.specs.Buildable.Bodies.{CanInstruction}
use Rattle.ir_resolve.specs.InstructionBuild.Named.{called_of, built}
use Rattle.ir_resolve.specs.Built.{result_count, instructions_built, AreInsts}
use Rattle.ir_resolve.proofs.Meaning.{instructions_more, result_le}
use Rattle.ir_resolve.proofs.Order.{upto_none, in_order_step, one_in_order}
use Rattle.ir_resolve.proofs.Partial.{map_step, sum_step}
use Rattle.ir_resolve.proofs.Staying.{insts_more, instruction_still}
use Rattle.ir_resolve.proofs.instructions.build_instructions.Goals as goal

pub loop-instruction-init : goal.loop-instruction-init
loop-instruction-init c =
    let values = called_of c.args.locals.now.values.names.items in
    let labels = called_of c.args.locals.now.blocks.names.items in
    let none = c.in_ok-list.ensures.items in
    record {
      grows = grows_not c.args.builder.now.arena;
      so_far = subst (λ is. AreInsts values labels c.args.builder.now.arena is []) (sym none) (record { known = λ k d lt. absurd (omega arith); instructions = refl });
      in_order = ap (flat_map result_of) none ∙ sym (upto_none c.args.first);
      next = omega arith;
      bound = omega arith;
    }

pub build_instruction-requires : goal.build_instruction-requires
build_instruction-requires c =
    let a = c.args.builder.now.arena in
    let values = called_of c.args.locals.now.values.names.items in
    let labels = called_of c.args.locals.now.blocks.names.items in
    let here = at_item (λ (i : Instruction). CanInstruction (structs a.table) (entries a) values labels (instruction_view i)) c.args.written.now c.loop-instruction.instruction-index c.instruction-item.result c.loop-instruction-test.true c.instruction-item.is c.requires.can in
    record {
      can = instruction_still _ _ c.loop-instruction.invariant.grows values labels (instruction_view c.instruction-item.result) here;
      few_values = c.requires.few_values;
      few_blocks = c.requires.few_blocks;
    }

pub loop-instruction-preserved : goal.loop-instruction-preserved
loop-instruction-preserved c =
    let xs = c.args.written.now in
    let i = c.loop-instruction.instruction-index in
    let x = c.instruction-item.result in
    let tree = instruction_view x in
    let done = map instruction_view (take i xs) in
    let first = c.args.first in
    let values = called_of c.args.locals.now.values.names.items in
    let labels = called_of c.args.locals.now.blocks.names.items in
    let so_far = c.loop-instruction.invariant in
    let one = c.in_ok-inst.ensures in
    let lt = c.loop-instruction-test.true in
    let is = c.instruction-item.is in
    let sum = sum_step instruction_view xs i result_count x lt is in
    let next = so_far.next in
    let behind = c.value_behind-next.ensures in
    let le = result_le tree in
    let bound = so_far.bound in
    let at_next = ap (λ n. built values n tree) next in
    let whole = ap (instructions_built values first) (map_step instruction_view xs i x lt is) ∙ instructions_more values first done tree in
    let pushed = c.in_ok-push.ensures.items in
    let given = one_in_order (has_result tree) c.loop-instruction.next _ one.gives ∙ ap (λ n. upto n (result_count tree)) next in
    record {
      grows = grows_on _ _ _ so_far.grows one.grows;
      so_far = subst (AreInsts values labels c.build_instruction.new.builder.arena _) (ap (λ e. instructions_built values first done ++ e ∷ []) at_next ∙ sym whole)
          (insts_more _ _ one.grows values labels c.loop-instruction.list.items _ c.in_ok-inst.inst _ (built values c.loop-instruction.next tree) pushed so_far.so_far one.is);
      in_order = in_order_step result_of c.loop-instruction.list.items _ c.in_ok-inst.inst pushed first (sum_by result_count done) (result_count tree) so_far.in_order given ∙ ap (upto first) (sym sum);
      next = omega (arith, behind, next, sum);
      bound = omega (arith, behind, le, bound);
    }

pub returns : goal.returns
returns c =
    let all = ap (map instruction_view) (take_all c.loop-instruction.instruction-index c.args.written.now (omega arith)) in
    let values = called_of c.args.locals.now.values.names.items in
    let labels = called_of c.args.locals.now.blocks.names.items in
    let so_far = c.loop-instruction.invariant in
    let list = c.from_vec.ensures in
    record {
      grows = so_far.grows;
      are = subst (λ is. AreInsts values labels c.loop-instruction.builder.arena is (instructions_built values c.args.first (map instruction_view c.args.written.now))) (sym list)
          (subst (λ ts. AreInsts values labels c.loop-instruction.builder.arena c.loop-instruction.list.items (instructions_built values c.args.first ts)) all so_far.so_far);
      in_order = ap (flat_map result_of) list ∙ so_far.in_order ∙ ap (λ ts. upto c.args.first (sum_by result_count ts)) all;
      next = so_far.next ∙ ap (λ ts. c.args.first + sum_by result_count ts) all;
    }
