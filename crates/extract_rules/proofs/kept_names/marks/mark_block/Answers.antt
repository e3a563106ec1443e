use Rattle.std.proofs.Common.{List, flat_map, subst}
use Rattle.module_arena.specs.Module.{Constant}
use Rattle.module_arena.specs.declared.instruction.Inst.{Inst}
use Rattle.extract_rules.specs.KeptNames.Marks.{MarksAll, in_ending, in_inst}
use Rattle.extract_rules.proofs.OnKeptNames.Marking.{both_marked}
use Rattle.extract_rules.proofs.kept_names.marks.mark_block.Goals as goal

pub returns : goal.returns
returns c =
    both_marked c.args.marks.now c.mark_instructions.new.marks c.mark_ending.new.marks (λ (cs : List Constant). flat_map (in_inst cs) c.args.block.now.instructions) (λ (cs : List Constant). in_ending cs c.args.block.now.end)
    (subst (λ (is : List Inst). MarksAll c.args.marks.now (λ cs. flat_map (in_inst cs) is) c.mark_instructions.new.marks) c.as_slice.ensures c.mark_instructions.ensures) c.mark_ending.ensures
