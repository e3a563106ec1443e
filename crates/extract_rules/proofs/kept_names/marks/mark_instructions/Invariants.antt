use Rattle.std.proofs.Common.{flat_map, take}
use Rattle.extract_rules.specs.KeptNames.Marks.{MarksAll, in_inst}
use Rattle.extract_rules.proofs.kept_names.marks.mark_instructions.Given as goal

abbrev pub invariant-loop-instruction : goal.invariant-loop-instruction
invariant-loop-instruction l = MarksAll l.initial.marks (λ cs. flat_map (in_inst cs) (take l.instruction-index l.instructions)) l.marks
