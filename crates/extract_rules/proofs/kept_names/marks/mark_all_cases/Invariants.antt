use Rattle.std.proofs.Common.{flat_map, take}
use Rattle.module_arena.specs.declared.instruction.Case.{Case}
use Rattle.extract_rules.specs.KeptNames.Marks.{MarksAll, in_const}
use Rattle.extract_rules.proofs.kept_names.marks.mark_all_cases.Given as goal

abbrev pub invariant-loop-case : goal.invariant-loop-case
invariant-loop-case l = MarksAll l.initial.marks (λ cs. flat_map (λ (c : Case). in_const cs c.value) (take l.case-index l.cases)) l.marks
