use Rattle.std.proofs.Common.{flat_map, take}
use Rattle.extract_rules.specs.KeptNames.Marks.{MarksAll, in_operand}
use Rattle.extract_rules.proofs.kept_names.marks.mark_all.Given as goal

abbrev pub invariant-loop-operand : goal.invariant-loop-operand
invariant-loop-operand l = MarksAll l.initial.marks (λ cs. flat_map (in_operand cs) (take l.operand-index l.operands)) l.marks
