use Rattle.std.proofs.Common.{flat_map, take}
use Rattle.extract_rules.specs.KeptNames.Marks.{MarksAll, in_variable, picked}
use Rattle.extract_rules.proofs.kept_names.named.mark_variables.Given as goal

abbrev pub invariant-loop-number : goal.invariant-loop-number
invariant-loop-number l = MarksAll l.initial.marks (λ cs. flat_map (in_variable cs) (picked (take l.number l.kept) (take l.number l.arena.variables))) l.marks
