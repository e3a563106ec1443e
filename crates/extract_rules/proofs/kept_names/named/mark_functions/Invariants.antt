use Rattle.std.proofs.Common.{flat_map, take}
use Rattle.extract_rules.specs.KeptNames.Marks.{MarksAll, in_function, picked}
use Rattle.extract_rules.proofs.kept_names.named.mark_functions.Given as goal

abbrev pub invariant-loop-number : goal.invariant-loop-number
invariant-loop-number l = MarksAll l.initial.marks (λ cs. flat_map (in_function cs) (picked (take l.number l.kept) (take l.number l.arena.functions))) l.marks
