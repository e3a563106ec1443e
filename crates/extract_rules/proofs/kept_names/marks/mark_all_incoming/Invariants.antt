use Rattle.std.proofs.Common.{flat_map, take}
use Rattle.module_arena.specs.declared.instruction.Incoming.{Incoming}
use Rattle.extract_rules.specs.KeptNames.Marks.{MarksAll, in_value}
use Rattle.extract_rules.proofs.kept_names.marks.mark_all_incoming.Given as goal

abbrev pub invariant-loop-incoming : goal.invariant-loop-incoming
invariant-loop-incoming l = MarksAll l.initial.marks (λ cs. flat_map (λ (i : Incoming). in_value cs i.value) (take l.incoming-index l.list)) l.marks
