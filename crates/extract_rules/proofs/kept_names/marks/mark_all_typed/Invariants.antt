use Rattle.std.proofs.Common.{flat_map, take}
use Rattle.module_arena.specs.declared.constant.TypedConst.{TypedConst}
use Rattle.extract_rules.specs.KeptNames.Marks.{MarksAll, in_const}
use Rattle.extract_rules.proofs.kept_names.marks.mark_all_typed.Given as goal

abbrev pub invariant-loop-typed : goal.invariant-loop-typed
invariant-loop-typed l = MarksAll l.initial.marks (λ cs. flat_map (λ (t : TypedConst). in_const cs t.value) (take l.typed-index l.list)) l.marks
