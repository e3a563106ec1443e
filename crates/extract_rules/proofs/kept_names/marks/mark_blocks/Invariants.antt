use Rattle.std.proofs.Common.{flat_map, take}
use Rattle.extract_rules.specs.KeptNames.Marks.{MarksAll, in_block}
use Rattle.extract_rules.proofs.kept_names.marks.mark_blocks.Given as goal

abbrev pub invariant-loop-block : goal.invariant-loop-block
invariant-loop-block l = MarksAll l.initial.marks (λ cs. flat_map (in_block cs) (take l.block-index l.blocks)) l.marks
