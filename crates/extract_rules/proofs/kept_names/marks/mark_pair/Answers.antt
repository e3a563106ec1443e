use Rattle.std.proofs.Common.{List}
use Rattle.module_arena.specs.Module.{Constant}
use Rattle.extract_rules.specs.KeptNames.Marks.{in_const}
use Rattle.extract_rules.proofs.OnKeptNames.Marking.{both_marked}
use Rattle.extract_rules.proofs.kept_names.marks.mark_pair.Goals as goal

pub returns : goal.returns
returns c = both_marked c.args.marks.now c.mark.new.marks c.mark-2.new.marks (λ (cs : List Constant). in_const cs c.args.left) (λ (cs : List Constant). in_const cs c.args.right) c.mark.ensures c.mark-2.ensures
