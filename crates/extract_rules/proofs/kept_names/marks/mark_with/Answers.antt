use Rattle.module_arena.specs.Module.{Constant}
use Rattle.std.proofs.Common.{List, flat_map}
use Rattle.extract_rules.specs.KeptNames.Marks.{in_operand, in_value}
use Rattle.extract_rules.proofs.OnKeptNames.Marking.{both_marked}
use Rattle.extract_rules.proofs.kept_names.marks.mark_with.Goals as goal

pub returns : goal.returns
returns c = both_marked c.args.marks.now c.mark_value.new.marks c.mark_all.new.marks (λ (cs : List Constant). in_value cs c.args.first) (λ (cs : List Constant). flat_map (in_operand cs) c.args.operands.now) c.mark_value.ensures c.mark_all.ensures
