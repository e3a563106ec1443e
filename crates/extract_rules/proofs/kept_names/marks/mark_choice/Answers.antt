use Rattle.module_arena.specs.Module.{Constant}
use Rattle.std.proofs.Common.{List, ◌++◌}
use Rattle.extract_rules.specs.KeptNames.Marks.{in_operand}
use Rattle.extract_rules.proofs.OnKeptNames.Marking.{both_marked}
use Rattle.extract_rules.proofs.kept_names.marks.mark_choice.Goals as goal

pub returns : goal.returns
returns c = both_marked c.args.marks.now c.mark_value.new.marks c.mark_two.new.marks (λ (cs : List Constant). in_operand cs c.args.choice.now.condition) (λ (cs : List Constant). in_operand cs c.args.choice.now.first ++ in_operand cs c.args.choice.now.second) c.mark_value.ensures c.mark_two.ensures
