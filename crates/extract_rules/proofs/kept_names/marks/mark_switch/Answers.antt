use Rattle.module_arena.specs.declared.instruction.Case.{Case}
use Rattle.module_arena.specs.Module.{Constant}
use Rattle.std.proofs.Common.{List, flat_map}
use Rattle.extract_rules.specs.KeptNames.Marks.{in_const, in_value}
use Rattle.extract_rules.proofs.OnKeptNames.Marking.{both_marked}
use Rattle.extract_rules.proofs.kept_names.marks.mark_switch.Goals as goal

pub returns : goal.returns
returns c = both_marked c.args.marks.now c.mark_value.new.marks c.mark_all_cases.new.marks (λ (cs : List Constant). in_value cs c.args.value) (λ (cs : List Constant). flat_map (λ (x : Case). in_const cs x.value) c.args.cases.now) c.mark_value.ensures c.mark_all_cases.ensures
