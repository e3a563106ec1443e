use Rattle.std.proofs.Common.{◌≡◌, map, take}
use Rattle.std.specs.List.{fold}
use Rattle.entry_verify.specs.Constants.ConstantParts.{all_pass, both_constant_facts, part_fact_at}
use Rattle.entry_verify.proofs.constants.constants.parts_fact.Given as goal

abbrev pub invariant-loop-part : goal.invariant-loop-part
invariant-loop-part l = l.all ≡ fold both_constant_facts all_pass (map (part_fact_at l.arena) (take l.part-index l.parts))
