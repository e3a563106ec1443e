use Rattle.std.proofs.Common.{◌≡◌, true, nat_eq, take}
use Rattle.std.specs.Prelude.{flat_map}
use Rattle.ir_tables.specs.Table.{is_distinct}
use Rattle.instruction_verify.specs.Parts.{numbers_at}
use Rattle.instruction_verify.proofs.endings.are_distinct.Given as goal

abbrev pub invariant-cases : goal.invariant-cases
invariant-cases l = record {
  keys : l.seen.keys ≡ flat_map (numbers_at l.judge) (take l.case-index l.cases);
  distinct : is_distinct nat_eq (flat_map (numbers_at l.judge) (take l.case-index l.cases)) ≡ true;
}
