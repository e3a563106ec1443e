use Rattle.std.proofs.Common.{◌∙◌}
use Rattle.type_table.specs.Types.{trees}
use Rattle.entry_verify.proofs.OnTypes.Flags.{voids_told, names_told}
use Rattle.entry_verify.proofs.types.types.TypeJudge.new.Goals as goal

pub invariant_of-result : goal.invariant_of-result
invariant_of-result c = record {
  good = c.type_count-count.ensures.good;
  voids = c.in_ok-without_void.ensures ∙ voids_told (trees c.args.table.now);
  names = c.in_ok-without_names.ensures ∙ names_told (trees c.args.table.now);
  alike = c.in_ok-classes.ensures;
}
