use Rattle.std.proofs.Common.{◌≡◌, map}
use Rattle.linkage_rules.specs.Entries.{symbol_name}
use Rattle.linkage_rules.specs.Ids.{modules}
use Rattle.link_names.specs.Naming.{HasMore}
use Rattle.link_names.specs.Rows.Numbers.{so_far}
use Rattle.link_names.proofs.rows.avoided.avoid_all.Given as goal

abbrev pub invariant-parts : goal.invariant-parts
invariant-parts l = record {
  avoided : HasMore l.fn.naming.avoided (map symbol_name (so_far (modules l.parts) l.part)) l.naming.avoided;
  given : l.naming.given ≡ l.fn.naming.given;
}
