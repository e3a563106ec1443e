use Rattle.std.proofs.Common.{◌≡◌, take}
use Rattle.type_table.specs.Types.{names}
use Rattle.link_names.specs.Naming.{HasMore}
use Rattle.link_names.proofs.rows.avoided.avoid_structs.Given as goal

abbrev pub invariant-structs : goal.invariant-structs
invariant-structs l = record {
  avoided : HasMore l.fn.naming.avoided (take l.number (names l.from)) l.naming.avoided;
  given : l.naming.given ≡ l.fn.naming.given;
}
