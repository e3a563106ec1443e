use Rattle.std.proofs.Common.{◌≡◌, List, bytes_eq, true, sym, subst}
use Rattle.ir_tables.specs.Table.{is_distinct}
use Rattle.module_arena.specs.Module.{Bytes}
use Rattle.linkage_rules.specs.Ids.{modules}
use Rattle.module_linker.proofs.head.head.set_head.Goals as goal

pub name_structs-requires-clause-apart : goal.name_structs-requires-clause-apart
name_structs-requires-clause-apart c =
    subst (λ (ns : List Bytes). is_distinct bytes_eq ns ≡ true) (sym c.requires.names) (c.names_stay_apart.ensures.structs (modules c.args.parts.now))
