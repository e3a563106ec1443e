-- Says how the code of `declare_symbols` and `define_symbols` reads: what is written of a symbol that some part defines, by the ids of its entries.
use Rattle.std.specs.Prelude.{List, map, filter}
use Rattle.linkage_rules.specs.Entries.{Entry}
use Rattle.linkage_rules.specs.Globals.{Global}
use Rattle.linkage_rules.specs.Ids.{modules, seen}
use Rattle.linkage_rules.specs.Winner.{is_definition}
use Rattle.linkage_rules.specs.declared.entry.EntryId.{EntryId}
use Rattle.module_arena.specs.Lists.{Lists}
use Rattle.module_arena.specs.Module.{Bytes}
use Rattle.link_rules.specs.Linked.{linked_definition}

-- those of some entries that are definitions
abbrev pub entries_defined : List Lists → List EntryId → List Entry
entries_defined parts ids = filter is_definition (map (seen (modules parts)) ids)

-- what is written of a definition under that name, where these are the symbol's entries
abbrev pub definition_of : List Lists → EntryId → List EntryId → Bytes → Global
definition_of parts home ids name = linked_definition (modules parts) name (seen (modules parts) home) (entries_defined parts ids) (seen (modules parts) home).global
