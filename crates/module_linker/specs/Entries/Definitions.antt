-- Says how the code of `declare_symbols` reads: what is declared of a symbol, by the ids of its entries.
use Rattle.std.specs.Prelude.{List, map, if◌then◌else◌}
use Rattle.std.specs.List.{list_all}
use Rattle.ir_tables.specs.declared.linkage.Linkage.{Linkage}
use Rattle.ir_tables.specs.declared.linkage.Linkage.TheVariants.{External, ExternWeak}
use Rattle.type_table.specs.Tree.{Tree}
use Rattle.module_arena.specs.Lists.{Lists}
use Rattle.module_arena.specs.Module.{Bytes}
use Rattle.linkage_rules.specs.Globals.{Global, linkage_of, type_of}
use Rattle.linkage_rules.specs.Ids.{modules, seen}
use Rattle.linkage_rules.specs.Linkages as linkages
use Rattle.linkage_rules.specs.declared.entry.EntryId.{EntryId}
pub use Rattle.module_linker.specs.Stages.Definitions.{definition_of, entries_defined}
use Rattle.link_rules.specs.Linked.{joined_type, linked_declaration}

-- the type in the linked module of a variable that is defined there
abbrev pub joined_of : List Lists → EntryId → List EntryId → Tree
joined_of parts home ids = joined_type (modules parts) (seen (modules parts) home) (entries_defined parts ids) (type_of (seen (modules parts) home).global)

-- what is written as in this entry, with that linkage
abbrev pub declared_as : List Lists → Linkage → EntryId → Bytes → Global
declared_as parts linkage id name = linked_declaration linkage (modules parts) name id.part (seen (modules parts) id).global

-- null where it is nowhere defined, if each of these entries says so
abbrev pub linkage_among : List Lists → List EntryId → Linkage
linkage_among parts ids = if list_all (λ e. linkages.is_extern_weak (linkage_of e.global)) (map (seen (modules parts)) ids) then ExternWeak else External

-- what is written of a symbol that no part defines, as in this entry, where these are all
abbrev pub declaration_of : List Lists → EntryId → List EntryId → Bytes → Global
declaration_of parts id ids name = declared_as parts (linkage_among parts ids) id name
