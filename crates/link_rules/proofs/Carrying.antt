-- Parts that are well formed and valid, and have no conflict, have their symbols carried over; and what a module alone keeps.
use Rattle.std.proofs.Common.{◌≡◌, true, List, map, None}
use Rattle.std.specs.List.{list_all, AllByRecursion}
use Rattle.std.proofs.lemmas.Bool.{and_parts}
use Rattle.module_arena.specs.Module.{Module}
use Rattle.module_arena.specs.Valid.{IsValid}
use Rattle.module_arena.specs.WellFormed.{IsWellFormed, types_of_alias, is_good_type}
use Rattle.linkage_rules.specs.Conflicts.{first_conflict}
use Rattle.linkage_rules.specs.Entries.{part_at}
use Rattle.linkage_rules.specs.Globals.{linkage_of}
use Rattle.linkage_rules.specs.Linkages.{is_local}
use Rattle.linkage_rules.specs.Winner.{is_definition}
use Rattle.linkage_rules.proofs.Entries.{all_follow}
use Rattle.link_rules.specs.Laws.{NamesStayApart, StructNamesStayApart, CarriesSymbols, OneModuleStays}
use Rattle.link_rules.specs.Rename.{renaming}
use Rattle.link_rules.specs.Structs.{struct_map}
use Rattle.link_rules.proofs.Agreed.{AreDistinct, go_together}
use Rattle.link_rules.proofs.Asked.{locals_define}
use Rattle.link_rules.proofs.Bound.{KnownTarget, TargetsKnown}
use Rattle.link_rules.proofs.Distinct.{are_distinct, structs_distinct, distinct_from}
use Rattle.link_rules.proofs.KnownTypes.{structs_fine}
use Rattle.link_rules.proofs.LinkedAlone.{linked_alone}
use Rattle.link_rules.proofs.Merged.{names}
use Rattle.link_rules.proofs.Merging.{merging}
use Rattle.link_rules.proofs.NamesKnown.{name_known}
use Rattle.link_rules.proofs.Parts.{all_true, entries_by, globals_all}
use Rattle.link_rules.proofs.Searches.{all_units}
use Rattle.link_rules.proofs.StructRows.{struct_names}
use Rattle.link_rules.proofs.Symbols.{GoTogether}
use Rattle.link_rules.proofs.Unchanged.{all_unchanged}

-- no two entries of a part have one name
pub all_distinct : (parts : List Module) → AllByRecursion IsWellFormed parts → AllByRecursion AreDistinct parts
all_distinct parts formed = all_follow IsWellFormed AreDistinct parts are_distinct formed

-- what an alias names is a symbol
pub targets_known : (parts : List Module) → AllByRecursion IsWellFormed parts → TargetsKnown parts
targets_known parts formed =
    entries_by IsWellFormed (KnownTarget parts) parts formed (λ i w.
    globals_all (KnownTarget parts i) (part_at parts i) (all_units (part_at parts i).variables) (all_units (part_at parts i).functions)
    (all_follow _ _ (part_at parts i).aliases (λ a h. name_known parts i a.target (and_parts (list_all (is_good_type (part_at parts i).structs) (types_of_alias a.ty)) _ h).1)
    (all_true _ (part_at parts i).aliases w.aliases)))

-- a part keeps to itself what it defines, and no symbol has entries of both kinds
pub together : (parts : List Module) → AllByRecursion IsWellFormed parts → AllByRecursion IsValid parts → first_conflict parts ≡ None → GoTogether parts
together parts formed valid none =
    go_together parts (all_distinct parts formed) none
    (entries_by IsValid (λ i g. is_local (linkage_of g) ≡ true → is_definition (record { part = i; global = g }) ≡ true) parts valid (λ i v. locals_define (part_at parts i) v i))

pub carries_symbols : CarriesSymbols
carries_symbols parts formed valid none = merging parts (together parts formed valid none) (targets_known parts formed) (structs_fine parts formed)

pub names_stay_apart : NamesStayApart
names_stay_apart parts = distinct_from (map (λ row. row.1) (renaming parts)) (names parts)

pub struct_names_stay_apart : StructNamesStayApart
struct_names_stay_apart parts = distinct_from (map (λ row. row.1) (struct_map parts)) (struct_names parts)

pub module_stays : OneModuleStays
module_stays m formed valid stay = linked_alone m (record { distinct = are_distinct m formed; distinct_structs = structs_distinct m formed; stay = all_unchanged m formed valid stay })
