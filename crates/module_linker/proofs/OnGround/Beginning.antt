-- Before the first part is copied, and before the next one is.
use Rattle.std.proofs.Common.{◌≡◌, ℕ, ◌^◌, ◌<◌, List, [], ◌∷◌, map, length, get_or, All, Option, Some, None, option_map, refl, sym, ap, ◌∙◌, subst, arith}
use Rattle.std.specs.Prelude.{slice_get}
use Rattle.std.proofs.lemmas.List.{length-map}
use Rattle.std.proofs.lemmas.List.Elements.{All-nil}
use Rattle.std.proofs.lemmas.Option.{slice_get_within, slice_get-get_or, slice_get-map}
use Rattle.type_table.specs.declared.ir_type.StructBody.{StructBody}
use Rattle.type_table.specs.Limits.{IsWithin}
use Rattle.type_table.specs.Tree.{TreeBody, opaque_body}
use Rattle.type_table.specs.Types.{IsGood, names, trees, tree_struct}
use Rattle.module_arena.specs.Lists.{Lists}
use Rattle.module_arena.specs.Module.{Bytes, Module}
use Rattle.module_arena.specs.View.{module_of}
use Rattle.module_arena.proofs.ModuleSet.{map_map}
use Rattle.linkage_rules.specs.Ids.{modules}
use Rattle.linkage_rules.specs.declared.symbol.Symbol.{Symbol}
use Rattle.link_rules.specs.Linked.{link_result}
use Rattle.link_rules.specs.Structs.{struct_map, new_struct, linked_struct}
use Rattle.item_build.proofs.OnTypes.Staying.{names_same}
use Rattle.item_build.specs.Named.{named_table}
use Rattle.item_build.proofs.Named.{partly_named}
use Rattle.entry_copy.specs.Tables.{Tables, tables_of, with_types}
use Rattle.entry_copy.specs.Tables as tables
use Rattle.entry_copy.proofs.Starting.{no_types_copied}
use Rattle.module_linker.specs.Head.Head.{only_named}
use Rattle.module_linker.specs.Stages.Parts.{CanLink}
use Rattle.module_linker.specs.Parts.Bodies.{IsMaking}
use Rattle.module_linker.specs.Parts.Named.{IsNewStruct, KnowsStructs}
use Rattle.module_linker.proofs.OnParts.PartStructs.{module_structs}
use Rattle.link_names.specs.Rows.Numbers.{AreNewStructs, AreOfPart}
use Rattle.link_names.proofs.OnRows.Ending.{under_map}
use Rattle.module_linker.specs.Ground.Making.{IsMade, StructsAre}
use Rattle.module_linker.proofs.OnGround.Whole.{structs_fit, few_rows}
use Rattle.module_linker.proofs.OnGround.PartTypes.{types_fit}

-- ---- before the first part

both_named : (ms : List Module) (rows : List (Symbol × Bytes)) → (only_named (map (λ row. row.1) rows)).structs ≡ (named_table (map (linked_struct ms) rows)).structs
both_named ms [] = refl
both_named ms (row ∷ rows) = ap (λ (l : List (Bytes × Option StructBody)). (row.1, None) ∷ l) (both_named ms rows)

both_tables : (ms : List Module) (rows : List (Symbol × Bytes)) → only_named (map (λ row. row.1) rows) ≡ named_table (map (linked_struct ms) rows)
both_tables ms rows = λ j. record { types = []; structs = both_named ms rows j }

pub made_none : (parts : List Lists) (b : Lists) (new_names : List Bytes) (tables : List Tables) → CanLink (modules parts) → new_names ≡ map (λ row. row.1) (struct_map (modules parts)) → b.table ≡ only_named new_names → tables ≡ []
    → IsMade parts b tables
made_none parts b new_names tables can same named none = record {
  can = can;
  partly = partly_named (link_result (modules parts)).structs b (named ∙ ap only_named same ∙ both_tables (modules parts) (struct_map (modules parts)));
  types = λ i a t at there. absurd (no_table i t (ap (λ (l : List Tables). slice_get l i) (sym none) ∙ there));
  done = λ i a t at there. absurd (no_table i t (ap (λ (l : List Tables). slice_get l i) (sym none) ∙ there));
  nothing_else = subst (All (λ (t : Tables). t ≡ with_types (tables_of t.structs) t.types)) (sym none) (All-nil (λ (t : Tables). t ≡ with_types (tables_of t.structs) t.types));
}
  where
    no_table : (i : ℕ) (t : Tables) → slice_get [] i ≡ Some t → ⊥
    no_table i t e = cc

-- ---- before the next part

-- the structs of a part, by the lists of all parts
pub structs_are : (parts : List Lists) (numbers : List (List ℕ)) (part : ℕ) (list : List ℕ) → AreNewStructs (modules parts) numbers → slice_get numbers part ≡ Some list → StructsAre parts part list
structs_are parts numbers part list are at a here = are.each part (module_of a) list (slice_get-map module_of parts part ∙ ap (option_map module_of) here) at

module _ (parts : List Lists) (part : ℕ) (a b : Lists) (done : List Tables) (numbers : List ℕ) (made : IsMade parts b done) (here : slice_get parts part ≡ Some a) (are : StructsAre parts part numbers) where
  abbrev ms : List Module
  ms = modules parts

  abbrev table : Tables
  table = tables_of numbers

  module_here : slice_get ms part ≡ Some (module_of a)
  module_here = slice_get-map module_of parts part ∙ ap (option_map module_of) here

  of_part : AreOfPart ms part (module_of a) numbers
  of_part = are a here

  module_names : map (λ (s : Bytes × TreeBody). s.0) (module_of a).structs ≡ names a.table
  module_names = ap (map (λ (s : Bytes × TreeBody). s.0)) (module_structs a) ∙ names_same a.table

  knows : KnowsStructs ms part a table
  knows = record {
    count = of_part.count ∙ ap (λ l. length l) (module_structs a) ∙ length-map a.table.structs (tree_struct (trees a.table));
    each = λ id new name called at.
        let s = under_map (λ (x : Bytes × TreeBody). x.0) (module_of a).structs id name (ap (λ (l : List Bytes). slice_get l id) module_names ∙ called) in
        subst (λ (n : Bytes). IsNewStruct ms part n new) s.2 (of_part.each id new s.0 s.1 at);
  }

  new_names : names b.table ≡ map (λ row. row.1) (struct_map ms)
  new_names = sym (names_same b.table) ∙ made.partly.names ∙ map_map (λ s. s.0) (linked_struct ms) (struct_map ms)

  called : (id : ℕ) → id < length a.table.structs → slice_get (names b.table) (tables.new_struct table id) ≡ Some (new_struct ms part (get_or (names a.table) id []))
  called id lt =
      let many = knows.count in
      let as_many = length-map a.table.structs (λ s. s.0) in
      let new = get_or numbers id id in
      ap (λ (l : List Bytes). slice_get l new) new_names
      ∙ knows.each id new (get_or (names a.table) id []) (slice_get-get_or (names a.table) id [] (omega (arith, as_many, lt))) (slice_get-get_or numbers id id (omega (arith, many, lt)))

  pub making : IsGood a.table → IsWithin a.table → IsMaking ms part a b table
  making good within = record {
    can = made.can;
    part = module_here;
    partly = made.partly;
    structs = structs_fit ms made.can;
    fit = types_fit ms part a module_here made.can.good good within;
    knows = knows;
    copies = no_types_copied (new_struct ms part) a b numbers called;
  }

  -- the numbers are those of ids
  pub small : All (λ number. number < 2 ^ 32) numbers
  small = λ k d lt.
      let many = of_part.count in
      let s = get_or (module_of a).structs k ([], opaque_body) in
      let number = get_or numbers k d in
      let at = of_part.each k number s (slice_get-get_or (module_of a).structs k ([], opaque_body) (omega (arith, many, lt))) (slice_get-get_or numbers k d lt) in
      let below = slice_get_within (map (λ row. row.1) (struct_map ms)) number (new_struct ms part s.0) at in
      let rows = length-map (struct_map ms) (λ row. row.1) in
      let few = few_rows ms made.can in
      omega (arith, below, rows, few)
