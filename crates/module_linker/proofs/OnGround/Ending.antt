-- Behind the last part each struct of the linked module has its body.
use Rattle.std.proofs.Common.{◌≡◌, ℕ, zero, suc, ◌<◌, List, [], ◌∷◌, map, length, get_or, Option, Some, None, option_map, cond, bytes_eq, refl, sym, ap, ◌∙◌, subst, arith}
use Rattle.std.specs.Prelude.{slice_get}
use Rattle.std.specs.List.{AllByRecursion}
use Rattle.std.specs.Map.{lookup}
use Rattle.std.proofs.lemmas.List.{length-map}
use Rattle.std.proofs.lemmas.Option.{slice_get-get_or, slice_get-map, slice_get_within, get_or_from_slice_get}
use Rattle.type_table.specs.Tree.{TreeBody, Structs, index_of}
use Rattle.type_table.specs.Types.{names, structs}
use Rattle.module_arena.specs.Lists.{Lists}
use Rattle.module_arena.specs.Module.{Bytes, Module, empty_module}
use Rattle.module_arena.specs.View.{module_of}
use Rattle.module_arena.specs.WellFormed.{IsWellFormed}
use Rattle.module_arena.proofs.ModuleSet.{map_map}
use Rattle.linkage_rules.specs.Entries.{part_at, symbol_name}
use Rattle.linkage_rules.specs.Ids.{modules}
use Rattle.linkage_rules.specs.declared.symbol.Symbol.{Symbol}
use Rattle.linkage_rules.specs.declared.symbol.Symbol.TheVariants.{Local}
use Rattle.link_rules.specs.Linked.{link_result}
use Rattle.link_rules.specs.Rename.{name_or}
use Rattle.link_rules.specs.Structs.{struct_symbols, same_struct, struct_map, new_struct, linked_struct, part_of}
use Rattle.link_rules.proofs.Agreed.{all_from_at}
use Rattle.link_rules.proofs.Apart.{Apart, apart_firsts, lookup_at}
use Rattle.link_rules.proofs.Parts.{structs_by}
use Rattle.link_rules.proofs.Searches.{at_all}
use Rattle.link_rules.proofs.StructRows.{Key, same_key, key_self, key_exact, key, first_keys, first_structs, struct_keys, index_at, struct_names}
use Rattle.link_rules.proofs.Symbols.{all_firsts}
use Rattle.item_build.proofs.OnTypes.Staying.{names_same}
use Rattle.item_build.specs.Partly.{IsDone, names_of}
use Rattle.item_build.proofs.Named.{all_done}
use Rattle.entry_copy.specs.Tables.{Tables, tables_of}
use Rattle.entry_copy.specs.Tables as tables
use Rattle.module_linker.specs.Stages.Ground.{HaveTypes}
use Rattle.module_linker.proofs.OnParts.PartStructs.{module_structs}
use Rattle.module_linker.specs.Ground.Making.{IsMade}

-- where nothing is at a place
past : {A : Type 0} (xs : List A) (k : ℕ) (d : A) → slice_get xs k ≡ None → get_or xs k d ≡ d
past [] k d h = refl
past (x ∷ xs) zero d h = cc
past (x ∷ xs) (suc k) d h = past xs k d h

module _ (ms : List Module) where
  -- rows by keys
  keyed : (s : Symbol) (rows : List (Symbol × Bytes)) → lookup (same_struct ms s) rows ≡ lookup (same_key (key ms s)) (map {B = Key × Bytes} (λ r. (key ms r.0, r.1)) rows)
  keyed s [] = refl
  keyed s (r ∷ rows) = ap (λ o. cond (same_struct ms s r.0) (Some r.1) o) (keyed s rows)

  keys_apart : Apart same_key (map (λ r. r.0) (map {B = Key × Bytes} (λ r. (key ms r.0, r.1)) (struct_map ms)))
  keys_apart =
      subst (Apart same_key)
      (sym (map_map (λ r. r.0) (λ (r : Symbol × Bytes). (key ms r.0, r.1)) (struct_map ms) ∙ sym (map_map (key ms) (λ r. r.0) (struct_map ms)) ∙ ap (map (key ms)) (struct_keys ms) ∙ first_keys ms))
      (apart_firsts same_key key_self key_exact (map (key ms) (struct_symbols ms)))

  -- the struct of a row has the row's name
  own_name : (k : ℕ) (r : Symbol × Bytes) → slice_get (struct_map ms) k ≡ Some r → new_struct ms (part_of r.0) (symbol_name r.0) ≡ r.1
  own_name k r at =
      ap (name_or (symbol_name r.0))
      (keyed r.0 (struct_map ms)
      ∙ lookup_at same_key key_self key_exact (map {B = Key × Bytes} (λ q. (key ms q.0, q.1)) (struct_map ms)) k (key ms r.0) r.1 keys_apart
      (slice_get-map {B = Key × Bytes} (λ q. (key ms q.0, q.1)) (struct_map ms) k ∙ ap (option_map {U = Key × Bytes} (λ q. (key ms q.0, q.1))) at))

module _ (parts : List Lists) (b : Lists) (copied : List Tables) (made : IsMade parts b copied) (all : length copied ≡ length parts) where
  abbrev ms : List Module
  ms = modules parts

  abbrev whole : Structs
  whole = (link_result ms).structs

  -- the struct that one of part i is has its body
  abbrev HasBody : ℕ → Bytes → Type 0
  HasBody i name = IsDone whole b (index_of (names_of whole) (new_struct ms i name))

  apart : Apart bytes_eq (names_of whole)
  apart = subst (Apart bytes_eq) (sym (map_map (λ s. s.0) (linked_struct ms) (struct_map ms))) (struct_names ms)

  module _ (i : ℕ) (a : Lists) (here : slice_get parts i ≡ Some a) where
    abbrev table : Tables
    table = get_or copied i (tables_of [])

    there : slice_get copied i ≡ Some table
    there = let below = slice_get_within parts i a here in let many = all in slice_get-get_or copied i (tables_of []) (omega (arith, below, many))

    by_id : (id : ℕ) → id < length a.table.structs → HasBody i (get_or (names a.table) id [])
    by_id id lt =
        let new = tables.new_struct table id in
        let name = new_struct ms i (get_or (names a.table) id []) in
        let at : slice_get (names_of whole) new ≡ Some name = ap (λ (l : List Bytes). slice_get l new) (sym (sym (names_same b.table) ∙ made.partly.names)) ∙ (made.types i a table here there).copies.named id lt in
        subst (IsDone whole b) (sym (index_at (names_of whole) new name apart at)) (made.done i a table here there id lt)

    part_done : AllByRecursion (λ (s : Bytes × TreeBody). HasBody i s.0) (module_of a).structs
    part_done = all_from_at (λ (s : Bytes × TreeBody). HasBody i s.0) (module_of a).structs (λ id s at.
        let own = ap (map (λ (x : Bytes × TreeBody). x.0)) (module_structs a) ∙ names_same a.table in
        let called : slice_get (names a.table) id ≡ Some s.0 = ap (λ (l : List Bytes). slice_get l id) (sym own) ∙ slice_get-map (λ (x : Bytes × TreeBody). x.0) (module_of a).structs id ∙ ap (option_map (λ (x : Bytes × TreeBody). x.0)) at in
        let below = slice_get_within (names a.table) id s.0 called in
        let many = length-map a.table.structs (λ x. x.0) in
        subst (HasBody i) (get_or_from_slice_get (names a.table) id s.0 [] called) (by_id id (omega (arith, below, many))))

  each_part : (i : ℕ) → AllByRecursion (λ (s : Bytes × TreeBody). HasBody i s.0) (part_at ms i).structs
  each_part i = by (slice_get parts i) refl
    where
      by : (o : Option Lists) → slice_get parts i ≡ o → AllByRecursion (λ (s : Bytes × TreeBody). HasBody i s.0) (part_at ms i).structs
      by None e =
          subst (λ (m : Module). AllByRecursion (λ (s : Bytes × TreeBody). HasBody i s.0) m.structs) (sym (past ms i empty_module (slice_get-map module_of parts i ∙ ap (option_map module_of) e))) tt
      by (Some a) e =
          subst (λ (m : Module). AllByRecursion (λ (s : Bytes × TreeBody). HasBody i s.0) m.structs)
          (sym (get_or_from_slice_get ms i (module_of a) empty_module (slice_get-map module_of parts i ∙ ap (option_map module_of) e))) (part_done i a e)

  all_have : AllByRecursion (λ (s : Symbol). HasBody (part_of s) (symbol_name s)) (struct_symbols ms)
  all_have = structs_by IsWellFormed HasBody ms made.can.good (λ i w. each_part i)

  row_done : (k : ℕ) (r : Symbol × Bytes) → slice_get (struct_map ms) k ≡ Some r → IsDone whole b k
  row_done k r at =
      let place : slice_get (first_structs ms) k ≡ Some r.0 = ap (λ l. slice_get l k) (sym (struct_keys ms)) ∙ slice_get-map (λ (q : Symbol × Bytes). q.0) (struct_map ms) k ∙ ap (option_map (λ (q : Symbol × Bytes). q.0)) at in
      let has = at_all (λ (s : Symbol). HasBody (part_of s) (symbol_name s)) (first_structs ms) k r.0 (all_firsts _ (same_struct ms) (struct_symbols ms) all_have) place in
      let called : slice_get (names_of whole) k ≡ Some r.1 =
      ap (λ (l : List Bytes). slice_get l k) (map_map (λ s. s.0) (linked_struct ms) (struct_map ms)) ∙ slice_get-map (λ (q : Symbol × Bytes). q.1) (struct_map ms) k ∙ ap (option_map (λ (q : Symbol × Bytes). q.1)) at in
      subst (IsDone whole b) (ap (index_of (names_of whole)) (own_name ms k r at) ∙ index_at (names_of whole) k r.1 apart called) has

  pub structs_whole : structs b.table ≡ whole
  structs_whole = all_done whole b (length whole) made.partly (λ k lt.
      let many = length-map (struct_map ms) (linked_struct ms) in
      row_done k (get_or (struct_map ms) k (Local 0 [], [])) (slice_get-get_or (struct_map ms) k (Local 0 [], []) (omega (arith, lt, many)))) refl

  pub have_types : HaveTypes parts b copied
  have_types = record { count = all; structs = structs_whole; types = made.types }
