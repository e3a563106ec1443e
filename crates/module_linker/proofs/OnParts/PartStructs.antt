-- The structs of a part, by their ids and as what its module has.
use Rattle.std.proofs.Common.{◌≡◌, ℕ, ◌<◌, true, ◌&&◌, List, [], map, length, get_or, Some, option_map, refl, sym, ap, ◌∙◌, subst, arith}
use Rattle.std.specs.Prelude.{slice_get}
use Rattle.std.specs.List.{AllByRecursion}
use Rattle.std.proofs.lemmas.Bool.{and_parts}
use Rattle.std.proofs.lemmas.List.{length-map}
use Rattle.std.proofs.lemmas.Option.{same_Some, slice_get-get_or, slice_get-map, get_or_from_slice_get}
use Rattle.type_table.specs.Tree.{named, TreeBody, opaque_body, Structs}
use Rattle.type_table.specs.Types.{names, structs}
use Rattle.module_arena.specs.Lists.{Lists}
use Rattle.module_arena.specs.Module.{Bytes, Module, empty_module}
use Rattle.module_arena.specs.View.{module_of}
use Rattle.module_arena.specs.WellFormed.{IsWellFormed, is_good_body, is_good_type}
use Rattle.linkage_rules.specs.Entries.{structs_at}
use Rattle.link_rules.specs.Known.{IsStruct}
use Rattle.link_rules.proofs.KnownTypes.{tree_known}
use Rattle.link_rules.proofs.Parts.{all_true}
use Rattle.link_rules.proofs.Searches.{at_all}
use Rattle.item_build.proofs.OnTypes.Staying.{names_same}

pub module_structs : (a : Lists) → (module_of a).structs ≡ structs a.table
unfolding module_of
module_structs a = refl

module _ (ms : List Module) (i : ℕ) (a : Lists) (part : slice_get ms i ≡ Some (module_of a)) where
  abbrev own : Structs
  own = (module_of a).structs

  part_has : structs_at ms i ≡ own
  part_has = ap (λ (m : Module). m.structs) (get_or_from_slice_get ms i (module_of a) empty_module part)

  pub part_structs : structs_at ms i ≡ structs a.table
  part_structs = part_has ∙ module_structs a

  own_names : map (λ (s : Bytes × TreeBody). s.0) own ≡ names a.table
  own_names = ap (map (λ (s : Bytes × TreeBody). s.0)) (module_structs a) ∙ names_same a.table

  -- the name of a struct of the part's arena is that of a struct of the part
  pub is_struct : AllByRecursion IsWellFormed ms → (id : ℕ) → id < length a.table.structs → IsStruct ms i (get_or (names a.table) id [])
  is_struct formed id below =
      let w = at_all IsWellFormed ms i (module_of a) formed part in
      let all = all_true (λ (s : Bytes × TreeBody). is_good_body own s.1 && is_good_type own (named s.0)) own w.structs in
      let many = ap length own_names in
      let as_many = length-map own (λ (s : Bytes × TreeBody). s.0) in
      let as_many_names = length-map a.table.structs (λ s. s.0) in
      let name = get_or (names a.table) id [] in
      let called : slice_get (names a.table) id ≡ Some name = slice_get-get_or (names a.table) id [] (omega (arith, as_many_names, below)) in
      let s = get_or own id ([], opaque_body) in
      let at = slice_get-get_or own id ([], opaque_body) (omega (arith, many, as_many, as_many_names, below)) in
      let same : s.0 ≡ name = same_Some s.0 name (sym (slice_get-map (λ (x : Bytes × TreeBody). x.0) own id ∙ ap (option_map (λ (x : Bytes × TreeBody). x.0)) at) ∙ ap (λ (l : List Bytes). slice_get l id) own_names ∙ called) in
      let fine = (and_parts (is_good_body own s.1) (is_good_type own (named s.0)) (at_all (λ (x : Bytes × TreeBody). (is_good_body own x.1 && is_good_type own (named x.0)) ≡ true) own id s all at)).1 in
      subst (IsStruct ms i) same (tree_known ms i (named s.0) (subst (λ (ss : Structs). is_good_type ss (named s.0) ≡ true) (sym part_has) fine))
