-- The types of a part are within the limits under their new names.
use Rattle.std.proofs.Common.{◌≡◌, ℕ, ◌<◌, List, [], ◌∷◌, map, length, get_or, All, Some, sym, ap, ◌∙◌, subst}
use Rattle.std.specs.Prelude.{slice_get}
use Rattle.std.specs.List.{fold, AllByRecursion}
use Rattle.std.proofs.lemmas.List.{length_push, map-append}
use Rattle.std.proofs.lemmas.List.Elements.{All-nil, All-cons, All-append, All-head, All-tail, All-get_or}
use Rattle.type_table.specs.declared.ir_type.IrType.{IrType}
use Rattle.type_table.specs.declared.ir_type.IrType.TheVariants.{Int, Ptr, Void, Array, Struct, Named}
use Rattle.type_table.specs.Limits.{IsWithinLimits, IsWithin}
use Rattle.type_table.specs.Shape.{shape}
use Rattle.type_table.specs.Tree.{Tree, named, void}
use Rattle.type_table.specs.Types.{IsGood, Knows, AllKnown, names, trees, trees_at, tree_of, grow, structs}
use Rattle.type_table.proofs.Judged.{All-left}
use Rattle.module_arena.specs.Lists.{Lists}
use Rattle.module_arena.specs.Module.{Module}
use Rattle.module_arena.specs.Renamed.{renamed_tree}
use Rattle.module_arena.specs.View.{module_of}
use Rattle.module_arena.specs.WellFormed.{IsWellFormed}
use Rattle.link_rules.specs.Known.{KnownTree, KnownTrees}
use Rattle.link_rules.specs.Linked.{link_result}
use Rattle.link_rules.specs.Structs.{new_struct}
use Rattle.link_rules.proofs.KnownTypes.{structs_fine}
use Rattle.link_rules.proofs.SameShapes.{shape_same}
use Rattle.item_build.proofs.OnTypes.Declaring.{all_mapped}
use Rattle.entry_copy.specs.Copies.{AllFit}
use Rattle.module_linker.proofs.OnParts.PartStructs.{part_structs, is_struct}

module _ (ms : List Module) (i : ℕ) (a : Lists) (part : slice_get ms i ≡ Some (module_of a)) (formed : AllByRecursion IsWellFormed ms) where
  abbrev Known : Tree → Type 0
  Known = KnownTree ms i

  -- each type names structs of the part
  fields_known : (done : List Tree) (ids : List ℕ) → All Known done → All (λ id. id < length done) ids → KnownTrees ms i (trees_at done ids)
  fields_known done [] all k = tt
  fields_known done (id ∷ ids) all k =
      let Below : ℕ → Type 0 = λ x. x < length done in
      (All-get_or Known done id void (All-head Below id ids k) all, fields_known done ids all (All-tail Below id ids k))

  type_known : (done : List Tree) (ty : IrType) → All Known done → Knows (length done) (length a.table.structs) ty → Known (tree_of (names a.table) done ty)
  type_known done (Int width) all k = tt
  type_known done Ptr all k = tt
  type_known done Void all k = tt
  type_known done (Array n element) all k = All-get_or Known done element void k all
  type_known done (Struct packed fields) all k = fields_known done fields all k
  type_known done (Named id) all k = is_struct ms i a part formed id k

  all_known : (done : List Tree) (types : List IrType) → All Known done → AllKnown (length done) (length a.table.structs) types → All Known (fold (grow (names a.table)) done types)
  all_known done [] all k = all
  all_known done (ty ∷ types) all k =
      let next = tree_of (names a.table) done ty in
      all_known (grow (names a.table) done ty) types (All-append Known done (next ∷ []) all (All-cons Known next [] (type_known done ty all k.0) (All-nil Known)))
      (subst (λ n. AllKnown n (length a.table.structs) types) (sym (length_push done next)) k.1)

  fits : (t : Tree) → Known t → IsWithinLimits (shape (structs a.table) t) → IsWithinLimits (shape (link_result ms).structs (renamed_tree (new_struct ms i) t))
  fits t known old = subst IsWithinLimits (sym (shape_same ms (structs_fine ms formed) i t known ∙ ap (λ ss. shape ss t) (part_structs ms i a part))) old

  pub types_fit : IsGood a.table → IsWithin a.table → AllFit (new_struct ms i) (link_result ms).structs a
  types_fit good within =
      let S = shape (structs a.table) in
      let ns = map named (names a.table) in
      let all = subst (All IsWithinLimits) (map-append S (trees a.table) ns) within.fits in
      let old = all_mapped S IsWithinLimits (trees a.table) (All-left IsWithinLimits (map S (trees a.table)) (map S ns) all) in
      let known = all_known [] a.table.types (All-nil Known) good.known in
      λ k d lt. fits (get_or (trees a.table) k d) (known k d lt) (old k d lt)
