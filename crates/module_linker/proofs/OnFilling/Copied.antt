-- What is copied of a part, where each entry of it has a new id.
use Rattle.std.proofs.Common.{◌≡◌, ℕ, ◌<◌, List, [], ◌∷◌, map, length, slice_get, Some, All, refl, sym, subst, arith}
use Rattle.std.specs.Prelude.{IsSome}
use Rattle.std.proofs.lemmas.List.Elements.{All-cons, All-nil, All-head, All-tail}
use Rattle.type_table.specs.Types.{trees}
use Rattle.module_arena.specs.Lists.{Lists}
use Rattle.module_arena.specs.Module.{Bytes}
use Rattle.module_arena.specs.View.{type_at, constant_at, constants_at, constants_of}
use Rattle.module_arena.specs.declared.constant.TypedConst.{TypedConst}
use Rattle.module_arena.specs.UsedNames.{names_in_constant}
use Rattle.linkage_rules.specs.Ids.{modules}
use Rattle.linkage_rules.specs.Contents.Contents.{pieces_of_constants}
use Rattle.link_rules.specs.Linked.{linked_constant}
use Rattle.link_rules.specs.Rename.{new_global}
use Rattle.link_rules.specs.Structs.{linked_type, new_struct}
use Rattle.item_build.specs.Types.Stands.{AreTyped, IsConstant, IsKnownTyped, IsType}
use Rattle.entry_copy.specs.Copies.{Copies, HasNew}
use Rattle.entry_copy.specs.Moved.{moved_typed}
use Rattle.entry_copy.specs.Tables.{Tables, new_constant, new_type}
use Rattle.module_linker.specs.Stages.Copied.{AreCopied}
use Rattle.module_linker.specs.Stages.NewIds.{AllHaveNewIds}
use Rattle.module_linker.specs.Filling.Elements.{pieces_linked}

module _ (parts : List Lists) (b : Lists) (tables : List Tables) (copied : AreCopied parts b tables) (ids : AllHaveNewIds parts b tables) (i : ℕ) (a : Lists) (t : Tables) (at : slice_get parts i ≡ Some a)
    (by : slice_get tables i ≡ Some t) where
  pub part_copied : Copies (new_struct (modules parts) i) (new_global (modules parts) i) a b t
  part_copied = copied.each i a t at by

  -- each name of the part is that of an entry which has a new id
  pub all_new : (names : List Bytes) → All (HasNew a t) names
  all_new [] = All-nil (HasNew a t)
  all_new (name ∷ names) = All-cons (HasNew a t) name names (λ g e. let new = (ids i a t at by).each g name e in subst IsSome (sym new.is) refl) (all_new names)

  pub type_copied : (id : ℕ) → id < length a.table.types → IsType b (new_type t id) (linked_type (modules parts) i (type_at (trees a.table) id))
  type_copied id lt = let all = part_copied.all_types in part_copied.types.types id (omega (arith, all, lt))

  pub constant_copied : (id : ℕ) → id < length a.constants → IsConstant b (new_constant t id) (linked_constant (modules parts) i (constant_at (constants_of a) id))
  constant_copied id lt =
      let all = part_copied.all_constants in
      part_copied.constants.constants id (omega (arith, all, lt)) (all_new (names_in_constant (constant_at (constants_of a) id)))

  -- elements that are moved are those of the part, as they are written in the linked module
  pub elements_copied : (es : List TypedConst) → All (IsKnownTyped a) es
      → AreTyped b (map (moved_typed t) es) (pieces_linked (modules parts) (pieces_of_constants i (constants_at (trees a.table) (constants_of a) es)))
  elements_copied [] known = record { known = All-nil (IsKnownTyped b); constants = refl }
  elements_copied (e ∷ es) known =
      let first = All-head (IsKnownTyped a) e es known in
      let rest = elements_copied es (All-tail (IsKnownTyped a) e es known) in
      let ty = type_copied e.ty first.0 in
      let value = constant_copied e.value first.1 in
      record {
        known = All-cons (IsKnownTyped b) (moved_typed t e) (map (moved_typed t) es) (ty.known, value.known) rest.known;
        constants = λ j. (ty.tree j, value.constant j) ∷ rest.constants j;
      }
