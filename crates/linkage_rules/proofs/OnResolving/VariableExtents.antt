-- The types of definitions in numbers are those of their layouts.
use Rattle.std.proofs.Common.{◌≡◌, ◌⊎◌, inl, inr, ℕ, ◌*◌, ◌<◌, List, Bool, true, false, cond, length, Option, Some, None, refl, sym, ap, ◌∙◌, subst}
use Rattle.std.specs.Prelude.{slice_get, is_some, option_and_then}
use Rattle.std.specs.Option.{option_map, option_map_or}
use Rattle.std.proofs.lemmas.Option.{same_Some}
use Rattle.type_table.specs.declared.ir_type.IrType.{IrType}
use Rattle.type_table.specs.declared.ir_type.IrType.TheVariants.{Int, Ptr, Void, Array, Struct, Named}
use Rattle.type_table.specs.declared.layout.Layout.{Layout}
use Rattle.type_table.specs.Layout.{layout, has_layout, size, align, leaves}
use Rattle.type_table.specs.Shape.{Shape, array_of}
use Rattle.type_table.specs.Shape as shapes
use Rattle.type_table.specs.Tree.{Tree, Structs, int, ptr, void, array, struct, named}
use Rattle.type_table.specs.Types as types
use Rattle.type_table.specs.Types.{Types, structs, tree, shape}
use Rattle.module_arena.specs.declared.entry.Variable.{Variable}
use Rattle.module_arena.specs.Known.{IsGood, KnowsVariable, counts, HasGlobal}
use Rattle.module_arena.specs.Lists.{Lists}
use Rattle.module_arena.specs.Module.{Module}
use Rattle.linkage_rules.specs.declared.entry.EntryId.{EntryId}
use Rattle.linkage_rules.specs.declared.symbol.SymbolKind.TheVariants as kind
use Rattle.linkage_rules.specs.Entries.{Entry, structs_at}
use Rattle.linkage_rules.specs.Globals.{element_of, length_of}
use Rattle.linkage_rules.specs.Ids.{IsEntryId, modules, seen, global_of}
use Rattle.linkage_rules.specs.Addresses.{align_in}
use Rattle.linkage_rules.specs.Winner.{size_in}
use Rattle.linkage_rules.proofs.ElementTypes.{tree_at}
use Rattle.linkage_rules.proofs.Seen.{get_within, variable_seen, function_seen, alias_seen}
use Rattle.linkage_rules.proofs.Steps.{all_get}
use Rattle.linkage_rules.proofs.ValidParts.{structs_are, layout_size}
use Rattle.linkage_rules.specs.Resolving.Extents.{array_length, extent_in}

-- LAYOUTS

layout_align : (o : Option Shape) (l : Layout) → option_and_then layout o ≡ Some l → l.align ≡ option_map_or align o 1
layout_align None l h = cc
layout_align (Some s) l h = go (has_layout s) h
  where
    go : (b : Bool) → cond b (Some (record { size = size s; align = align s; leaves = leaves s })) None ≡ Some l → l.align ≡ align s
    go true e = ap (λ (x : Layout). x.align) (sym (same_Some (record { size = size s; align = align s; leaves = leaves s }) l e))
    go false e = cc

laid : (o : Option Shape) (n : ℕ) → is_some (option_and_then layout (option_map (array_of n) o)) ≡ true → is_some (option_and_then layout o) ≡ true
laid None n h = h
laid (Some s) n h = go (has_layout s) h
  where
    go : (b : Bool) → is_some {T = Layout} (cond b (Some (record { size = n * size s; align = align s; leaves = n * leaves s })) None) ≡ true → is_some {T = Layout} (cond b (Some (record { size = size s; align = align s; leaves = leaves s })) None) ≡ true
    go true e = refl
    go false e = e

-- the elements of what lies in memory lie there
pub element_laid : (ss : Structs) (t : Tree) → is_some (option_and_then layout (shapes.shape ss t)) ≡ true → is_some (option_and_then layout (shapes.shape ss (element_of t))) ≡ true
element_laid ss (array n t) h = laid (shapes.shape ss t) n h
element_laid ss (int w) h = h
element_laid ss ptr h = h
element_laid ss void h = h
element_laid ss (struct packed ts) h = h
element_laid ss (named name) h = h

-- TYPES OF A TABLE

pub array_lengths : (t : Types) (good : types.IsGood t) (ty : ℕ) (lt : ty < length t.types) (x : IrType) → slice_get t.types ty ≡ Some x → array_length x ≡ length_of (tree t ty)
array_lengths t good ty lt (Array n part) h = sym (ap length_of (tree_at t good ty lt (Array n part) h))
array_lengths t good ty lt (Int w) h = sym (ap length_of (tree_at t good ty lt (Int w) h))
array_lengths t good ty lt Ptr h = sym (ap length_of (tree_at t good ty lt Ptr h))
array_lengths t good ty lt Void h = sym (ap length_of (tree_at t good ty lt Void h))
array_lengths t good ty lt (Struct packed parts) h = sym (ap length_of (tree_at t good ty lt (Struct packed parts) h))
array_lengths t good ty lt (Named id) h = sym (ap length_of (tree_at t good ty lt (Named id) h))

pub type_below : (a : Lists) → IsGood a → (n : ℕ) (v : Variable) → slice_get a.variables n ≡ Some v → v.ty < length a.table.types
type_below a good n v h = (all_get (KnowsVariable (length a.table.types) (length a.constants)) a.variables n v good.variables h).ty_known

-- EXTENTS

module _ (parts : List Lists) (id : EntryId) (a : Lists) (there : slice_get parts id.part ≡ Some a) where
  pub variable_extent : (v : Variable) (whole part : Layout) (e n : ℕ) → id.kind ≡ kind.Variable → slice_get a.variables id.number ≡ Some v → option_and_then layout (shape a.table v.ty) ≡ Some whole
      → tree a.table e ≡ element_of (tree a.table v.ty) → option_and_then layout (shape a.table e) ≡ Some part → n ≡ length_of (tree a.table v.ty)
      → record { size = whole.size; alignment = whole.align; element = part.size; length = n; stated = v.alignment } ≡ extent_in (modules parts) (seen (modules parts) id)
  variable_extent v whole part e n is at h element k count =
      subst (λ (x : Entry). record { size = whole.size; alignment = whole.align; element = part.size; length = n; stated = v.alignment } ≡ extent_in (modules parts) x) (sym (variable_seen parts id a there v is at))
      (λ j. record { size = sizes j; alignment = alignments j; element = elements j; length = count j; stated = v.alignment })
    where
      ms : List Module
      ms = modules parts

      same : structs a.table ≡ structs_at ms id.part
      same = sym (structs_are parts id a there)

      sizes : whole.size ≡ size_in ms id.part (tree a.table v.ty)
      sizes = layout_size (shape a.table v.ty) whole h ∙ ap (λ (ss : Structs). option_map_or size (shapes.shape ss (tree a.table v.ty)) 0) same

      alignments : whole.align ≡ align_in ms id.part (tree a.table v.ty)
      alignments = layout_align (shape a.table v.ty) whole h ∙ ap (λ (ss : Structs). option_map_or align (shapes.shape ss (tree a.table v.ty)) 1) same

      elements : part.size ≡ size_in ms id.part (element_of (tree a.table v.ty))
      elements =
          layout_size (shape a.table e) part k
          ∙ ap (λ (t : Tree). option_map_or size (shapes.shape (structs a.table) t) 0) element ∙ ap (λ (ss : Structs). option_map_or size (shapes.shape ss (element_of (tree a.table v.ty))) 0) same

-- what is no variable takes no room
pub plain_extent : (parts : List Lists) (id : EntryId) (known : IsEntryId parts id) → (id.kind ≡ kind.Function) ⊎ (id.kind ≡ kind.Alias)
    → record { size = 0; alignment = 1; element = 0; length = 0; stated = None } ≡ extent_in (modules parts) (seen (modules parts) id)
plain_extent parts id known (inl is) =
    let x = get_within known.0.functions id.number (subst (λ k. HasGlobal (counts known.0) (global_of k id.number)) is known.2) in
    ap (λ (z : Entry). extent_in (modules parts) z) (sym (function_seen parts id known.0 known.1 x.0 is x.1))
plain_extent parts id known (inr is) =
    let x = get_within known.0.aliases id.number (subst (λ k. HasGlobal (counts known.0) (global_of k id.number)) is known.2) in
    ap (λ (z : Entry). extent_in (modules parts) z) (sym (alias_seen parts id known.0 known.1 x.0 is x.1))
