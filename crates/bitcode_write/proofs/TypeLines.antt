-- Types and structs of an arena as records.
use Rattle.std.proofs.Common.{◌≡◌, ℕ, suc, ◌<◌, ◌≤◌, List, [], ◌∷◌, length, map, flat_map, get_or, Option, Some, None, slice_get, refl, sym, ap, ◌∙◌, subst, arith}
use Rattle.std.specs.List.{slice_index_or}
use Rattle.std.proofs.lemmas.List.{length-map}
use Rattle.std.proofs.lemmas.Option.{get_or_from_slice_get, slice_get_within}
use Rattle.type_table.specs.declared.ir_type.IrType.{IrType}
use Rattle.type_table.specs.declared.ir_type.IrType.TheVariants.{Int, Ptr, Void, Array, Struct, Named}
use Rattle.type_table.specs.declared.ir_type.StructBody.{StructBody}
use Rattle.type_table.specs.Tree.{Tree, opaque_body, void, index_of}
use Rattle.type_table.specs.Types.{Types, IsGood, IsKnown, Knows, names, bodies, trees, tree, tree_of, trees_at, tree_body, tree_struct, structs}
use Rattle.type_table.proofs.Outlined.{tree-is, type_known}
use Rattle.type_table.proofs.UnderIds.{index_of-at, get_or-map, tree_names}
use Rattle.module_arena.specs.Lists.{Lists}
use Rattle.module_arena.specs.Same.{same_type}
use Rattle.module_arena.specs.View.{module_of}
use Rattle.record_table.specs.Layout.{place}
use Rattle.record_table.specs.Spelling.{by_ids, places}
use Rattle.record_table.specs.TypeRecords.{kind_of}
use Rattle.bitcode_write.specs.Entries.{type_operands}

pub tree_here : (t : Types) → IsGood t → (ty : ℕ) (x : IrType) → slice_get t.types ty ≡ Some x → tree t ty ≡ tree_of (names t) (trees t) x
tree_here t good ty x at = tree-is t good ty (slice_get_within t.types ty x at) ∙ ap (tree_of (names t) (trees t)) (get_or_from_slice_get t.types ty x Void at)

weaker : (small large known : ℕ) (x : IrType) → small ≤ large → Knows small known x → Knows large known x
weaker small large known (Int w) le h = h
weaker small large known Ptr le h = tt
weaker small large known Void le h = tt
weaker small large known (Array n part) le h = omega (arith, le, h)
weaker small large known (Struct packed parts) le h = λ k d lt. let here = h k d lt in omega (arith, le, here)
weaker small large known (Named id) le h = h

pub known_here : (t : Types) → IsGood t → (ty : ℕ) (x : IrType) → slice_get t.types ty ≡ Some x → IsKnown t x
known_here t good ty x at =
    let lt = slice_get_within t.types ty x at in
    weaker ty (length t.types) (length t.structs) x (omega (arith, lt)) (subst (λ (y : IrType). Knows ty (length t.structs) y) (get_or_from_slice_get t.types ty x Void at) (type_known t good ty lt))

-- a struct by its number
pub named_place : (a : Lists) → IsGood a.table → (id : ℕ) → id < length a.table.structs → id ∷ [] ≡ type_operands a (Named id)
unfolding module_of
named_place a good id lt =
    let few : id < length (names a.table) = omega (arith, lt, length-map a.table.structs (λ (s : List ℕ × Option StructBody). s.0)) in
    ap (λ (n : ℕ). n ∷ []) (sym (ap (λ (ns : List (List ℕ)). index_of ns (get_or (names a.table) id [])) (tree_names (trees a.table) a.table.structs) ∙ index_of-at (names a.table) id good.distinct few))

pub same_kind : (all : List Tree) (own ns : List (List ℕ)) (done : List Tree) (x : IrType) → kind_of x ≡ kind_of (by_ids all own (tree_of ns done x))
same_kind all own ns done (Int w) = refl
same_kind all own ns done Ptr = refl
same_kind all own ns done Void = refl
same_kind all own ns done (Array n part) = refl
same_kind all own ns done (Struct packed parts) = refl
same_kind all own ns done (Named id) = refl

pub parts_listed : (all done : List Tree) (ids : List ℕ) → flat_map (λ (t : Tree). place same_type all t ∷ []) (map (λ (id : ℕ). slice_index_or done id void) ids) ≡ flat_map (λ (n : ℕ). n ∷ []) (places all (trees_at done ids))
parts_listed all done [] = refl
parts_listed all done (id ∷ ids) = ap (λ (ns : List ℕ). place same_type all (slice_index_or done id void) ∷ ns) (parts_listed all done ids)

many : (all done : List Tree) (ids : List ℕ) → length (map (λ (id : ℕ). slice_index_or done id void) ids) ≡ length (places all (trees_at done ids))
many all done [] = refl
many all done (id ∷ ids) = ap suc (many all done ids)

pub fields_listed : (all done : List Tree) (ids : List ℕ)
    → length (map (λ (id : ℕ). slice_index_or done id void) ids) ∷ flat_map (λ (t : Tree). place same_type all t ∷ []) (map (λ (id : ℕ). slice_index_or done id void) ids)
    ≡ length (places all (trees_at done ids)) ∷ flat_map (λ (n : ℕ). n ∷ []) (places all (trees_at done ids))
fields_listed all done ids = λ j. many all done ids j ∷ parts_listed all done ids j

-- a struct by its name and its body
pub struct_at : (t : Types) (id : ℕ) (name : List ℕ) (body : Option StructBody) → slice_get (names t) id ≡ Some name → slice_get (bodies t) id ≡ Some body
    → get_or (structs t) id ([], opaque_body) ≡ (name, tree_body (trees t) body)
struct_at t id name body named bodied =
    let here : List ℕ × Option StructBody = ([], None) in
    let one = sym (get_or-map (λ (s : List ℕ × Option StructBody). s.0) t.structs id here) ∙ get_or_from_slice_get (names t) id name [] named in
    let two = sym (get_or-map (λ (s : List ℕ × Option StructBody). s.1) t.structs id here) ∙ get_or_from_slice_get (bodies t) id body None bodied in
    get_or-map (tree_struct (trees t)) t.structs id here ∙ (λ j. (one j, tree_body (trees t) (two j)))
