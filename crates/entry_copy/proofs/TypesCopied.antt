-- What is made of copied types, and that one type more is copied.
use Rattle.std.proofs.Common.{◌≡◌, ℕ, ◌<◌, ◌≤◌, ◌⊎◌, inl, inr, true, false, Result, Ok, Err, OnOk, IfOk, List, [], ◌∷◌, ◌++◌, map, length, get_or, slice_get, All, Some, refl, sym, ap, ◌∙◌, subst, arith}
use Rattle.std.proofs.lemmas.Bool.{cases_lt}
use Rattle.std.proofs.lemmas.List.{length_push, length-map, get_or_append_left, get_or_push}
use Rattle.std.proofs.lemmas.List.Elements.{All-get_or}
use Rattle.std.proofs.lemmas.Option.{get_or_from_slice_get, slice_get_within}
use Rattle.type_table.specs.declared.ir_type.IrType.{IrType}
use Rattle.type_table.specs.declared.ir_type.IrType.TheVariants.{Int, Ptr, Void, Array, Struct, Named}
use Rattle.type_table.specs.declared.ir_type.StructBody as the_struct
use Rattle.type_table.specs.declared.ir_type.StructBody.TheVariants.{Opaque, Plain, Packed}
use Rattle.type_table.specs.Limits.{IsWithinLimits}
use Rattle.type_table.specs.Shape.{shape}
use Rattle.type_table.specs.Tree.{Tree, array, struct, named, void, fields, Structs}
use Rattle.type_table.specs.Types.{names, trees, tree_of, tree_body, Knows, KnowsBody, IsKnown}
use Rattle.type_table.specs.Types as types
use Rattle.type_table.proofs.Added.{length-trees}
use Rattle.type_table.proofs.Outlined.{type_known}
use Rattle.module_arena.specs.declared.entry.AliasType as the_alias_type
use Rattle.module_arena.specs.declared.entry.Parameter as the_parameter
use Rattle.module_arena.specs.Known.{alias_types}
use Rattle.module_arena.specs.Lists.{Lists}
use Rattle.module_arena.specs.Module.{Bytes}
use Rattle.module_arena.specs.Renamed.{renamed_tree, renamed_body, renamed_parameter, renamed_alias_type}
use Rattle.module_arena.specs.View.{type_at, parameter_view, alias_type_view}
use Rattle.item_build.specs.Types.Parameters.{AreParameters}
use Rattle.item_build.specs.Types.Stands.{IsType, Grows}
use Rattle.item_build.proofs.OnTypes.Growing.{type_found}
use Rattle.entry_copy.specs.Copies.{CopiesTypes, AllFit, IsStructBody, IsAliasType}
use Rattle.entry_copy.specs.Moved.{moved_type, moved_struct_body, moved_parameter, moved_alias_type}
use Rattle.entry_copy.specs.Tables.{Tables, with_types, with_constants, new_struct, new_type}
use Rattle.entry_copy.proofs.Moving.{trees_moved, parameters_moved, alias_type_moved}
use Rattle.entry_copy.proofs.Keeping.{all_moved, types_known, alias_types-moved}

pub always : {A E Q : Type 0} (r : Result A E) → Q → OnOk r Q
always (Ok x) q = q
always (Err e) q = tt

pub with_answer : {A E : Type 0} (Q : A → Type 0) (r : Result A E) (expected : A) → Q expected → IfOk r (λ x. x ≡ expected) → IfOk r Q
with_answer Q (Ok x) expected q same = subst Q (sym same) q
with_answer Q (Err e) expected q same = tt

-- the types are those that they were where constants are added to the tables
pub types_kept : (structs : Bytes → Bytes) (a b : Lists) (t : Tables) (constants : List ℕ) → CopiesTypes structs a b t → CopiesTypes structs a b (with_constants t constants)
types_kept structs a b t constants h = record { named = h.named; few_types = h.few_types; types = h.types }

module _ (structs : Bytes → Bytes) (a b : Lists) (t : Tables) (h : CopiesTypes structs a b t) where
  abbrev T : ℕ → Type 0
  T = λ id. id < length t.types

  pub type_is : (id : ℕ) → T id → type_at (trees b.table) (new_type t id) ≡ renamed_tree structs (type_at (trees a.table) id)
  type_is id lt = (h.types id lt).tree

  pub type_there : (id : ℕ) → T id → new_type t id < length b.table.types
  type_there id lt = (h.types id lt).known

  -- ---- what has types in it

  pub type_made : (ty : IrType) → Knows (length t.types) (length a.table.structs) ty → tree_of (names b.table) (trees b.table) (moved_type t ty) ≡ renamed_tree structs (tree_of (names a.table) (trees a.table) ty)
  type_made (Int width) k = refl
  type_made Ptr k = refl
  type_made Void k = refl
  type_made (Array n element) k = ap (array n) (type_is element k)
  type_made (Struct packed parts) k = ap (struct packed) (trees_moved t structs (trees a.table) (trees b.table) (length t.types) type_is parts k)
  type_made (Named id) k = ap named (get_or_from_slice_get (names b.table) (new_struct t id) (structs (get_or (names a.table) id [])) [] (h.named id k))

  pub type_fits_in : (ty : IrType) → Knows (length t.types) (length a.table.structs) ty → IsKnown b.table (moved_type t ty)
  type_fits_in (Int width) k = k
  type_fits_in Ptr k = k
  type_fits_in Void k = k
  type_fits_in (Array n element) k = type_there element k
  type_fits_in (Struct packed parts) k = types_known t (length t.types) (length b.table.types) type_there parts k
  type_fits_in (Named id) k =
      let lt = slice_get_within (names b.table) (new_struct t id) (structs (get_or (names a.table) id [])) (h.named id k) in
      let long = length-map b.table.structs (λ s. s.0) in
      omega (arith, lt, long)

  pub struct_body_copied : (body : the_struct.StructBody) → KnowsBody (length t.types) (Some body) → IsStructBody b (moved_struct_body t body) (renamed_body structs (tree_body (trees a.table) (Some body)))
  struct_body_copied Opaque k = record { known = k; body = refl }
  struct_body_copied (Plain parts) k = record {
    known = types_known t (length t.types) (length b.table.types) type_there parts k;
    body = ap (fields false) (trees_moved t structs (trees a.table) (trees b.table) (length t.types) type_is parts k);
  }
  struct_body_copied (Packed parts) k = record {
    known = types_known t (length t.types) (length b.table.types) type_there parts k;
    body = ap (fields true) (trees_moved t structs (trees a.table) (trees b.table) (length t.types) type_is parts k);
  }

  pub parameters_copied : (ps : List the_parameter.Parameter) → All (λ (p : the_parameter.Parameter). T p.ty) ps
      → AreParameters b (map (moved_parameter t) ps) (map (renamed_parameter structs) (map (parameter_view (trees a.table)) ps))
  parameters_copied ps k = record {
    known = all_moved (moved_parameter t) (λ (p : the_parameter.Parameter). T p.ty) (λ (p : the_parameter.Parameter). p.ty < length b.table.types) (λ p lt. type_there p.ty lt) ps k;
    parameters = parameters_moved t structs (trees a.table) (trees b.table) (length t.types) type_is ps k;
  }

  pub alias_type_copied : (x : the_alias_type.AliasType) → All T (alias_types x) → IsAliasType b (moved_alias_type t x) (renamed_alias_type structs (alias_type_view (trees a.table) x))
  alias_type_copied x k = record {
    known = subst (All (λ id. id < length b.table.types)) (sym (alias_types-moved t x)) (types_known t (length t.types) (length b.table.types) type_there (alias_types x) k);
    ty = alias_type_moved t structs (trees a.table) (trees b.table) (length t.types) type_is x k;
  }

  -- ---- the new arena grows

  pub types_still : (c : Lists) → Grows b c → CopiesTypes structs a c t
  types_still c g = record {
    named = λ id lt. ap (λ ss. slice_get (map (λ s. s.0) ss) (new_struct t id)) g.structs ∙ h.named id lt;
    few_types = h.few_types;
    types = λ id lt. g.types (new_type t id) (renamed_tree structs (type_at (trees a.table) id)) (h.types id lt);
  }

  -- ---- the next type

  module _ (good : types.IsGood a.table) (ty : IrType) (next : ℕ) (place : next ≡ length t.types) (is : slice_get a.table.types next ≡ Some ty) where
    there : next < length a.table.types
    there = slice_get_within a.table.types next ty is

    known : Knows (length t.types) (length a.table.structs) ty
    known = subst (λ n. Knows n (length a.table.structs) ty) place
        (subst (Knows next (length a.table.structs)) (get_or_from_slice_get a.table.types next ty Void is) (type_known a.table good next there))

    pub next_known : IsKnown b.table (moved_type t ty)
    next_known = type_fits_in ty known

    next_made : tree_of (names b.table) (trees b.table) (moved_type t ty) ≡ renamed_tree structs (type_at (trees a.table) next)
    next_made = type_made ty known ∙ ap (renamed_tree structs) (sym ((type_found a good next ty is).tree))

    pub next_fits : (whole : Structs) → AllFit structs whole a → IsWithinLimits (shape whole (tree_of (names b.table) (trees b.table) (moved_type t ty)))
    next_fits whole fit =
        let P : Tree → Type 0 = λ x. IsWithinLimits (shape whole (renamed_tree structs x)) in
        let many = length-trees a.table in
        let lt = there in
        subst (λ x. IsWithinLimits (shape whole x)) (sym next_made) (All-get_or P (trees a.table) next void (omega (arith, many, lt)) fit)

    pub next_copied : (c : Lists) → Grows b c → (id : ℕ) → IsType c id (tree_of (names b.table) (trees b.table) (moved_type t ty)) → CopiesTypes structs a c (with_types t (t.types ++ id ∷ []))
    next_copied c g id made = record {
      named = (types_still c g).named;
      few_types = (let many = length_push t.types id in let lt = there in let e = place in omega (arith, many, lt, e));
      types = each;
    }
      where
        now : List ℕ
        now = t.types ++ id ∷ []

        each : (k : ℕ) → k < length now → IsType c (get_or now k k) (renamed_tree structs (type_at (trees a.table) k))
        each k lt = by (cases_lt k (length t.types))
          where
            by : ((k < length t.types) ⊎ (length t.types ≤ k)) → IsType c (get_or now k k) (renamed_tree structs (type_at (trees a.table) k))
            by (inl before) = subst (λ i. IsType c i (renamed_tree structs (type_at (trees a.table) k))) (sym (get_or_append_left t.types (id ∷ []) k k before)) ((types_still c g).types k before)
            by (inr behind) =
                let many = length_push t.types id in
                let here : k ≡ next = (let e = place in omega (arith, many, lt, behind, e)) in
                let last : length t.types ≡ k = omega (arith, many, lt, behind) in
                subst (λ i. IsType c i (renamed_tree structs (type_at (trees a.table) k))) (sym (get_or_push t.types id k k last))
                (subst (λ x. IsType c id x) (next_made ∙ ap (λ n. renamed_tree structs (type_at (trees a.table) n)) (sym here)) made)
