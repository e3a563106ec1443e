-- What a type is by the ids of its parts is its tree, opened.
use Rattle.std.proofs.Common.{◌≡◌, ℕ, zero, suc, ◌<◌, Bool, true, false, List, [], ◌∷◌, length, get_or, slice_get, All, Option, Some, None, refl, sym, ap, ◌∙◌, subst, arith, cond, true≢false, slice_index_or}
use Rattle.std.specs.Option.{option_map, option_and_then}
use Rattle.std.proofs.lemmas.List.Elements.{All-head, All-tail}
use Rattle.std.proofs.lemmas.List.{length-map}
use Rattle.std.proofs.lemmas.Option.{get_or_from_slice_get, slice_get_within}
use Rattle.type_table.specs.declared.ir_type.IrType.{IrType}
use Rattle.type_table.specs.declared.ir_type.IrType.TheVariants as type
use Rattle.type_table.specs.declared.ir_type.StructBody.{StructBody}
use Rattle.type_table.specs.declared.ir_type.StructBody.TheVariants.{Opaque, Plain, Packed}
use Rattle.type_table.specs.Tree.{Tree, int, ptr, void, array, struct, named, TreeBody, body_of}
use Rattle.type_table.specs.Types.{Types, IsGood, Knows, KnowsBody, bodies, names, structs, trees, trees_at, tree_of, tree_body, tree}
use Rattle.type_table.proofs.Outlined.{tree-is, type_known}
use Rattle.type_table.proofs.UnderIds.{body_of-place, index_of-at}
use Rattle.std.specs.Prelude.{IfSome}
use Rattle.type_table.proofs.Added.{All-below}
use Rattle.module_arena.specs.Constants.{Index, indexed}
use Rattle.module_arena.specs.TypeTests.{opened, struct_of_body, field_type, is_integer_of}
use Rattle.module_arena.proofs.HostTypesAgree.{field_known as one_known}
use Rattle.entry_verify.specs.Types.Opened.{OpenedIds, array_of, struct_of, opened_body, has_no_parts, IsOpened, neither}

-- what a type is, from the bodies of the structs
abbrev pub opened_by : List (Option StructBody) → IrType → OpenedIds
opened_by bs (type.Int width) = neither
opened_by bs type.Ptr = neither
opened_by bs type.Void = neither
opened_by bs (type.Array length part) = array_of length part
opened_by bs (type.Struct packed parts) = struct_of packed parts
opened_by bs (type.Named id) = opened_body (slice_index_or bs id None)

-- what a type of the table is
abbrev pub opened_type : Types → ℕ → OpenedIds
opened_type t ty = opened_by (bodies t) (slice_index_or t.types ty type.Void)

body_known : (count : ℕ) (bs : List (Option StructBody)) (id : ℕ) → All (KnowsBody count) bs → KnowsBody count (get_or bs id None)
body_known count [] id all = tt
body_known count (b ∷ bs) zero all = All-head (KnowsBody count) b bs all
body_known count (b ∷ bs) (suc id) all = body_known count bs id (All-tail (KnowsBody count) b bs all)

body_opened : (t : Types) (name : List ℕ) (body : Option StructBody) → KnowsBody (length t.types) body → IsOpened t (opened_body body) (struct_of_body name (tree_body (trees t) body))
body_opened t name None known = refl
body_opened t name (Some Opaque) known = refl
body_opened t name (Some (Plain parts)) known = (refl, known)
body_opened t name (Some (Packed parts)) known = (refl, known)

by_type : (t : Types) → IsGood t → (ty : ℕ) (x : IrType) → ty < length t.types → Knows ty (length t.structs) x → IsOpened t (opened_by (bodies t) x) (opened (structs t) (tree_of (names t) (trees t) x))
by_type t good ty (type.Int w) lt known = refl
by_type t good ty type.Ptr lt known = refl
by_type t good ty type.Void lt known = refl
by_type t good ty (type.Array n part) lt known = (refl, omega (arith, known, lt))
by_type t good ty (type.Struct packed parts) lt known = (refl, All-below ty (length t.types) parts (omega (arith, lt)) known)
by_type t good ty (type.Named id) lt known =
    let name = get_or (names t) id [] in
    let many = length-map t.structs (λ (s : List ℕ × Option StructBody). s.0) in
    let place = index_of-at (names t) id good.distinct (omega (arith, many, known)) in
    let body : body_of (structs t) name ≡ tree_body (trees t) (get_or (bodies t) id None) =
    body_of-place t name ∙ ap (λ i. tree_body (trees t) (get_or (bodies t) i None)) place in
    subst (λ (b : TreeBody). IsOpened t (opened_body (get_or (bodies t) id None)) (struct_of_body name b)) (sym body)
    (body_opened t name (get_or (bodies t) id None) (body_known (length t.types) (bodies t) id good.known_bodies))

pub opened_told : (t : Types) → IsGood t → (ty : ℕ) → ty < length t.types → IsOpened t (opened_type t ty) (opened (structs t) (tree t ty))
opened_told t good ty lt =
    subst (λ (u : Tree). IsOpened t (opened_type t ty) (opened (structs t) u)) (sym (tree-is t good ty lt))
    (by_type t good ty (get_or t.types ty type.Void) lt (type_known t good ty lt))

-- a field of a struct by its number
pub field_told : (done : List Tree) (parts : List ℕ) (k : ℕ) → option_map (λ part. get_or done part void) (slice_get parts k) ≡ field_type (trees_at done parts) k
field_told done [] k = refl
field_told done (part ∷ parts) zero = refl
field_told done (part ∷ parts) (suc k) = field_told done parts k

-- ---- what an index leads to

pub indexed_in_array : (t : Types) (n part : ℕ) (u : Tree) (index : Index) → IsOpened t (array_of n part) u → Some (tree t part) ≡ indexed u index
indexed_in_array t n part u index h = sym (ap (λ v. indexed v index) h.0)

fields_indexed : (t : Types) (parts : List ℕ) (number : Option ℕ) → option_map (tree t) (option_and_then (slice_get parts) number) ≡ option_and_then (field_type (trees_at (trees t) parts)) number
fields_indexed t parts None = refl
fields_indexed t parts (Some k) = field_told (trees t) parts k

pub indexed_in_struct : (t : Types) (packed : Bool) (parts : List ℕ) (u : Tree) (index : Index) → IsOpened t (struct_of packed parts) u → is_integer_of 32 index.ty ≡ true
    → option_map (tree t) (option_and_then (slice_get parts) index.number) ≡ indexed u index
indexed_in_struct t packed parts u index h e =
    fields_indexed t parts index.number
    ∙ sym (ap (λ v. indexed v index) h.0 ∙ ap (λ b. cond b (option_and_then (field_type (trees_at (trees t) parts)) index.number) None) e)

pub indexed_by_other : (t : Types) (packed : Bool) (parts : List ℕ) (u : Tree) (index : Index) → IsOpened t (struct_of packed parts) u → is_integer_of 32 index.ty ≡ false → None ≡ indexed u index
indexed_by_other t packed parts u index h e = sym (ap (λ v. indexed v index) h.0 ∙ ap (λ b. cond b (option_and_then (field_type (trees_at (trees t) parts)) index.number) None) e)

pub indexed_in_other : (u : Tree) (index : Index) → has_no_parts u ≡ true → None ≡ indexed u index
indexed_in_other (int w) index h = refl
indexed_in_other ptr index h = refl
indexed_in_other void index h = refl
indexed_in_other (array n t) index h = absurd (true≢false (sym h))
indexed_in_other (struct packed ts) index h = absurd (true≢false (sym h))
indexed_in_other (named name) index h = refl

pub field_known : (t : Types) (parts : List ℕ) (number : Option ℕ) → All (λ part. part < length t.types) parts → IfSome (option_and_then (slice_get parts) number) (λ part. part < length t.types)
field_known t parts None all = tt
field_known t parts (Some k) all = by (slice_get parts k) refl
  where
    by : (o : Option ℕ) → slice_get parts k ≡ o → IfSome o (λ part. part < length t.types)
    by None e = tt
    by (Some part) e = one_known (length t.types) parts k part all e

-- ---- what stands in the table

pub opened_at : (t u : Types) → t ≡ u → IsGood t → (ty : ℕ) → ty < length t.types → (o : OpenedIds) → o ≡ opened_type t ty → IsOpened u o (opened (structs u) (tree u ty))
opened_at t u same good ty lt o e =
    subst (λ (v : Types). IsOpened v o (opened (structs v) (tree v ty))) same
    (subst (λ (p : OpenedIds). IsOpened t p (opened (structs t) (tree t ty))) (sym e) (opened_told t good ty lt))

pub opened_here : (t : Types) (ty : ℕ) (x : IrType) → slice_get t.types ty ≡ Some x → opened_by (bodies t) x ≡ opened_type t ty
opened_here t ty x at = ap (opened_by (bodies t)) (sym (get_or_from_slice_get t.types ty x type.Void at))

pub struct_known : (t : Types) → IsGood t → (ty id : ℕ) → slice_get t.types ty ≡ Some (type.Named id) → id < length t.structs
struct_known t good ty id at =
    subst (λ (x : IrType). Knows ty (length t.structs) x) (get_or_from_slice_get t.types ty (type.Named id) type.Void at)
    (type_known t good ty (slice_get_within t.types ty (type.Named id) at))
