-- The types of host functions: what is compared by parts is what is compared as trees.
use Rattle.std.proofs.Common.{◌≡◌, ℕ, zero, suc, ◌+◌, ◌<◌, Bool, true, false, ◌&&◌, ◌||◌, List, [], ◌∷◌, map, length, drop, get_or, slice_get, Some, All, refl, sym, ap, ◌∙◌, subst, arith}
use Rattle.std.proofs.lemmas.List.Elements.{All-weaker}
use Rattle.ir_tables.specs.declared.intrinsic.Intrinsic.{Intrinsic}
use Rattle.std.proofs.lemmas.Option.{get_or_from_slice_get, slice_get_within}
use Rattle.type_table.specs.declared.ir_type.IrType.{IrType}
use Rattle.type_table.specs.declared.ir_type.IrType.TheVariants as type
use Rattle.type_table.specs.Tree.{Tree, int, ptr, void, no_trees, more_trees}
use Rattle.type_table.specs.Types.{Types, IsGood, Knows, AllKnown, names, trees, trees_at, tree_of, tree}
use Rattle.type_table.proofs.Outlined.{tree-is}
use Rattle.module_arena.specs.declared.host.HostType.{HostType}
use Rattle.module_arena.specs.declared.host.HostType.TheVariants as host
use Rattle.module_arena.specs.Same.{same_type, same_types}
use Rattle.module_arena.specs.HostRows.{HostRow, Putchar, Puts, Getchar, Exit, Abort, Malloc, Free, Memcpy, Memmove, Memset, Strlen, MemcpyI64, MemmoveI64, MemsetI64, MemcpyI32, MemmoveI32, MemsetI32, LifetimeStart, LifetimeEnd, Printf, Integer, fixed, pair_tree, integer_returns, integer_parameters, same_type_list, same_signature, signature_of, is_declared_as}
use Rattle.std.specs.Prelude.{Option, None, is_none, is_some, not}
use Rattle.std.proofs.lemmas.Bool.{false≢true}
use Rattle.std.specs.Bool.{beq}
use Rattle.std.specs.Option.{option_map}
use Rattle.module_arena.specs.declared.entry.Function as the_function
use Rattle.module_arena.specs.declared.entry.Parameter as the_parameter
use Rattle.module_arena.specs.Changes.{function_in}
use Rattle.module_arena.specs.Lists.{Lists}
use Rattle.module_arena.specs.Module as modules
use Rattle.module_arena.specs.View.{local_view, parameter_view, body_view, constants_of}
use Rattle.module_arena.specs.HostTypes.{host_tree, is_of, is_declared_with, first_types, is_declared_by_forms}
use Rattle.module_arena.proofs.Found.{some-equal, none≢some}

and_false : (x : Bool) {y : Bool} → y ≡ false → (x && y) ≡ false
and_false true h = h
and_false false h = refl

-- one that is no struct
abbrev pub is_plain : HostType → Bool
is_plain (host.Pair width) = false
is_plain wanted = true

by_parts : (ns : List (List ℕ)) (done : List Tree) (x : IrType) (wanted : HostType) → is_plain wanted ≡ true → same_type (tree_of ns done x) (host_tree wanted) ≡ is_of x wanted
by_parts ns done x (host.Pair width) plain = absurd (false≢true plain)
by_parts ns done (type.Int w) (host.Int v) plain = refl
by_parts ns done (type.Int w) host.Ptr plain = refl
by_parts ns done (type.Int w) host.Void plain = refl
by_parts ns done type.Ptr (host.Int v) plain = refl
by_parts ns done type.Ptr host.Ptr plain = refl
by_parts ns done type.Ptr host.Void plain = refl
by_parts ns done type.Void (host.Int v) plain = refl
by_parts ns done type.Void host.Ptr plain = refl
by_parts ns done type.Void host.Void plain = refl
by_parts ns done (type.Array n part) (host.Int v) plain = refl
by_parts ns done (type.Array n part) host.Ptr plain = refl
by_parts ns done (type.Array n part) host.Void plain = refl
by_parts ns done (type.Struct packed parts) (host.Int v) plain = refl
by_parts ns done (type.Struct packed parts) host.Ptr plain = refl
by_parts ns done (type.Struct packed parts) host.Void plain = refl
by_parts ns done (type.Named id) (host.Int v) plain = refl
by_parts ns done (type.Named id) host.Ptr plain = refl
by_parts ns done (type.Named id) host.Void plain = refl

pub tree_here : (t : Types) (ty : ℕ) (x : IrType) → IsGood t → slice_get t.types ty ≡ Some x → tree t ty ≡ tree_of (names t) (trees t) x
tree_here t ty x good at = tree-is t good ty (slice_get_within t.types ty x at) ∙ ap (tree_of (names t) (trees t)) (get_or_from_slice_get t.types ty x type.Void at)

pub host_type_is : (t : Types) (ty : ℕ) (x : IrType) (wanted : HostType) → IsGood t → is_plain wanted ≡ true → slice_get t.types ty ≡ Some x → same_type (tree t ty) (host_tree wanted) ≡ is_of x wanted
host_type_is t ty x wanted good plain at =
    ap (λ u. same_type u (host_tree wanted)) (tree_here t ty x good at) ∙ by_parts (names t) (trees t) x wanted plain

pub plain_other : (wanted : HostType) → ((width : ℕ) → wanted ≡ host.Pair width → ⊥) → is_plain wanted ≡ true
plain_other (host.Int width) other = refl
plain_other host.Ptr other = refl
plain_other host.Void other = refl
plain_other (host.Pair width) other = absurd (other width refl)

-- ---- pairs

-- no pair
no_struct : (ns : List (List ℕ)) (done : List Tree) (x : IrType) (width : ℕ) → ((packed : Bool) (parts : List ℕ) → x ≡ type.Struct packed parts → ⊥) → same_type (tree_of ns done x) (pair_tree width) ≡ false
no_struct ns done (type.Int w) width other = refl
no_struct ns done type.Ptr width other = refl
no_struct ns done type.Void width other = refl
no_struct ns done (type.Array n part) width other = refl
no_struct ns done (type.Struct packed parts) width other = absurd (other packed parts refl)
no_struct ns done (type.Named id) width other = refl

pub no_pair : (t : Types) (ty : ℕ) (x : IrType) (width : ℕ) → IsGood t → slice_get t.types ty ≡ Some x → ((packed : Bool) (parts : List ℕ) → x ≡ type.Struct packed parts → ⊥)
    → same_type (tree t ty) (pair_tree width) ≡ false
no_pair t ty x width good at other = ap (λ u. same_type u (pair_tree width)) (tree_here t ty x good at) ∙ no_struct (names t) (trees t) x width other

pub packed_pair : (t : Types) (ty : ℕ) (parts : List ℕ) (width : ℕ) → IsGood t → slice_get t.types ty ≡ Some (type.Struct true parts) → same_type (tree t ty) (pair_tree width) ≡ false
packed_pair t ty parts width good at = ap (λ u. same_type u (pair_tree width)) (tree_here t ty (type.Struct true parts) good at)

-- so many fields that are not two
other_fields : (done : List Tree) (width : ℕ) (parts : List ℕ) → (length parts ≡ 2 → ⊥) → same_types (trees_at done parts) (more_trees (int width) (more_trees (int 1) no_trees)) ≡ false
other_fields done width [] other = refl
other_fields done width (a ∷ []) other = and_false (same_type (get_or done a void) (int width)) refl
other_fields done width (a ∷ b ∷ []) other = absurd (other refl)
other_fields done width (a ∷ b ∷ c ∷ parts) other = and_false (same_type (get_or done a void) (int width)) (and_false (same_type (get_or done b void) (int 1)) refl)

pub other_pair : (t : Types) (ty : ℕ) (parts : List ℕ) (width : ℕ) → IsGood t → slice_get t.types ty ≡ Some (type.Struct false parts) → (length parts ≡ 2 → ⊥) → same_type (tree t ty) (pair_tree width) ≡ false
other_pair t ty parts width good at other = ap (λ u. same_type u (pair_tree width)) (tree_here t ty (type.Struct false parts) good at) ∙ other_fields (trees t) width parts other

and_true : (x y : Bool) → (x && (y && true)) ≡ (x && y)
and_true true true = refl
and_true true false = refl
and_true false y = refl

pub pair_is : (t : Types) (ty a b : ℕ) (x y : IrType) (width : ℕ) → IsGood t → slice_get t.types ty ≡ Some (type.Struct false (a ∷ b ∷ [])) → slice_get t.types a ≡ Some x → slice_get t.types b ≡ Some y
    → (is_of x (host.Int width) && is_of y (host.Int 1)) ≡ same_type (tree t ty) (pair_tree width)
pair_is t ty a b x y width good at first second =
    (λ j. sym (host_type_is t a x (host.Int width) good refl first) j && sym (host_type_is t b y (host.Int 1) good refl second) j)
    ∙ sym (and_true (same_type (tree t a) (int width)) (same_type (tree t b) (int 1)))
    ∙ ap (λ u. same_type u (pair_tree width)) (sym (tree_here t ty (type.Struct false (a ∷ b ∷ [])) good at))

pub two_fields : (parts : List ℕ) (a b : ℕ) → length parts ≡ 2 → slice_get parts 0 ≡ Some a → slice_get parts 1 ≡ Some b → parts ≡ a ∷ b ∷ []
two_fields [] a b two p q = absurd (none≢some p)
two_fields (x ∷ []) a b two p q = absurd (none≢some q)
two_fields (x ∷ y ∷ []) a b two p q = λ j. some-equal p j ∷ some-equal q j ∷ []
two_fields (x ∷ y ∷ z ∷ parts) a b two p q = absurd (omega arith)

pub field_known : (count : ℕ) (parts : List ℕ) (i a : ℕ) → All (λ part. part < count) parts → slice_get parts i ≡ Some a → a < count
field_known count parts i a all at = subst (λ k. k < count) (get_or_from_slice_get parts i a a at) (all i a (slice_get_within parts i a at))

-- the parts of a type of a table are types of it
known_at : (known count : ℕ) (types : List IrType) (i : ℕ) (x : IrType) → AllKnown count known types → slice_get types i ≡ Some x → Knows (count + i) known x
known_at known count [] i x all at = absurd (none≢some at)
known_at known count (y ∷ types) zero x all at = subst (λ n. Knows n known x) (omega arith) (subst (Knows count known) (some-equal at) all.0)
known_at known count (y ∷ types) (suc i) x all at = subst (λ n. Knows n known x) (omega arith) (known_at known (count + 1) types i x all.1 at)

pub parts_known : (t : Types) (ty : ℕ) (packed : Bool) (parts : List ℕ) → IsGood t → slice_get t.types ty ≡ Some (type.Struct packed parts) → All (λ part. part < length t.types) parts
parts_known t ty packed parts good at =
    let lt = slice_get_within t.types ty (type.Struct packed parts) at in
    All-weaker (λ part. part < 0 + ty) (λ part. part < length t.types) (λ part k. omega (arith, lt, k)) parts (known_at (length t.structs) 0 t.types ty (type.Struct packed parts) good.known at)

-- lists of types of other lengths differ
pub other_length : (as_ bs : List Tree) → (length as_ ≡ length bs → ⊥) → same_type_list as_ bs ≡ false
other_length [] [] n = absurd (n refl)
other_length [] (b ∷ bs) n = refl
other_length (a ∷ as_) [] n = refl
other_length (a ∷ as_) (b ∷ bs) n = and_false (same_type a b) (other_length as_ bs (λ e. n (ap suc e)))

module _ {A B : Type 0} (f : A → Tree) (g : B → Tree) where
  -- what is left to compare, one by one
  pub next_compared : (xs : List A) (ys : List B) (i : ℕ) (x : A) (y : B) → slice_get xs i ≡ Some x → slice_get ys i ≡ Some y
      → same_type_list (map f (drop i xs)) (map g (drop i ys)) ≡ (same_type (f x) (g y) && same_type_list (map f (drop (suc i) xs)) (map g (drop (suc i) ys)))
  next_compared [] ys i x y p q = absurd (none≢some p)
  next_compared (v ∷ xs) [] i x y p q = absurd (none≢some q)
  next_compared (v ∷ xs) (w ∷ ys) zero x y p q = λ j. same_type (f (some-equal p j)) (g (some-equal q j)) && same_type_list (map f xs) (map g ys)
  next_compared (v ∷ xs) (w ∷ ys) (suc i) x y p q = next_compared xs ys i x y p q

-- ---- a function that is declared

pub is_none-map : {A B : Type 0} (f : A → B) (o : Option A) → is_none (option_map f o) ≡ is_none o
is_none-map f None = refl
is_none-map f (Some x) = refl

pub none_told : {A : Type 0} (o : Option A) (r : Bool) → is_some o ≡ not r → r ≡ is_none o
none_told None true e = refl
none_told None false e = absurd (false≢true e)
none_told (Some x) true e = absurd (false≢true (sym e))
none_told (Some x) false e = refl

types-view : (ts : List Tree) (ps : List the_parameter.Parameter) → map (λ (p : modules.Parameter). p.ty) (map (parameter_view ts) ps) ≡ map (λ (p : the_parameter.Parameter). get_or ts p.ty void) ps
types-view ts [] = refl
types-view ts (p ∷ ps) = ap (λ us. get_or ts p.ty void ∷ us) (types-view ts ps)

and_flat : (a b c d : Bool) → (((a && b) && c) && d) ≡ (a && (b && (c && d)))
and_flat true true c d = refl
and_flat true false c d = refl
and_flat false b c d = refl

-- what is told of it part by part
pub declared_by_parts : (a : Lists) (f : the_function.Function) (t : Tree) (ts : List Tree) (v : Bool)
    → (((is_none f.body && same_type (tree a.table f.result) t) && same_type_list (map (λ (p : the_parameter.Parameter). tree a.table p.ty) f.parameters) ts) && beq f.variadic v)
    ≡ is_declared_with (function_in a f) t ts v
declared_by_parts a f t ts v =
    and_flat (is_none f.body) (same_type (tree a.table f.result) t) (same_type_list (map (λ (p : the_parameter.Parameter). tree a.table p.ty) f.parameters) ts) (beq f.variadic v)
    ∙ (λ j. sym (is_none-map (body_view (trees a.table) (constants_of a) (map (λ (p : the_parameter.Parameter). local_view p.name) f.parameters)) f.body) j && (same_type (tree a.table f.result) t && (same_type_list (sym (types-view (trees a.table) f.parameters) j) ts && beq f.variadic v)))

one_form : (n x s : Bool) → (n && (x || false)) ≡ ((n && x) || (false && s))
one_form true true s = refl
one_form true false s = refl
one_form false x s = refl

two_forms : (n x y : Bool) → (n && (x || (y || false))) ≡ ((n && x) || (true && (n && y)))
two_forms true true y = refl
two_forms true false true = refl
two_forms true false false = refl
two_forms false x y = refl

-- the types of a row are its first ones, and for some rows a pointer alone
pub declared_by_forms : (row : HostRow) (f : modules.Function) → ((which : Intrinsic) (width : ℕ) → row ≡ Integer which width → ⊥)
    → is_declared_as row f ≡ is_declared_by_forms row f
declared_by_forms Putchar f other = one_form (is_none f.body) (same_signature (signature_of f) (first_types Putchar)) (is_declared_with f void (ptr ∷ []) false)
declared_by_forms Puts f other = one_form (is_none f.body) (same_signature (signature_of f) (first_types Puts)) (is_declared_with f void (ptr ∷ []) false)
declared_by_forms Getchar f other = one_form (is_none f.body) (same_signature (signature_of f) (first_types Getchar)) (is_declared_with f void (ptr ∷ []) false)
declared_by_forms Exit f other = one_form (is_none f.body) (same_signature (signature_of f) (first_types Exit)) (is_declared_with f void (ptr ∷ []) false)
declared_by_forms Abort f other = one_form (is_none f.body) (same_signature (signature_of f) (first_types Abort)) (is_declared_with f void (ptr ∷ []) false)
declared_by_forms Malloc f other = one_form (is_none f.body) (same_signature (signature_of f) (first_types Malloc)) (is_declared_with f void (ptr ∷ []) false)
declared_by_forms Free f other = one_form (is_none f.body) (same_signature (signature_of f) (first_types Free)) (is_declared_with f void (ptr ∷ []) false)
declared_by_forms Memcpy f other = one_form (is_none f.body) (same_signature (signature_of f) (first_types Memcpy)) (is_declared_with f void (ptr ∷ []) false)
declared_by_forms Memmove f other = one_form (is_none f.body) (same_signature (signature_of f) (first_types Memmove)) (is_declared_with f void (ptr ∷ []) false)
declared_by_forms Memset f other = one_form (is_none f.body) (same_signature (signature_of f) (first_types Memset)) (is_declared_with f void (ptr ∷ []) false)
declared_by_forms Strlen f other = one_form (is_none f.body) (same_signature (signature_of f) (first_types Strlen)) (is_declared_with f void (ptr ∷ []) false)
declared_by_forms MemcpyI64 f other = one_form (is_none f.body) (same_signature (signature_of f) (first_types MemcpyI64)) (is_declared_with f void (ptr ∷ []) false)
declared_by_forms MemmoveI64 f other = one_form (is_none f.body) (same_signature (signature_of f) (first_types MemmoveI64)) (is_declared_with f void (ptr ∷ []) false)
declared_by_forms MemsetI64 f other = one_form (is_none f.body) (same_signature (signature_of f) (first_types MemsetI64)) (is_declared_with f void (ptr ∷ []) false)
declared_by_forms MemcpyI32 f other = one_form (is_none f.body) (same_signature (signature_of f) (first_types MemcpyI32)) (is_declared_with f void (ptr ∷ []) false)
declared_by_forms MemmoveI32 f other = one_form (is_none f.body) (same_signature (signature_of f) (first_types MemmoveI32)) (is_declared_with f void (ptr ∷ []) false)
declared_by_forms MemsetI32 f other = one_form (is_none f.body) (same_signature (signature_of f) (first_types MemsetI32)) (is_declared_with f void (ptr ∷ []) false)
declared_by_forms Printf f other = one_form (is_none f.body) (same_signature (signature_of f) (first_types Printf)) (is_declared_with f void (ptr ∷ []) false)
declared_by_forms LifetimeStart f other = two_forms (is_none f.body) (same_signature (signature_of f) (first_types LifetimeStart)) (same_signature (signature_of f) (record { returns = void; parameters = ptr ∷ []; variadic = false }))
declared_by_forms LifetimeEnd f other = two_forms (is_none f.body) (same_signature (signature_of f) (first_types LifetimeEnd)) (same_signature (signature_of f) (record { returns = void; parameters = ptr ∷ []; variadic = false }))
declared_by_forms (Integer which width) f other = absurd (other which width refl)

pub declared_as_integer : (which : Intrinsic) (width : ℕ) (f : modules.Function) → is_declared_as (Integer which width) f ≡ is_declared_with f (integer_returns which width) (integer_parameters which width) false
declared_as_integer which width f = one (is_none f.body) (same_signature (signature_of f) (fixed (integer_returns which width) (integer_parameters which width)))
  where
    one : (n x : Bool) → (n && (x || false)) ≡ (n && x)
    one true true = refl
    one true false = refl
    one false x = refl
