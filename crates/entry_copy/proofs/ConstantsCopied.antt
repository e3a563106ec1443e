-- What is made of copied constants, and that one constant more is copied.
use Rattle.std.proofs.Common.{◌≡◌, ℕ, ◌<◌, ◌≤◌, ◌⊎◌, inl, inr, List, [], ◌∷◌, ◌++◌, map, flat_map, length, get_or, slice_get, All, Option, Some, None, IsSome, refl, sym, ap, ◌∙◌, subst, arith}
use Rattle.std.proofs.lemmas.Bool.{cases_lt}
use Rattle.std.proofs.lemmas.List.{length_push, get_or_append_left, get_or_push, length-map}
use Rattle.std.proofs.lemmas.List.Elements.{All-get_or, All-push, All-weaker, All-cons, All-nil, All-head}
use Rattle.std.proofs.lemmas.Option.{slice_get-get_or, slice_get_within, slice_get-map}
use Rattle.std.specs.Option.{option_map}
use Rattle.type_table.specs.Types.{trees}
use Rattle.module_arena.specs.declared.constant.Const as the_const
use Rattle.module_arena.specs.declared.constant.Const.TheVariants as const
use Rattle.module_arena.specs.declared.constant.TypedConst.{TypedConst}
use Rattle.module_arena.specs.declared.entry.Alias.{Alias}
use Rattle.module_arena.specs.declared.entry.Body.{Body}
use Rattle.module_arena.specs.declared.entry.Function.{Function}
use Rattle.module_arena.specs.declared.entry.GlobalId.{GlobalId}
use Rattle.module_arena.specs.declared.entry.GlobalId.TheVariants as global
use Rattle.module_arena.specs.declared.entry.Variable.{Variable}
use Rattle.module_arena.specs.Changes.{constant_in}
use Rattle.module_arena.specs.Known.{counts, HasGlobal, KnowsConst, KnowsBody, IsGood}
use Rattle.module_arena.specs.Lists.{Lists, global_name, name_at}
use Rattle.module_arena.specs.Mentions.{typed_in, types_in, globals_in}
use Rattle.module_arena.specs.Module.{Bytes, LocalName}
use Rattle.module_arena.specs.Renamed.{renamed_tree, renamed_constant, renamed_block}
use Rattle.module_arena.specs.UsedNames.{names_in_constant, names_in_block}
use Rattle.module_arena.specs.View.{type_at, constant_at, constants_of}
use Rattle.module_arena.proofs.ConstantsTold.{const_known, constant_here}
use Rattle.item_build.specs.Types.Stands.{IsConstant, Grows}
use Rattle.entry_copy.specs.Copies.{CopiesTypes, CopiesConstants, Copies, HasNew, IsBody, blocks_of}
use Rattle.entry_copy.specs.Moved.{address_of, moved_constant, moved_body}
use Rattle.entry_copy.specs.Tables.{Tables, with_constants, new_type, new_constant, new_global}
use Rattle.entry_copy.proofs.Moving.{constant_moved, body_moved}
use Rattle.entry_copy.proofs.Keeping.{types_known, typed_known, typed_in-moved, types_in-moved, body_known}
use Rattle.entry_copy.proofs.TypesCopied.{type_is, type_there}

-- an entry that is there has its name
module _ {X : Type 0} (name : X → List ℕ) (xs : List X) (id : ℕ) (lt : id < length xs) where
  has_name : option_map name (slice_get xs id) ≡ Some (get_or (map name xs) id [])
  has_name =
      let long = length-map xs name in
      sym (slice_get-map name xs id) ∙ slice_get-get_or (map name xs) id [] (omega (arith, lt, long))

pub name_is : (a : Lists) (g : GlobalId) → HasGlobal (counts a) g → global_name a g ≡ Some (name_at a g)
name_is a (global.Variable id) lt = has_name (λ (v : Variable). v.name) a.variables id lt
name_is a (global.Function id) lt = has_name (λ (f : Function). f.name) a.functions id lt
name_is a (global.Alias id) lt = has_name (λ (x : Alias). x.name) a.aliases id lt

-- entries stay where only types and constants are added
module _ (a b : Lists) (g : Grows a b) where
  name_stays : (h : GlobalId) → name_at b h ≡ name_at a h
  name_stays (global.Variable id) = ap (λ xs. get_or (map (λ (v : Variable). v.name) xs) id []) g.variables
  name_stays (global.Function id) = ap (λ xs. get_or (map (λ (f : Function). f.name) xs) id []) g.functions
  name_stays (global.Alias id) = ap (λ xs. get_or (map (λ (x : Alias). x.name) xs) id []) g.aliases

  counts_stay : counts b ≡ counts a
  counts_stay = λ j. record { variables = length (g.variables j); aliases = length (g.aliases j); functions = length (g.functions j) }

module _ (structs globals : Bytes → Bytes) (a b : Lists) (t : Tables) (ht : CopiesTypes structs a b t) (hc : CopiesConstants structs globals a b t) where
  constant_is : (id : ℕ) → id < length t.constants → All (HasNew a t) (names_in_constant (constant_at (constants_of a) id))
      → constant_at (constants_of b) (new_constant t id) ≡ renamed_constant structs globals (constant_at (constants_of a) id)
  constant_is id lt named = (hc.constants id lt named).constant

  constant_there : (id : ℕ) → id < length t.constants → new_constant t id < length b.constants
  constant_there id lt = All-get_or (λ k. k < length b.constants) t.constants id id lt hc.known

  global_is : (g : GlobalId) → HasGlobal (counts a) g → HasNew a t (name_at a g) → (h : GlobalId) × (new_global t g ≡ Some h) × (name_at b h ≡ globals (name_at a g))
  global_is g lt new = by (new_global t g) refl (new g (name_is a g lt))
    where
      by : (o : Option GlobalId) → new_global t g ≡ o → IsSome o → (h : GlobalId) × (new_global t g ≡ Some h) × (name_at b h ≡ globals (name_at a g))
      by None e is = absurd cc
      by (Some h) e is = (h, e, (hc.entries g h lt e).1)

  -- ---- the constants go on to stand where the arena grows

  pub constants_still : (c : Lists) → Grows b c → CopiesConstants structs globals a c t
  constants_still c g = record {
    entries = λ x y lt e. let old = hc.entries x y lt e in (subst (λ n. HasGlobal n y) (sym (counts_stay b c g)) old.0, name_stays b c g y ∙ old.1);
    few_constants = hc.few_constants;
    known = All-weaker (λ k. k < length b.constants) (λ k. k < length c.constants) (λ k lt. (g.constants k (constant_at (constants_of b) k) (record { known = lt; constant = refl })).known) t.constants hc.known;
    constants = λ id lt named. g.constants (new_constant t id) (renamed_constant structs globals (constant_at (constants_of a) id)) (hc.constants id lt named);
  }

  -- ---- what has constants in it

  module _ (all : length t.types ≡ length a.table.types) where
    some_type_is : (id : ℕ) → id < length a.table.types → type_at (trees b.table) (new_type t id) ≡ renamed_tree structs (type_at (trees a.table) id)
    some_type_is id lt = type_is structs a b t ht id (let e = all in omega (arith, e, lt))

    some_type_there : (id : ℕ) → id < length a.table.types → new_type t id < length b.table.types
    some_type_there id lt = type_there structs a b t ht id (let e = all in omega (arith, e, lt))

    constant_made : (c : the_const.Const) → KnowsConst (length a.table.types) (counts a) (length t.constants) c → All (HasNew a t) (names_in_constant (constant_in a c))
        → constant_in b (moved_constant t c) ≡ renamed_constant structs globals (constant_in a c)
    constant_made c k named =
        constant_moved t structs (trees a.table) (trees b.table) (length a.table.types) some_type_is globals (constants_of a) (constants_of b) (length t.constants) (HasNew a t) constant_is
        (name_at a) (name_at b) (counts a) global_is c k named

    globals_there : (c : the_const.Const) → All (HasGlobal (counts a)) (globals_in c) → All (HasGlobal (counts b)) (globals_in (moved_constant t c))
    globals_there (const.Integer number) k = All-nil (HasGlobal (counts b))
    globals_there (const.Truth truth) k = All-nil (HasGlobal (counts b))
    globals_there const.Null k = All-nil (HasGlobal (counts b))
    globals_there const.Undef k = All-nil (HasGlobal (counts b))
    globals_there const.Poison k = All-nil (HasGlobal (counts b))
    globals_there const.ZeroInitializer k = All-nil (HasGlobal (counts b))
    globals_there (const.Address g) k = by (new_global t g) refl
      where
        by : (o : Option GlobalId) → new_global t g ≡ o → All (HasGlobal (counts b)) (globals_in (address_of o))
        by None e = All-nil (HasGlobal (counts b))
        by (Some h) e = All-cons (HasGlobal (counts b)) h [] (hc.entries g h (All-head (HasGlobal (counts a)) g [] k) e).0 (All-nil (HasGlobal (counts b)))
    globals_there (const.ByteString bytes) k = All-nil (HasGlobal (counts b))
    globals_there (const.Aggregate round elements) k = All-nil (HasGlobal (counts b))
    globals_there (const.ElementAddress flags address) k = All-nil (HasGlobal (counts b))
    globals_there (const.Cast opcode operand to) k = All-nil (HasGlobal (counts b))
    globals_there (const.Binary opcode flags pair) k = All-nil (HasGlobal (counts b))

    constant_fits_in : (c : the_const.Const) → KnowsConst (length a.table.types) (counts a) (length t.constants) c → KnowsConst (length b.table.types) (counts b) (length b.constants) (moved_constant t c)
    constant_fits_in c k = record {
      types_known = subst (All (λ ty. ty < length b.table.types)) (sym (types_in-moved t c)) (types_known t (length a.table.types) (length b.table.types) some_type_there (types_in c) k.types_known);
      typed_known = subst (All (λ (x : TypedConst). (x.ty < length b.table.types) × (x.value < length b.constants))) (sym (typed_in-moved t c))
          (typed_known t (length a.table.types) (length b.table.types) some_type_there (length t.constants) (length b.constants) constant_there (typed_in c) k.typed_known);
      globals_known = globals_there c k.globals_known;
    }

    -- ---- the next constant

    module _ (good : IsGood a) (x : the_const.Const) (next : ℕ) (place : next ≡ length t.constants) (is : slice_get a.constants next ≡ Some x) where
      known : KnowsConst (length a.table.types) (counts a) (length t.constants) x
      known = subst (λ n. KnowsConst (length a.table.types) (counts a) n x) place (const_known a good next x is)

      pub next_known : KnowsConst (length b.table.types) (counts b) (length b.constants) (moved_constant t x)
      next_known = constant_fits_in x known

      pub next_copied : (c : Lists) → Grows b c → (id : ℕ) → IsConstant c id (constant_in b (moved_constant t x)) → CopiesConstants structs globals a c (with_constants t (t.constants ++ id ∷ []))
      next_copied c g id made = record {
        entries = (constants_still c g).entries;
        few_constants = (let many = length_push t.constants id in let lt = slice_get_within a.constants next x is in let e = place in omega (arith, many, lt, e));
        known = All-push (λ k. k < length c.constants) t.constants id (constants_still c g).known made.known;
        constants = each;
      }
        where
          now : List ℕ
          now = t.constants ++ id ∷ []

          each : (k : ℕ) → k < length now → All (HasNew a t) (names_in_constant (constant_at (constants_of a) k)) → IsConstant c (get_or now k k) (renamed_constant structs globals (constant_at (constants_of a) k))
          each k lt named = by (cases_lt k (length t.constants))
            where
              by : ((k < length t.constants) ⊎ (length t.constants ≤ k)) → IsConstant c (get_or now k k) (renamed_constant structs globals (constant_at (constants_of a) k))
              by (inl before) = subst (λ i. IsConstant c i (renamed_constant structs globals (constant_at (constants_of a) k))) (sym (get_or_append_left t.constants (id ∷ []) k k before)) ((constants_still c g).constants k before named)
              by (inr behind) =
                  let many = length_push t.constants id in
                  let here : k ≡ next = (let e = place in omega (arith, many, lt, behind, e)) in
                  let last : length t.constants ≡ k = omega (arith, many, lt, behind) in
                  let told : constant_at (constants_of a) k ≡ constant_in a x = ap (constant_at (constants_of a)) here ∙ constant_here a good next x is in
                  subst (λ i. IsConstant c i (renamed_constant structs globals (constant_at (constants_of a) k))) (sym (get_or_push t.constants id k k last))
                  (subst (λ y. IsConstant c id y)
                  (constant_made x known (subst (λ y. All (HasNew a t) (names_in_constant y)) told named) ∙ ap (renamed_constant structs globals) (sym told)) made)

-- ---- bodies

pub body_copied : (structs globals : Bytes → Bytes) (a b : Lists) (t : Tables) → Copies structs globals a b t → (parameters : List LocalName) (body : Body)
    → KnowsBody (length a.table.types) (length a.constants) (length parameters) body → All (HasNew a t) (flat_map names_in_block (blocks_of a parameters body))
    → IsBody b parameters (moved_body t body) (map (renamed_block structs globals) (blocks_of a parameters body))
body_copied structs globals a b t h parameters body k named =
    let is : (id : ℕ) → id < length a.constants → All (HasNew a t) (names_in_constant (constant_at (constants_of a) id)) → constant_at (constants_of b) (new_constant t id) ≡ renamed_constant structs globals (constant_at (constants_of a) id) =
    λ id lt n. constant_is structs globals a b t h.types h.constants id (let e = h.all_constants in omega (arith, e, lt)) n in
    let there : (id : ℕ) → id < length a.constants → new_constant t id < length b.constants =
    λ id lt. constant_there structs globals a b t h.types h.constants id (let e = h.all_constants in omega (arith, e, lt)) in
    record {
      known = body_known t (length a.table.types) (length b.table.types) (some_type_there structs globals a b t h.types h.constants h.all_types) (length a.constants) (length b.constants) there (length parameters) body k;
      blocks = body_moved t structs (trees a.table) (trees b.table) (length a.table.types) (some_type_is structs globals a b t h.types h.constants h.all_types) globals (constants_of a) (constants_of b) (length a.constants) (HasNew a t) is parameters body k named;
    }
