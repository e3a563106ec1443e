-- What types and constants ask for does not see places.
use Rattle.std.specs.Prelude.{◌≡◌, refl, Bool, true, false, not, ◌||◌, is_some, List, [], ◌∷◌, ◌++◌, map, bytes_eq, cond, Option, Some, None}
use Rattle.std.proofs.Common.{ap, ◌∙◌}
use Rattle.ir_base.specs.declared.place.Place.{Place}
use Rattle.ir_terminals.specs.declared.values.PlacedName.{PlacedName}
use Rattle.ir_phrases.specs.Constants.Tree.{TypeTree, IntegerType, PointerType, VoidType, ArrayType, StructType, NamedType, TypeTrees, no_types, more_types, types, ConstantTree, IntegerConstant, SimpleConstant, AddressConstant, BytesConstant, ListConstant, ElementAddress, Conversion, Arithmetic, ConstantTrees, no_constants, more_constants}
use Rattle.ir_syntax.specs.Tree.{BodyTree, OpaqueBody, PlainBody, PackedBody}
use Rattle.type_table.specs.Tree.{Tree}
use Rattle.module_arena.specs.Module.{Bytes}
use Rattle.canonical.specs.Items.Unplaced.{unplaced_name, unplaced_type, unplaced_types, unplaced_constant, unplaced_constants, unplaced_body}
use Rattle.canonical.proofs.OnModules.Places.{type_unseen}
use Rattle.name_rules.specs.Written.{type_in}
use Rattle.name_rules.specs.Measured.{tree_measured}
use Rattle.name_rules.specs.Demand.{Demand, is_first, is_new, place_of_name, is_deep, is_large, is_natural, nests, is_small}
use Rattle.name_rules.specs.TypeDemands.{Known, struct_measured, measured, is_long, is_past, has_past, have_past, type_demands, types_demands, body_types, ends, struct_type_demands, constant_demands, constants_demands}
use Rattle.canonical.proofs.OnReads.Asked.{answers, Same, same_both}

-- ---- names

pub same_first : (p q : Place) (o r : Option Place) → is_some o ≡ is_some r → Same (is_first p o) (is_first q r)
same_first p q None None e = refl
same_first p q None (Some r) e = absurd cc
same_first p q (Some o) None e = absurd cc
same_first p q (Some o) (Some r) e = refl

pub name_found : (before : List PlacedName) (name : Bytes) → is_some (place_of_name (map unplaced_name before) name) ≡ is_some (place_of_name before name)
name_found [] name = refl
name_found (n ∷ before) name = by (bytes_eq n.name name) (name_found before name)
  where
    by : (b : Bool) → is_some (place_of_name (map unplaced_name before) name) ≡ is_some (place_of_name before name)
        → is_some (cond b (Some (unplaced_name n).place) (place_of_name (map unplaced_name before) name)) ≡ is_some (cond b (Some n.place) (place_of_name before name))
    by true e = refl
    by false e = e

pub new_unseen : (before : List PlacedName) (n : PlacedName) → Same (is_new (map unplaced_name before) (unplaced_name n)) (is_new before n)
new_unseen before n = same_first (unplaced_name n).place n.place (place_of_name (map unplaced_name before) n.name) (place_of_name before n.name) (name_found before n.name)

-- ---- types

module _ (known : Known) where
  pub measured_unseen : (t : TypeTree) → measured known (unplaced_type t) ≡ measured known t
  measured_unseen t = ap (tree_measured (struct_measured known)) (type_unseen t)

  is_past_unseen : (t : TypeTree) → is_past known (unplaced_type t) ≡ is_past known t
  is_past_unseen (IntegerType place width) = refl
  is_past_unseen (PointerType place) = refl
  is_past_unseen (VoidType place) = refl
  is_past_unseen (ArrayType place count element) = ap (λ m. is_long count || is_large m) (measured_unseen (ArrayType place count element))
  is_past_unseen (StructType place packed parts) = ap is_large (measured_unseen (StructType place packed parts))
  is_past_unseen (NamedType name) = refl

  mutual
    has_past_unseen : (t : TypeTree) → has_past known (unplaced_type t) ≡ has_past known t
    has_past_unseen (IntegerType place width) = refl
    has_past_unseen (PointerType place) = refl
    has_past_unseen (VoidType place) = refl
    has_past_unseen (ArrayType place count element) = λ i. is_past_unseen (ArrayType place count element) i || has_past_unseen element i
    has_past_unseen (StructType place packed parts) = λ i. is_past_unseen (StructType place packed parts) i || have_past_unseen parts i
    has_past_unseen (NamedType name) = refl

    have_past_unseen : (ts : TypeTrees) → have_past known (unplaced_types ts) ≡ have_past known ts
    have_past_unseen no_types = refl
    have_past_unseen (more_types t ts) = λ i. has_past_unseen t i || have_past_unseen ts i

  mutual
    pub type_asked : (t : TypeTree) → Same (type_demands known (unplaced_type t)) (type_demands known t)
    type_asked (IntegerType place width) = refl
    type_asked (PointerType place) = refl
    type_asked (VoidType place) = refl
    type_asked (ArrayType place count element) = λ i.
        not (is_deep (measured_unseen (ArrayType place count element) i))
        ∷ (not (is_past_unseen (ArrayType place count element) i) || has_past_unseen element i)
        ∷ is_natural count
        ∷ type_asked element i
    type_asked (StructType place packed parts) = λ i.
        not (is_deep (measured_unseen (StructType place packed parts) i))
        ∷ (not (is_past_unseen (StructType place packed parts) i) || have_past_unseen parts i)
        ∷ types_asked parts i
    type_asked (NamedType name) = refl

    pub types_asked : (ts : TypeTrees) → Same (types_demands known (unplaced_types ts)) (types_demands known ts)
    types_asked no_types = refl
    types_asked (more_types t ts) = same_both (type_demands known (unplaced_type t)) (type_demands known t) (types_demands known (unplaced_types ts)) (types_demands known ts) (type_asked t) (types_asked ts)

  fields_unseen : (ts : List TypeTree) → types (map unplaced_type ts) ≡ unplaced_types (types ts)
  fields_unseen [] = refl
  fields_unseen (t ∷ ts) = ap (λ us. more_types (unplaced_type t) us) (fields_unseen ts)

  body_unseen : (b : BodyTree) → body_types known (unplaced_body b) ≡ unplaced_types (body_types known b)
  body_unseen OpaqueBody = refl
  body_unseen (PlainBody ts) = fields_unseen ts
  body_unseen (PackedBody ts) = fields_unseen ts

  pub struct_asked : (name : PlacedName) (b : BodyTree) → Same (struct_type_demands known (unplaced_name name) (unplaced_body b)) (struct_type_demands known name b)
  struct_asked name b =
      ap (λ ts. answers (struct_type_demands_by name ts)) (body_unseen b)
      ∙ (λ i. not (is_deep (struct_measured known name.name)) ∷ answers (ends known name ∷ []) ++ (not (is_large (struct_measured known name.name)) || have_past_unseen (body_types known b) i) ∷ types_asked (body_types known b) i)
    where
      struct_type_demands_by : PlacedName → TypeTrees → List Demand
      struct_type_demands_by name ts = nests name.place (struct_measured known name.name) ∷ ends known name ∷ is_small name.place (is_large (struct_measured known name.name)) (have_past known ts) ∷ types_demands known ts

  -- ---- constants

  mutual
    pub constant_asked : (ty : Tree) (c : ConstantTree) → Same (constant_demands known ty (unplaced_constant c)) (constant_demands known ty c)
    constant_asked ty (IntegerConstant n) = refl
    constant_asked ty (SimpleConstant word place) = refl
    constant_asked ty (AddressConstant name) = refl
    constant_asked ty (BytesConstant text) = refl
    constant_asked ty (ListConstant place round cs) = constants_asked cs
    constant_asked ty (ElementAddress place flags source cs) = same_both (type_demands known (unplaced_type source)) (type_demands known source) (constants_demands known (unplaced_constants cs)) (constants_demands known cs) (type_asked source) (constants_asked cs)
    constant_asked ty (Conversion place o from c to) =
        same_both (type_demands known (unplaced_type from)) (type_demands known from) (constant_demands known (type_in (unplaced_type from)) (unplaced_constant c) ++ type_demands known (unplaced_type to)) (constant_demands known (type_in from) c ++ type_demands known to) (type_asked from)
        (same_both (constant_demands known (type_in (unplaced_type from)) (unplaced_constant c)) (constant_demands known (type_in from) c) (type_demands known (unplaced_type to)) (type_demands known to)
        (ap (λ u. answers (constant_demands known u (unplaced_constant c))) (type_unseen from) ∙ constant_asked (type_in from) c) (type_asked to))
    constant_asked ty (Arithmetic place o flags s b t c) =
        same_both (type_demands known (unplaced_type s)) (type_demands known s) (constant_demands known (type_in (unplaced_type s)) (unplaced_constant b) ++ (type_demands known (unplaced_type t) ++ constant_demands known (type_in (unplaced_type t)) (unplaced_constant c))) (constant_demands known (type_in s) b ++ (type_demands known t ++ constant_demands known (type_in t) c)) (type_asked s)
        (same_both (constant_demands known (type_in (unplaced_type s)) (unplaced_constant b)) (constant_demands known (type_in s) b) (type_demands known (unplaced_type t) ++ constant_demands known (type_in (unplaced_type t)) (unplaced_constant c)) (type_demands known t ++ constant_demands known (type_in t) c)
        (ap (λ u. answers (constant_demands known u (unplaced_constant b))) (type_unseen s) ∙ constant_asked (type_in s) b)
        (same_both (type_demands known (unplaced_type t)) (type_demands known t) (constant_demands known (type_in (unplaced_type t)) (unplaced_constant c)) (constant_demands known (type_in t) c) (type_asked t)
        (ap (λ u. answers (constant_demands known u (unplaced_constant c))) (type_unseen t) ∙ constant_asked (type_in t) c)))

    pub constants_asked : (cs : ConstantTrees) → Same (constants_demands known (unplaced_constants cs)) (constants_demands known cs)
    constants_asked no_constants = refl
    constants_asked (more_constants t c cs) =
        same_both (type_demands known (unplaced_type t)) (type_demands known t) (constant_demands known (type_in (unplaced_type t)) (unplaced_constant c) ++ constants_demands known (unplaced_constants cs)) (constant_demands known (type_in t) c ++ constants_demands known cs) (type_asked t)
        (same_both (constant_demands known (type_in (unplaced_type t)) (unplaced_constant c)) (constant_demands known (type_in t) c) (constants_demands known (unplaced_constants cs)) (constants_demands known cs)
        (ap (λ u. answers (constant_demands known u (unplaced_constant c))) (type_unseen t) ∙ constant_asked (type_in t) c) (constants_asked cs))

  pub constant_at_asked : (t : TypeTree) (c : ConstantTree) → Same (constant_demands known (type_in (unplaced_type t)) (unplaced_constant c)) (constant_demands known (type_in t) c)
  constant_at_asked t c = ap (λ u. answers (constant_demands known u (unplaced_constant c))) (type_unseen t) ∙ constant_asked (type_in t) c
