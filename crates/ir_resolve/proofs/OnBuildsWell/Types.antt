-- Where nothing fails that a type asks for and its integers are narrow, an arena can take it.
use Rattle.std.proofs.Common.{◌≡◌, ◌≤◌, List, [], ◌∷◌, false, not, ◌||◌, None, All, arith}
use Rattle.std.specs.List.{flat_map}
use Rattle.std.proofs.lemmas.List.Elements.{All-nil, All-cons, All-head, All-tail}
use Rattle.ir_phrases.specs.Constants.Tree.{TypeTree, IntegerType, PointerType, VoidType, ArrayType, StructType, NamedType, TypeTrees, no_types, more_types, types}
use Rattle.ir_syntax.specs.Tree.{ItemTree, BodyTree, OpaqueBody, PlainBody, PackedBody}
use Rattle.name_rules.specs.declared.fault.ResolveFault.TheVariants as faults
use Rattle.name_rules.specs.Spelled.{spelled_struct}
use Rattle.name_rules.specs.Written.{type_in, types_in, bits_at}
use Rattle.name_rules.specs.ModuleOf.{structs_in}
use Rattle.name_rules.specs.Measured.{names_of}
use Rattle.name_rules.specs.Demand.{Demand, first_refusal, is_deep, is_large, is_natural, is_small, is_length, nests}
use Rattle.name_rules.specs.TypeDemands.{has_name, struct_measured, measured, is_past, has_past, have_past, type_demands, types_demands, body_types}
use Rattle.name_rules.specs.Breaks.{known_in, demands}
use Rattle.name_rules.proofs.Judging.{held, both_hold}
use Rattle.name_rules.proofs.Within.{AllWithin, EachWithin}
use Rattle.name_rules.proofs.Fine.{types_fine}
use Rattle.item_build.specs.Types.Fitting.{CanBe, AllCanBe}
use Rattle.item_build.specs.Buildable.Narrow.{IsNarrow, AreNarrow, IsNarrowBody}
use Rattle.item_build.specs.Buildable.Entries.{CanStruct}
use Rattle.ir_resolve.proofs.OnBuildsWell.Given.{name_contained, all_asked}

-- an integer at a narrow type has at most 128 bits
pub bits_narrow : (t : TypeTree) → IsNarrow t → bits_at (type_in t) ≤ 128
bits_narrow (IntegerType place width) n = n.1
bits_narrow (PointerType place) n = omega arith
bits_narrow (VoidType place) n = omega arith
bits_narrow (ArrayType place count element) n = omega arith
bits_narrow (StructType place packed parts) n = omega arith
bits_narrow (NamedType name) n = omega arith

module _ (items : List ItemTree) (unbroken : first_refusal (demands items) ≡ None) where
  mutual
    within_can : (t : TypeTree) → IsNarrow t → first_refusal (type_demands (known_in items) t) ≡ None → AllWithin (structs_in items) (type_in t) → CanBe (structs_in items) (type_in t)
    within_can (IntegerType place width) n e w = n
    within_can (PointerType place) n e w = tt
    within_can (VoidType place) n e w = tt
    within_can (ArrayType place count element) n e w =
        let t : TypeTree = ArrayType place count element in
        let past = is_past (known_in items) t in
        let inside = has_past (known_in items) element in
        let behind : List Demand = is_length count ∷ type_demands (known_in items) element in
        let nest = held (not (is_deep (measured (known_in items) t))) (faults.TooDeep place) (is_small place past inside ∷ behind) e in
        let size = held (not past || inside) (faults.TooLarge place) behind nest.1 in
        let length = held (is_natural count) (faults.ConstantRange count.place) (type_demands (known_in items) element) size.1 in
        (w.0, within_can element n length.1 w.1)
    within_can (StructType place packed parts) n e w =
        let t : TypeTree = StructType place packed parts in
        let past = is_past (known_in items) t in
        let inside = have_past (known_in items) parts in
        let behind = types_demands (known_in items) parts in
        let nest = held (not (is_deep (measured (known_in items) t))) (faults.TooDeep place) (is_small place past inside ∷ behind) e in
        let size = held (not past || inside) (faults.TooLarge place) behind nest.1 in
        (w.0, all_within_can parts n size.1 w.1)
    within_can (NamedType name) n e w =
        let structs = names_of (structs_in items) in
        let measure = struct_measured (known_in items) name.name in
        let there = held (has_name structs name.name) (faults.UnknownName name.place (spelled_struct name.name)) (nests name.place measure ∷ is_small name.place (is_large measure) false ∷ []) e in
        (w, name_contained structs name.name there.0)

    all_within_can : (ts : TypeTrees) → AreNarrow ts → first_refusal (types_demands (known_in items) ts) ≡ None → EachWithin (structs_in items) (types_in ts) → AllCanBe (structs_in items) (types_in ts)
    all_within_can no_types n e w = tt
    all_within_can (more_types t ts) n e w =
        let parts = both_hold (type_demands (known_in items) t) (types_demands (known_in items) ts) e in
        (within_can t n.0 parts.0 w.0, all_within_can ts n.1 parts.1 w.1)

  -- a type of which nothing is asked in vain
  pub can_type : (t : TypeTree) → IsNarrow t → first_refusal (type_demands (known_in items) t) ≡ None → CanBe (structs_in items) (type_in t)
  can_type t n e = within_can t n e (types_fine items unbroken t e)

  -- types of which it is not
  pub can_types : (ts : List TypeTree) → All IsNarrow ts → first_refusal (flat_map (type_demands (known_in items)) ts) ≡ None → All (λ t. CanBe (structs_in items) (type_in t)) ts
  can_types ts n e = all_asked IsNarrow (λ t. CanBe (structs_in items) (type_in t)) (type_demands (known_in items)) can_type ts n e

  -- those between the braces of a struct
  can_fields : (ts : List TypeTree) → All IsNarrow ts → first_refusal (types_demands (known_in items) (types ts)) ≡ None → All (λ t. CanBe (structs_in items) (type_in t)) ts
  can_fields [] n e = All-nil (λ t. CanBe (structs_in items) (type_in t))
  can_fields (t ∷ ts) n e =
      let parts = both_hold (type_demands (known_in items) t) (types_demands (known_in items) (types ts)) e in
      All-cons (λ t. CanBe (structs_in items) (type_in t)) t ts (can_type t (All-head IsNarrow t ts n) parts.0) (can_fields ts (All-tail IsNarrow t ts n) parts.1)

  -- what a struct is
  pub can_struct : (body : BodyTree) → IsNarrowBody body → first_refusal (types_demands (known_in items) (body_types (known_in items) body)) ≡ None → CanStruct (structs_in items) body
  can_struct OpaqueBody n e = tt
  can_struct (PlainBody parts) n e = can_fields parts n e
  can_struct (PackedBody parts) n e = can_fields parts n e
