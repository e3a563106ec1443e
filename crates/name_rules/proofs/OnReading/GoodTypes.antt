-- Where items break nowhere, the types of their module are good.
use Rattle.std.proofs.Common.{◌≡◌, ◌||◌, not, nat_le, List, [], ◌∷◌, true, false, None, refl, bytes_eq}
use Rattle.std.specs.List.{list_any}
use Rattle.std.proofs.lemmas.Bool.{and_from, le-leb}
use Rattle.ir_phrases.specs.Constants.Tree.{TypeTree, IntegerType, PointerType, VoidType, ArrayType, StructType, NamedType, TypeTrees, no_types, more_types, types}
use Rattle.ir_syntax.specs.Tree.{ItemTree, BodyTree, OpaqueBody, PlainBody, PackedBody}
use Rattle.type_table.specs.Shape.{shape}
use Rattle.module_arena.specs.WellFormed.{is_within_limits, is_good_type, are_good_types, is_good_body}
use Rattle.module_arena.proofs.WithinLimits.{within_limits_decides}
use Rattle.name_rules.specs.declared.fault.ResolveFault.TheVariants as faults
use Rattle.name_rules.specs.Spelled.{spelled_struct}
use Rattle.name_rules.specs.Measured.{names_of}
use Rattle.name_rules.specs.Written.{type_in, types_in, body_in}
use Rattle.name_rules.specs.ModuleOf.{structs_in}
use Rattle.name_rules.specs.Demand.{Demand, first_refusal, is_deep, is_large, is_natural, is_small, is_length, nests}
use Rattle.name_rules.specs.TypeDemands.{has_name, struct_measured, measured, is_past, has_past, have_past, type_demands, types_demands, body_types}
use Rattle.name_rules.specs.Breaks.{known_in, demands}
use Rattle.name_rules.proofs.Judging.{held, both_hold}
use Rattle.name_rules.proofs.Within.{AllWithin, EachWithin}
use Rattle.name_rules.proofs.Fine.{types_fine}
use Rattle.name_rules.proofs.OnReading.Types.{HasWidths, HaveWidths}
use Rattle.name_rules.proofs.OnReading.Tests.{any_map}

module _ (items : List ItemTree) (unbroken : first_refusal (demands items) ≡ None) where
  mutual
    good : (t : TypeTree) → HasWidths t → first_refusal (type_demands (known_in items) t) ≡ None → AllWithin (structs_in items) (type_in t) → is_good_type (structs_in items) (type_in t) ≡ true
    good (IntegerType place width) h e w = and_from (nat_le 1 width) (nat_le width 128) (le-leb 1 width h.0) (le-leb width 128 h.1)
    good (PointerType place) h e w = refl
    good (VoidType place) h e w = refl
    good (ArrayType place count element) h e w =
        let t : TypeTree = ArrayType place count element in
        let past = is_past (known_in items) t in
        let inside = has_past (known_in items) element in
        let behind : List Demand = is_length count ∷ type_demands (known_in items) element in
        let nest = held (not (is_deep (measured (known_in items) t))) (faults.TooDeep place) (is_small place past inside ∷ behind) e in
        let size = held (not past || inside) (faults.TooLarge place) behind nest.1 in
        let length = held (is_natural count) (faults.ConstantRange count.place) (type_demands (known_in items) element) size.1 in
        and_from (is_good_type (structs_in items) (type_in element)) (is_within_limits (shape (structs_in items) (type_in t)))
        (good element h length.1 w.1) ((within_limits_decides (shape (structs_in items) (type_in t))).1 w.0)
    good (StructType place packed parts) h e w =
        let t : TypeTree = StructType place packed parts in
        let past = is_past (known_in items) t in
        let inside = have_past (known_in items) parts in
        let behind = types_demands (known_in items) parts in
        let nest = held (not (is_deep (measured (known_in items) t))) (faults.TooDeep place) (is_small place past inside ∷ behind) e in
        let size = held (not past || inside) (faults.TooLarge place) behind nest.1 in
        and_from (are_good_types (structs_in items) (types_in parts)) (is_within_limits (shape (structs_in items) (type_in t)))
        (goods parts h size.1 w.1) ((within_limits_decides (shape (structs_in items) (type_in t))).1 w.0)
    good (NamedType name) h e w =
        let t : TypeTree = NamedType name in
        let there = held (has_name (names_of (structs_in items)) name.name) (faults.UnknownName name.place (spelled_struct name.name)) (nests name.place (struct_measured (known_in items) name.name) ∷ is_small name.place (is_large (struct_measured (known_in items) name.name)) false ∷ []) e in
        and_from (list_any (λ s. bytes_eq s.0 name.name) (structs_in items)) (is_within_limits (shape (structs_in items) (type_in t)))
        (any_map (λ n. bytes_eq n name.name) (λ s. s.0) (structs_in items) there.0) ((within_limits_decides (shape (structs_in items) (type_in t))).1 w)

    goods : (ts : TypeTrees) → HaveWidths ts → first_refusal (types_demands (known_in items) ts) ≡ None → EachWithin (structs_in items) (types_in ts) → are_good_types (structs_in items) (types_in ts) ≡ true
    goods no_types h e w = refl
    goods (more_types t ts) h e w =
        let parts = both_hold (type_demands (known_in items) t) (types_demands (known_in items) ts) e in
        and_from (is_good_type (structs_in items) (type_in t)) (are_good_types (structs_in items) (types_in ts)) (good t h.0 parts.0 w.0) (goods ts h.1 parts.1 w.1)

  -- a type of which nothing is asked in vain
  pub good_type : (t : TypeTree) → HasWidths t → first_refusal (type_demands (known_in items) t) ≡ None → is_good_type (structs_in items) (type_in t) ≡ true
  good_type t h e = good t h e (types_fine items unbroken t e)

  pub good_types : (ts : TypeTrees) → HaveWidths ts → first_refusal (types_demands (known_in items) ts) ≡ None → are_good_types (structs_in items) (types_in ts) ≡ true
  good_types no_types h e = refl
  good_types (more_types t ts) h e =
      let parts = both_hold (type_demands (known_in items) t) (types_demands (known_in items) ts) e in
      and_from (is_good_type (structs_in items) (type_in t)) (are_good_types (structs_in items) (types_in ts)) (good_type t h.0 parts.0) (good_types ts h.1 parts.1)

  -- the body of a struct
  pub good_body : (body : BodyTree) → HaveWidths (body_types (known_in items) body) → first_refusal (types_demands (known_in items) (body_types (known_in items) body)) ≡ None → is_good_body (structs_in items) (body_in body) ≡ true
  good_body OpaqueBody h e = refl
  good_body (PlainBody parts) h e = good_types (types parts) h e
  good_body (PackedBody parts) h e = good_types (types parts) h e
