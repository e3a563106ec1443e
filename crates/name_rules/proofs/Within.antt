-- Where nothing that a type asks for fails and each struct has a measure, the type and each type in it is within the limits.
use Rattle.std.specs.Prelude.{◌≡◌, refl, ◌^◌, ◌≤◌, nat_lt, Bool, true, false, not, ◌||◌, List, [], ◌∷◌, Option, Some, None}
use Rattle.std.proofs.Common.{ap, sym, ◌∙◌, arith}
use Rattle.std.proofs.lemmas.Bool.{ltb-false, not-true, or_from, or_parts}
use Rattle.ir_phrases.specs.Constants.Tree.{TypeTree, IntegerType, PointerType, VoidType, ArrayType, StructType, NamedType, TypeTrees, no_types, more_types}
use Rattle.type_table.specs.declared.layout.Layout.{Layout}
use Rattle.type_table.specs.declared.measure.Measure.{Measure}
use Rattle.type_table.specs.Kept.{IsSmall, HasSmallSize}
use Rattle.type_table.specs.Limits.{IsWithinLimits}
use Rattle.type_table.specs.Measures.{Measures, tree_measure}
use Rattle.type_table.specs.Shape.{shape}
use Rattle.type_table.specs.Tree.{Tree, int, ptr, void, array, struct, named, Trees, no_trees, more_trees, Structs, body_of}
use Rattle.type_table.proofs.Judged.{tree_length, tree_within}
use Rattle.module_arena.specs.Module.{Bytes}
use Rattle.name_rules.specs.declared.fault.ResolveFault.TheVariants as faults
use Rattle.name_rules.specs.Spelled.{spelled_struct}
use Rattle.name_rules.specs.Measured.{names_of}
use Rattle.name_rules.specs.Written.{natural, type_in, types_in}
use Rattle.name_rules.specs.Demand.{Demand, first_refusal, ask, is_deep, is_large, is_large_size, is_natural, is_small, is_length}
use Rattle.name_rules.specs.TypeDemands.{Known, has_name, struct_measured, measured, is_past, is_long, has_past, have_past, type_demands, types_demands}
use Rattle.name_rules.proofs.Judging.{held, both_hold}
use Rattle.name_rules.proofs.Levels.{tree_found}

abbrev mutual
  -- the type, and each that is written in it, is within the limits
  pub AllWithin : Structs → Tree → Type 0
  AllWithin structs (int width) = Unit {0}
  AllWithin structs ptr = Unit {0}
  AllWithin structs void = Unit {0}
  AllWithin structs (array n t) = IsWithinLimits (shape structs (array n t)) × AllWithin structs t
  AllWithin structs (struct packed ts) = IsWithinLimits (shape structs (struct packed ts)) × EachWithin structs ts
  AllWithin structs (named name) = IsWithinLimits (shape structs (named name))

  pub EachWithin : Structs → Trees → Type 0
  EachWithin structs no_trees = Unit {0}
  EachWithin structs (more_trees t ts) = AllWithin structs t × EachWithin structs ts

small_size : (l : Option Layout) → is_large_size l ≡ false → HasSmallSize l
small_size None e = tt
small_size (Some l) e = ltb-false (2 ^ 40) l.size e

small : (m : Measure) → is_deep (Some m) ≡ false → is_large (Some m) ≡ false → IsSmall m
small m deep large =
    let parts = or_parts (nat_lt (2 ^ 20) m.parts) (is_large_size m.layout) large in
    record { nests = ltb-false 64 m.nesting deep; parts_fit = ltb-false (2 ^ 20) m.parts parts.0; size_fits = small_size m.layout parts.1 }

pub not_past : (past inside : Bool) → (not past || inside) ≡ true → inside ≡ false → past ≡ false
not_past true true e f = absurd cc
not_past true false e f = absurd cc
not_past false inside e f = refl

module _ (known : Known) (look : Bytes → Measure) (all : (name : Bytes) → struct_measured known name ≡ Some (look name)) (is : Measures (body_of known.structs) look) where
  pub within : (t : TypeTree) → is_deep (measured known t) ≡ false → is_large (measured known t) ≡ false → tree_length (type_in t) ≤ 2 ^ 40 → IsWithinLimits (shape known.structs (type_in t))
  within t deep large long =
      let found = tree_found (struct_measured known) look all (type_in t) in
      tree_within (λ _. None) (body_of known.structs) look is (type_in t)
      (small (tree_measure look (type_in t)) (ap is_deep (sym found) ∙ deep) (ap is_large (sym found) ∙ large)) long

  mutual
    pub type_within : (t : TypeTree) → first_refusal (type_demands known t) ≡ None → (has_past known t ≡ false) × AllWithin known.structs (type_in t)
    type_within (IntegerType place width) e = (refl, tt)
    type_within (PointerType place) e = (refl, tt)
    type_within (VoidType place) e = (refl, tt)
    type_within (ArrayType place count element) e =
        let t : TypeTree = ArrayType place count element in
        let past = is_past known t in
        let inside = has_past known element in
        let behind : List Demand = is_length count ∷ type_demands known element in
        let nest = held (not (is_deep (measured known t))) (faults.TooDeep place) (is_small place past inside ∷ behind) e in
        let size = held (not past || inside) (faults.TooLarge place) behind nest.1 in
        let length = held (is_natural count) (faults.ConstantRange count.place) (type_demands known element) size.1 in
        let part = type_within element length.1 in
        let fine = not_past past inside size.0 part.0 in
        let both = or_parts (is_long count) (is_large (measured known t)) fine in
        (or_from past inside fine part.0, (within t (not-true (is_deep (measured known t)) nest.0) both.1 (ltb-false (2 ^ 40) (natural count) both.0), part.1))
    type_within (StructType place packed parts) e =
        let t : TypeTree = StructType place packed parts in
        let past = is_past known t in
        let inside = have_past known parts in
        let behind = types_demands known parts in
        let nest = held (not (is_deep (measured known t))) (faults.TooDeep place) (is_small place past inside ∷ behind) e in
        let size = held (not past || inside) (faults.TooLarge place) behind nest.1 in
        let part = types_within parts size.1 in
        let fine = not_past past inside size.0 part.0 in
        (or_from past inside fine part.0, (within t (not-true (is_deep (measured known t)) nest.0) fine (omega arith), part.1))
    type_within (NamedType name) e =
        let t : TypeTree = NamedType name in
        let past = is_past known t in
        let behind : List Demand = is_small name.place past false ∷ [] in
        let there = held (has_name (names_of known.structs) name.name) (faults.UnknownName name.place (spelled_struct name.name)) (ask (not (is_deep (measured known t))) (faults.TooDeep name.place) ∷ behind) e in
        let nest = held (not (is_deep (measured known t))) (faults.TooDeep name.place) behind there.1 in
        let size = held (not past || false) (faults.TooLarge name.place) [] nest.1 in
        let fine = not_past past false size.0 refl in
        (fine, within t (not-true (is_deep (measured known t)) nest.0) fine (omega arith))

    pub types_within : (ts : TypeTrees) → first_refusal (types_demands known ts) ≡ None → (have_past known ts ≡ false) × EachWithin known.structs (types_in ts)
    types_within no_types e = (refl, tt)
    types_within (more_types t ts) e =
        let parts = both_hold (type_demands known t) (types_demands known ts) e in
        let first = type_within t parts.0 in
        let rest = types_within ts parts.1 in
        (or_from (has_past known t) (have_past known ts) first.0 rest.0, (first.1, rest.1))
