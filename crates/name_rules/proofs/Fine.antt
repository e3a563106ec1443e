-- Where items break nowhere, their structs and types are within the limits.
use Rattle.std.specs.Prelude.{◌≡◌, refl, Bool, true, false, not, ◌&&◌, ◌||◌, List, [], ◌∷◌, ◌++◌, length, is_none, Option, Some, None}
use Rattle.std.proofs.Common.{ap, sym, subst, inl, inr, arith}
use Rattle.std.proofs.lemmas.Bool.{not-true}
use Rattle.ir_terminals.specs.declared.values.PlacedName.{PlacedName}
use Rattle.ir_phrases.specs.Constants.Tree.{TypeTree, NamedType}
use Rattle.ir_syntax.specs.Tree.{ItemTree, BodyTree, OpaqueBody, PlainBody, PackedBody, SourceFilename, DataLayout, TargetTriple, Struct, Variable, Alias, Declaration, Definition, Attributes, Metadata}
use Rattle.type_table.specs.declared.measure.Measure.{Measure}
use Rattle.type_table.specs.Limits.{IsWithinLimits}
use Rattle.type_table.specs.Shape.{shape}
use Rattle.type_table.specs.Tree.{TreeBody, opaque_body, fields, named, Structs, body_of}
use Rattle.type_table.specs.Measures.{Measures}
use Rattle.module_arena.specs.Module.{Bytes}
use Rattle.name_rules.specs.declared.fault.ResolveFault.TheVariants as faults
use Rattle.name_rules.specs.Written.{type_in, types_in, body_in}
use Rattle.name_rules.specs.ModuleOf.{structs_in}
use Rattle.name_rules.specs.Measured.{names_of, contains_itself}
use Rattle.name_rules.specs.Demand.{Demand, first_refusal, is_new, is_small, is_deep, is_large}
use Rattle.name_rules.specs.TypeDemands.{Known, struct_measured, type_demands, types_demands, body_types, have_past, ends, struct_type_demands}
use Rattle.name_rules.specs.Breaks.{known_in, item_demands, demands_behind, demands, too_many, first_break}
use Rattle.name_rules.proofs.Judging.{held, both_hold, there_none}
use Rattle.name_rules.proofs.Levels.{level, first_none, settled}
use Rattle.name_rules.proofs.Cycles.{Has}
use Rattle.name_rules.proofs.Walks.{has_name, none_first, every_measured}
use Rattle.name_rules.proofs.Within.{AllWithin, EachWithin, type_within, types_within, within, not_past}

-- without a measure, and among what it holds
abbrev loops : Known → Bytes → Bool
loops known name = is_none (struct_measured known name) && contains_itself known.structs name

abbrev behind_ends : Known → PlacedName → BodyTree → List Demand
behind_ends known name body =
    is_small name.place (is_large (struct_measured known name.name)) (have_past known (body_types known body)) ∷ types_demands known (body_types known body)

-- what holds of a struct where nothing that it asks for fails
record IsFine (known : Known) (name : PlacedName) (body : BodyTree) : Type 0 where
  nested : is_deep (struct_measured known name.name) ≡ false
  ended : loops known name.name ≡ false
  sized : (not (is_large (struct_measured known name.name)) || have_past known (body_types known body)) ≡ true
  parts : first_refusal (types_demands known (body_types known body)) ≡ None

fine_struct : (known : Known) (before : List PlacedName) (name : PlacedName) (body : BodyTree) → first_refusal (is_new before name ++ struct_type_demands known name body) ≡ None → IsFine known name body
fine_struct known before name body e =
    let all = (both_hold (is_new before name) (struct_type_demands known name body) e).1 in
    let nest = held (not (is_deep (struct_measured known name.name))) (faults.TooDeep name.place) (ends known name ∷ behind_ends known name body) all in
    let turn = held (not (loops known name.name)) (faults.SelfContaining name.place) (behind_ends known name body) nest.1 in
    let size = held (not (is_large (struct_measured known name.name)) || have_past known (body_types known body)) (faults.TooLarge name.place) (types_demands known (body_types known body)) turn.1 in
    record { nested = not-true (is_deep (struct_measured known name.name)) nest.0; ended = not-true (loops known name.name) turn.0; sized = size.0; parts = size.1 }

-- this holds of each of the structs
abbrev pub EachStruct : (Bytes → TreeBody → Type 0) → Structs → Type 0
EachStruct P [] = Unit {0}
EachStruct P (s ∷ more) = P s.0 s.1 × EachStruct P more

by_name : (P : Bytes → TreeBody → Type 0) (structs : Structs) (x : Bytes) → EachStruct P structs → Has x (names_of structs) → (body : TreeBody) × P x body
by_name P [] x all h = absurd h
by_name P (s ∷ more) x all (inl e) = (s.1, subst (λ y. P y s.1) (sym e) all.0)
by_name P (s ∷ more) x all (inr h) = by_name P more x all.1 h

module _ (known : Known) (P : Bytes → TreeBody → Type 0) (each : (name : PlacedName) (body : BodyTree) → IsFine known name body → P name.name (body_in body)) where
  all_fine : (before items : List ItemTree) → first_refusal (demands_behind known before items) ≡ None → EachStruct P (structs_in items)
  all_fine before [] e = tt
  all_fine before (item ∷ more) e = by item (both_hold (item_demands known before item) (demands_behind known (before ++ item ∷ []) more) e).0 (all_fine (before ++ item ∷ []) more (both_hold (item_demands known before item) (demands_behind known (before ++ item ∷ []) more) e).1)
    where
      by : (i : ItemTree) → first_refusal (item_demands known before i) ≡ None → EachStruct P (structs_in more) → EachStruct P (structs_in (i ∷ more))
      by (Struct name body) e rest = (each name body (fine_struct known _ name body e), rest)
      by (SourceFilename place text) e rest = rest
      by (DataLayout place text) e rest = rest
      by (TargetTriple place text) e rest = rest
      by (Variable variable) e rest = rest
      by (Alias alias) e rest = rest
      by (Declaration place head parameters variadic) e rest = rest
      by (Definition place head parameters blocks) e rest = rest
      by (Attributes place) e rest = rest
      by (Metadata place) e rest = rest

-- no struct without a measure contains itself
no_loop : (items : List ItemTree) → first_refusal (demands items) ≡ None → (x : Bytes) → loops (known_in items) x ≡ false
no_loop items e x = by (level (structs_in items) (length (structs_in items)) x) refl
  where
    by : (o : Option Measure) → level (structs_in items) (length (structs_in items)) x ≡ o → loops (known_in items) x ≡ false
    by (Some m) q = ap (λ o. is_none o && contains_itself (structs_in items) x) q
    by None q =
        let S = structs_in items in
        let there = has_name S x (first_none S x (none_first S (length S) x q)) in
        (by_name (λ name body. loops (known_in items) name ≡ false) S x
        (all_fine (known_in items) (λ name body. loops (known_in items) name ≡ false) (λ name body fine. fine.ended) [] items e) there).1

-- the fields of a struct are within the limits
abbrev pub BodyWithin : Structs → TreeBody → Type 0
BodyWithin structs opaque_body = Unit {0}
BodyWithin structs (fields packed ts) = EachWithin structs ts

-- the struct is, and so are its fields
abbrev pub StructWithin : Structs → Bytes → TreeBody → Type 0
StructWithin structs name body = IsWithinLimits (shape structs (named name)) × BodyWithin structs body

module _ (items : List ItemTree) (e : first_refusal (demands items) ≡ None) where
  look : Bytes → Measure
  look name = (every_measured (structs_in items) (no_loop items e) name).0

  all : (name : Bytes) → struct_measured (known_in items) name ≡ Some (look name)
  unfolding look
  all name = (every_measured (structs_in items) (no_loop items e) name).1

  is : Measures (body_of (structs_in items)) look
  is = settled (structs_in items) look (length (structs_in items)) all

  -- a type of which nothing is asked in vain is within the limits, and so are the types in it
  pub types_fine : (t : TypeTree) → first_refusal (type_demands (known_in items) t) ≡ None → AllWithin (structs_in items) (type_in t)
  types_fine t q = (type_within (known_in items) look all is t q).1

  fine_within : (name : PlacedName) (body : BodyTree) → IsFine (known_in items) name body → StructWithin (structs_in items) name.name (body_in body)
  fine_within name body fine =
      let known = known_in items in
      let parts = types_within known look all is (body_types known body) fine.parts in
      let large = not_past (is_large (struct_measured known name.name)) (have_past known (body_types known body)) fine.sized parts.0 in
      (within known look all is (NamedType name) fine.nested large (omega arith), by body parts.1)
    where
      by : (body : BodyTree) → EachWithin (structs_in items) (types_in (body_types (known_in items) body)) → BodyWithin (structs_in items) (body_in body)
      by OpaqueBody w = tt
      by (PlainBody parts) w = w
      by (PackedBody parts) w = w

  -- all structs are within the limits
  pub structs_fine : EachStruct (StructWithin (structs_in items)) (structs_in items)
  structs_fine = all_fine (known_in items) (StructWithin (structs_in items)) fine_within [] items e

-- items that break nowhere have few entries, and ask for nothing in vain
pub unbroken : (items : List ItemTree) → first_break items ≡ None → (too_many items ≡ None) × (first_refusal (demands items) ≡ None)
unbroken items e = there_none (too_many items) (first_refusal (demands items)) e
