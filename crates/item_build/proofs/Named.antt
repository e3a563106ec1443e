-- Structs that are named one after the other, and that have their bodies one after the other.
use Rattle.std.proofs.Common.{◌≡◌, inl, ℕ, zero, suc, ◌<◌, ◌≤◌, true, List, [], ◌∷◌, ◌++◌, map, length, get_or, slice_get, bytes_eq, All, Option, Some, None, refl, sym, ap, ◌∙◌, subst, arith}
use Rattle.std.specs.Prelude.{Contains}
use Rattle.std.specs.Option.{option_map}
use Rattle.std.proofs.lemmas.List.{map-append}
use Rattle.std.proofs.lemmas.List.Elements.{All-nil, All-cons}
use Rattle.std.proofs.lemmas.Option.{get_or_from_slice_get, slice_get-map}
use Rattle.ir_tables.specs.Table.{is_distinct}
use Rattle.ir_syntax.specs.Tree.{ItemTree, SourceFilename, DataLayout, TargetTriple, Struct, Variable, Alias, Declaration, Definition, Attributes, Metadata}
use Rattle.type_table.specs.declared.ir_type.StructBody.{StructBody}
use Rattle.type_table.specs.Limits.{IsWithinLimits}
use Rattle.type_table.specs.Shape.{shape}
use Rattle.type_table.specs.Tree.{TreeBody, opaque_body, named, Structs}
use Rattle.type_table.specs.Types.{Types, structs, names, bodies, trees}
use Rattle.module_arena.specs.Lists.{Lists}
use Rattle.module_arena.proofs.Found.{some-equal}
use Rattle.name_rules.specs.ModuleOf.{struct_in, structs_in}
use Rattle.name_rules.specs.Written.{body_in}
use Rattle.name_rules.proofs.Fine.{EachStruct, StructWithin}
use Rattle.item_build.proofs.OnTypes.Staying.{names_same}
use Rattle.item_build.proofs.OnTypes.Made.{map_twice}
use Rattle.item_build.specs.Buildable.Entries.{CanDeclare}
use Rattle.item_build.proofs.NamedItems.{distinct_front, contained}
use Rattle.item_build.proofs.Walked.{gives_one, gives_none, parted, length_parted, get_between}
use Rattle.item_build.specs.Named.{named_table, named_in, IsNewStruct, CanDefineItem, AreDone}
use Rattle.item_build.specs.Partly.{names_of, body_at, IsPartly, AllFit}

abbrev unnamed : List ℕ × TreeBody → List ℕ × Option StructBody
unnamed s = (s.0, None)

abbrev table_with : List (List ℕ × Option StructBody) → Types
table_with all = record { types = []; structs = all }

pass : (first : List ItemTree) (x : ItemTree) → struct_in x ≡ None → named_table (structs_in first) ≡ named_table (structs_in (first ++ x ∷ []))
pass first x is = ap named_table (sym (gives_none struct_in first x is))

pub named_more : (first : List ItemTree) (x : ItemTree) → named_in (named_table (structs_in first)) x ≡ named_table (structs_in (first ++ x ∷ []))
named_more first (Struct name body) =
    let s : List ℕ × TreeBody = (name.name, body_in body) in
    ap table_with (sym (map-append unnamed (structs_in first) (s ∷ [])) ∙ ap (map unnamed) (sym (gives_one struct_in first (Struct name body) s refl)))
named_more first (Variable variable) = pass first (Variable variable) refl
named_more first (Alias alias) = pass first (Alias alias) refl
named_more first (Declaration place head parameters variadic) = pass first (Declaration place head parameters variadic) refl
named_more first (Definition place head parameters blocks) = pass first (Definition place head parameters blocks) refl
named_more first (SourceFilename place text) = pass first (SourceFilename place text) refl
named_more first (DataLayout place text) = pass first (DataLayout place text) refl
named_more first (TargetTriple place text) = pass first (TargetTriple place text) refl
named_more first (Attributes place) = pass first (Attributes place) refl
named_more first (Metadata place) = pass first (Metadata place) refl

-- a name that no struct before has
pub struct_is_new : (t : Types) (first : List ItemTree) (x : ItemTree) (rest : List ItemTree) → t ≡ named_table (structs_in first) → is_distinct bytes_eq (names_of (structs_in (first ++ x ∷ rest))) ≡ true → IsNewStruct t x
struct_is_new t first (Struct name body) rest same distinct = λ has.
    let s : List ℕ × TreeBody = (name.name, body_in body) in
    let split = ap names_of (parted struct_in first (Struct name body) rest) ∙ map-append (λ (z : List ℕ × TreeBody). z.0) (structs_in first) (s ∷ structs_in rest) in
    let none = distinct_front name.name (names_of (structs_in first)) (names_of (structs_in rest)) (ap (is_distinct bytes_eq) (sym split) ∙ distinct) in
    let here = ap names same ∙ map_twice unnamed (λ (z : List ℕ × Option StructBody). z.0) (structs_in first) in
    let within = subst (λ (ns : List (List ℕ)). Contains ns name.name) here has in
    let there = contained name.name (names_of (structs_in first)) within.0 within.1 within.2 in
    absurd cc
struct_is_new t first (Variable variable) rest same distinct = tt
struct_is_new t first (Alias alias) rest same distinct = tt
struct_is_new t first (Declaration place head parameters variadic) rest same distinct = tt
struct_is_new t first (Definition place head parameters blocks) rest same distinct = tt
struct_is_new t first (SourceFilename place text) rest same distinct = tt
struct_is_new t first (DataLayout place text) rest same distinct = tt
struct_is_new t first (TargetTriple place text) rest same distinct = tt
struct_is_new t first (Attributes place) rest same distinct = tt
struct_is_new t first (Metadata place) rest same distinct = tt

pub structs_before : (first : List ItemTree) (x : ItemTree) (rest items : List ItemTree) → items ≡ first ++ x ∷ rest → length (structs_in first) ≤ length (structs_in items)
structs_before first x rest items split =
    let many = ap (λ (xs : List ItemTree). length (structs_in xs)) split ∙ length_parted struct_in first x rest in
    omega (arith, many)

-- ---- structs that are named

-- none has its body
no_bodies : (all : Structs) (k : ℕ) (body : Option StructBody) → slice_get (map (λ (z : List ℕ × Option StructBody). z.1) (map unnamed all)) k ≡ Some body → body ≡ None
no_bodies [] k body is = absurd cc
no_bodies (s ∷ all) zero body is = sym (some-equal is)
no_bodies (s ∷ all) (suc k) body is = no_bodies all k body is

pub partly_named : (whole : Structs) (a : Lists) → a.table ≡ named_table whole → IsPartly whole a
partly_named whole a same = record {
  names = names_same a.table ∙ ap names same ∙ map_twice unnamed (λ (z : List ℕ × Option StructBody). z.0) whole;
  bodies = λ k body is. inl (no_bodies whole k body (ap (λ (t : Types). slice_get (bodies t) k) (sym same) ∙ is));
  within = subst (λ ts. All (λ t. IsWithinLimits (shape whole t)) ts) (sym (ap trees same)) (All-nil (λ t. IsWithinLimits (shape whole t)));
}

-- structs of which nothing is asked in vain are within the limits
pub all_fit : (whole all : Structs) → EachStruct (StructWithin whole) all → All (λ name. IsWithinLimits (shape whole (named name))) (names_of all)
all_fit whole [] each = All-nil (λ name. IsWithinLimits (shape whole (named name)))
all_fit whole (s ∷ all) each = All-cons (λ name. IsWithinLimits (shape whole (named name))) s.0 (names_of all) each.0.0 (all_fit whole all each.1)

-- ---- structs that are defined

module _ (a : Lists) (first rest items : List ItemTree) (number : ℕ) (at : number ≡ length (structs_in first)) (partly : IsPartly (structs_in items) a) (fit : AllFit (structs_in items)) where
  pub can_item : (x : ItemTree) → items ≡ first ++ x ∷ rest → CanDeclare (structs_in items) x → CanDefineItem (structs_in items) a number x
  can_item (Struct name body) split can =
      let s : List ℕ × TreeBody = (name.name, body_in body) in
      let whole = ap structs_in split ∙ parted struct_in first (Struct name body) rest in
      let many = ap (λ (xs : List ItemTree). length (structs_in xs)) split ∙ length_parted struct_in first (Struct name body) rest in
      let there = (λ j. slice_get (whole j) (at j)) ∙ get_between (structs_in first) s (structs_in rest) in
      record {
        partly = partly;
        fit = fit;
        known = omega (arith, many, at);
        here = sym (get_or_from_slice_get (map (λ (z : List ℕ × TreeBody). z.1) (structs_in items)) number (body_in body) opaque_body
            (slice_get-map (λ (z : List ℕ × TreeBody). z.1) (structs_in items) number ∙ ap (option_map (λ (z : List ℕ × TreeBody). z.1)) there));
        fields = can;
      }
  can_item (Variable variable) split can = tt
  can_item (Alias alias) split can = tt
  can_item (Declaration place head parameters variadic) split can = tt
  can_item (Definition place head parameters blocks) split can = tt
  can_item (SourceFilename place text) split can = tt
  can_item (DataLayout place text) split can = tt
  can_item (TargetTriple place text) split can = tt
  can_item (Attributes place) split can = tt
  can_item (Metadata place) split can = tt

-- structs with the same names and bodies
same_all : (xs ys : Structs) → names_of xs ≡ names_of ys → ((k : ℕ) → k < length ys → body_at xs k ≡ body_at ys k) → xs ≡ ys
same_all [] [] names each = refl
same_all [] (y ∷ ys) names each = absurd cc
same_all (x ∷ xs) [] names each = absurd cc
same_all (x ∷ xs) (y ∷ ys) names each =
    let first : x.0 ≡ y.0 = ap (λ ns. get_or ns 0 []) names in
    let body : x.1 ≡ y.1 = each 0 (omega arith) in
    let rest = same_all xs ys (ap tail names) (λ k lt. each (suc k) (omega (arith, lt))) in
    λ j. (first j, body j) ∷ rest j
  where
    tail : List (List ℕ) → List (List ℕ)
    tail [] = []
    tail (n ∷ ns) = ns

pub all_done : (whole : Structs) (a : Lists) (count : ℕ) → IsPartly whole a → AreDone whole a count → count ≡ length whole → structs a.table ≡ whole
all_done whole a count partly done is = same_all (structs a.table) whole partly.names (λ k lt. done k (omega (arith, lt, is)))
