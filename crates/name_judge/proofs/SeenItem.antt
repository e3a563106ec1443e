-- What stands in items, with one item more.
use Rattle.std.specs.Prelude.{◌≡◌, refl, List, [], ◌∷◌, ◌++◌, filter_map, Option, Some, None, Result, Ok, Err, OnOk}
use Rattle.std.specs.List.{cons_option}
use Rattle.std.proofs.Common.{ap, sym, subst, ◌∙◌}
use Rattle.std.proofs.lemmas.List.{append-nil}
use Rattle.std.proofs.lemmas.List.Elements.{filter_map-append}
use Rattle.ir_base.specs.declared.place.Place.{Place}
use Rattle.ir_terminals.specs.declared.values.PlacedName.{PlacedName}
use Rattle.ir_terminals.specs.declared.values.PlacedText.{PlacedText}
use Rattle.ir_syntax.specs.Tree.{ItemTree, BodyTree, SourceFilename, DataLayout, TargetTriple, Struct}
use Rattle.module_arena.specs.Module.{Bytes}
use Rattle.name_rules.specs.Breaks.{struct_name, source_place, layout_place, triple_place}
use Rattle.name_rules.specs.declared.fault.ResolveFault.{ResolveFault}
use Rattle.name_rules.specs.ModuleOf.{first_of}
use Rattle.name_judge.specs.declared.seen.Seen.{Seen}
use Rattle.name_judge.specs.Seen.{AreFirst, IsSeen}

kept : {B : Type 0} (f : ItemTree → Option B) (before : List ItemTree) (item : ItemTree) → f item ≡ None → filter_map f before ≡ filter_map f (before ++ item ∷ [])
kept f before item e = sym (append-nil (filter_map f before)) ∙ ap (λ o. filter_map f before ++ cons_option o []) (sym e) ∙ sym (filter_map-append f before (item ∷ []))

more : {B : Type 0} (f : ItemTree → Option B) (before : List ItemTree) (item : ItemTree) (b : B) → f item ≡ Some b → filter_map f before ++ b ∷ [] ≡ filter_map f (before ++ item ∷ [])
more f before item b e = ap (λ o. filter_map f before ++ cons_option o []) (sym e) ∙ sym (filter_map-append f before (item ∷ []))

first_kept : (f : ItemTree → Option Place) (before : List ItemTree) (item : ItemTree) (o : Option Place) → f item ≡ None → o ≡ first_of (filter_map f before) → o ≡ first_of (filter_map f (before ++ item ∷ []))
first_kept f before item o e q = q ∙ ap first_of (kept f before item e)

first_place : (places : List Place) (place : Place) → None ≡ first_of places → Some place ≡ first_of (places ++ place ∷ [])
first_place [] place e = refl
first_place (p ∷ places) place e = absurd cc

first_more : (f : ItemTree → Option Place) (before : List ItemTree) (item : ItemTree) (place : Place) → f item ≡ Some place → None ≡ first_of (filter_map f before) → Some place ≡ first_of (filter_map f (before ++ item ∷ []))
first_more f before item place e q = first_place (filter_map f before) place q ∙ ap first_of (more f before item place e)

pub names_kept : (f : ItemTree → Option PlacedName) (before : List ItemTree) (item : ItemTree) (table : List (Bytes × Place)) → f item ≡ None → AreFirst table (filter_map f before) → AreFirst table (filter_map f (before ++ item ∷ []))
names_kept f before item table e are = subst (λ (names : List PlacedName). AreFirst table names) (kept f before item e) are

pub names_more : (f : ItemTree → Option PlacedName) (before : List ItemTree) (item : ItemTree) (name : PlacedName) (table : List (Bytes × Place)) → f item ≡ Some name → AreFirst table (filter_map f before ++ name ∷ []) → AreFirst table (filter_map f (before ++ item ∷ []))
names_more f before item name table e are = subst (λ (names : List PlacedName). AreFirst table names) (more f before item name e) are

-- an item that is none of these
pub none_seen : (seen : Seen) (before : List ItemTree) (item : ItemTree) → source_place item ≡ None → layout_place item ≡ None → triple_place item ≡ None → struct_name item ≡ None → IsSeen seen before → IsSeen seen (before ++ item ∷ [])
none_seen seen before item s l t n are = record {
  source = first_kept source_place before item seen.source s are.source;
  layout = first_kept layout_place before item seen.layout l are.layout;
  triple = first_kept triple_place before item seen.triple t are.triple;
  structs = names_kept struct_name before item seen.structs n are.structs;
}

struct_there : (seen : Seen) (table : List (Bytes × Place)) (before : List ItemTree) (name : PlacedName) (body : BodyTree)
    → IsSeen seen before → AreFirst table (filter_map struct_name before ++ name ∷ [])
    → IsSeen (record { source = seen.source; layout = seen.layout; triple = seen.triple; structs = table }) (before ++ Struct name body ∷ [])
struct_there seen table before name body are new = record {
  source = first_kept source_place before (Struct name body) seen.source refl are.source;
  layout = first_kept layout_place before (Struct name body) seen.layout refl are.layout;
  triple = first_kept triple_place before (Struct name body) seen.triple refl are.triple;
  structs = names_more struct_name before (Struct name body) name table refl new;
}

source_there : (seen : Seen) (new : Option Place) (before : List ItemTree) (place : Place) (text : PlacedText) → seen.source ≡ None → new ≡ Some place → IsSeen seen before
    → IsSeen (record { source = new; layout = seen.layout; triple = seen.triple; structs = seen.structs }) (before ++ SourceFilename place text ∷ [])
source_there seen new before place text none e are = record {
  source = e ∙ first_more source_place before (SourceFilename place text) place refl (sym none ∙ are.source);
  layout = first_kept layout_place before (SourceFilename place text) seen.layout refl are.layout;
  triple = first_kept triple_place before (SourceFilename place text) seen.triple refl are.triple;
  structs = names_kept struct_name before (SourceFilename place text) seen.structs refl are.structs;
}

layout_there : (seen : Seen) (new : Option Place) (before : List ItemTree) (place : Place) (text : PlacedText) → seen.layout ≡ None → new ≡ Some place → IsSeen seen before
    → IsSeen (record { source = seen.source; layout = new; triple = seen.triple; structs = seen.structs }) (before ++ DataLayout place text ∷ [])
layout_there seen new before place text none e are = record {
  source = first_kept source_place before (DataLayout place text) seen.source refl are.source;
  layout = e ∙ first_more layout_place before (DataLayout place text) place refl (sym none ∙ are.layout);
  triple = first_kept triple_place before (DataLayout place text) seen.triple refl are.triple;
  structs = names_kept struct_name before (DataLayout place text) seen.structs refl are.structs;
}

triple_there : (seen : Seen) (new : Option Place) (before : List ItemTree) (place : Place) (text : PlacedText) → seen.triple ≡ None → new ≡ Some place → IsSeen seen before
    → IsSeen (record { source = seen.source; layout = seen.layout; triple = new; structs = seen.structs }) (before ++ TargetTriple place text ∷ [])
triple_there seen new before place text none e are = record {
  source = first_kept source_place before (TargetTriple place text) seen.source refl are.source;
  layout = first_kept layout_place before (TargetTriple place text) seen.layout refl are.layout;
  triple = e ∙ first_more triple_place before (TargetTriple place text) place refl (sym none ∙ are.triple);
  structs = names_kept struct_name before (TargetTriple place text) seen.structs refl are.structs;
}

pub struct_seen : (seen : Seen) (table : List (Bytes × Place)) (before : List ItemTree) (item : ItemTree) (name : PlacedName) (body : BodyTree) → item ≡ Struct name body
    → IsSeen seen before → AreFirst table (filter_map struct_name before ++ name ∷ [])
    → IsSeen (record { source = seen.source; layout = seen.layout; triple = seen.triple; structs = table }) (before ++ item ∷ [])
struct_seen seen table before item name body shape are new =
    subst (λ (x : ItemTree). IsSeen (record { source = seen.source; layout = seen.layout; triple = seen.triple; structs = table }) (before ++ x ∷ [])) (sym shape) (struct_there seen table before name body are new)

pub source_seen : (seen : Seen) (new : Option Place) (before : List ItemTree) (item : ItemTree) (place : Place) (text : PlacedText) → item ≡ SourceFilename place text → IsSeen seen before → seen.source ≡ None → new ≡ Some place
    → IsSeen (record { source = new; layout = seen.layout; triple = seen.triple; structs = seen.structs }) (before ++ item ∷ [])
source_seen seen new before item place text shape are none e =
    subst (λ (x : ItemTree). IsSeen (record { source = new; layout = seen.layout; triple = seen.triple; structs = seen.structs }) (before ++ x ∷ [])) (sym shape) (source_there seen new before place text none e are)

pub layout_seen : (seen : Seen) (new : Option Place) (before : List ItemTree) (item : ItemTree) (place : Place) (text : PlacedText) → item ≡ DataLayout place text → IsSeen seen before → seen.layout ≡ None → new ≡ Some place
    → IsSeen (record { source = seen.source; layout = new; triple = seen.triple; structs = seen.structs }) (before ++ item ∷ [])
layout_seen seen new before item place text shape are none e =
    subst (λ (x : ItemTree). IsSeen (record { source = seen.source; layout = new; triple = seen.triple; structs = seen.structs }) (before ++ x ∷ [])) (sym shape) (layout_there seen new before place text none e are)

pub triple_seen : (seen : Seen) (new : Option Place) (before : List ItemTree) (item : ItemTree) (place : Place) (text : PlacedText) → item ≡ TargetTriple place text → IsSeen seen before → seen.triple ≡ None → new ≡ Some place
    → IsSeen (record { source = seen.source; layout = seen.layout; triple = new; structs = seen.structs }) (before ++ item ∷ [])
triple_seen seen new before item place text shape are none e =
    subst (λ (x : ItemTree). IsSeen (record { source = seen.source; layout = seen.layout; triple = new; structs = seen.structs }) (before ++ x ∷ [])) (sym shape) (triple_there seen new before place text none e are)

-- what two clauses say of the same answer
pub on_ok_two : {P Q R : Type 0} (r : Result (Unit {0}) ResolveFault) → (P → Q → R) → OnOk r P → OnOk r Q → OnOk r R
on_ok_two (Ok a) f p q = f p q
on_ok_two (Err fault) f p q = tt

-- what holds whatever the answer is
pub on_ok_always : {P : Type 0} (r : Result (Unit {0}) ResolveFault) → P → OnOk r P
on_ok_always (Ok a) p = p
on_ok_always (Err fault) p = tt
