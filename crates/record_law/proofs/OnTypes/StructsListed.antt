-- Structs that are defined one behind the other: what their types and bodies stand for, and that they are within the limits.
use Rattle.std.proofs.Common.{◌≡◌, ◌⊎◌, true, List, [], ◌∷◌, ◌++◌, Option, Some, refl, sym, ap, ◌∙◌, append-nil}
use Rattle.std.specs.Prelude.{map}
use Rattle.std.specs.List.{AllByRecursion, list_all, fold}
use Rattle.type_table.specs.Tree.{Tree, TreeBody, opaque_body, named, Structs, body_of, index_of}
use Rattle.type_table.specs.Types.{Types, trees, structs, grow}
use Rattle.type_table.specs.Types as table
use Rattle.type_table.specs.Shape.{shape}
use Rattle.type_table.specs.declared.ir_type.StructBody.{StructBody}
use Rattle.module_arena.specs.Module.{Bytes}
use Rattle.module_arena.specs.WellFormed.{is_within_limits}
use Rattle.record_table.specs.TypeRecords.{all_fit}
use Rattle.record_table.specs.Spelling.{by_ids, body_by_ids}
use Rattle.record_law.proofs.OnTypes.LessDefined.{fits_less}
use Rattle.record_law.proofs.OnTypes.TypesById.{IsNamedBy}
use Rattle.record_law.proofs.OnTypes.TypesFront.{StandsOn, grows}
use Rattle.record_law.proofs.OnTypes.TypesPut.{undefined, names_kept, all_within}
use Rattle.record_law.proofs.OnTypes.StructsPut.{BodyIsThere, body_again, opaque_later}

abbrev pub names_of : Structs → List Bytes
names_of bodies = map (λ s. s.0) bodies

-- structs that are not defined yet stand for opaque ones
abbrev pub opaque : Structs → Structs
opaque back = map (λ s. (s.0, opaque_body)) back

undefined_bodies : (back : Structs) (done : List Tree) → map (table.tree_struct done) (undefined (names_of back)) ≡ opaque back
undefined_bodies [] done = refl
undefined_bodies (s ∷ back) done = ap (λ all. (s.0, opaque_body) ∷ all) (undefined_bodies back done)

opaque_bodies : (back : Structs) → map (λ (s : Bytes × TreeBody). s.1) (opaque back) ≡ map (λ (b : TreeBody). opaque_body) (map (λ (s : Bytes × TreeBody). s.1) back)
opaque_bodies [] = refl
opaque_bodies (s ∷ back) = ap (λ all. opaque_body ∷ all) (opaque_bodies back)

front_names : (front back : Structs) → names_of (front ++ opaque back) ≡ names_of (front ++ back)
front_names [] [] = refl
front_names [] (s ∷ back) = ap (λ all. s.0 ∷ all) (front_names [] back)
front_names (s ∷ front) back = ap (λ all. s.0 ∷ all) (front_names front back)

front_bodies : (front back : Structs) → map (λ (s : Bytes × TreeBody). s.1) (front ++ opaque back) ≡ map (λ (s : Bytes × TreeBody). s.1) front ++ map (λ (b : TreeBody). opaque_body) (map (λ (s : Bytes × TreeBody). s.1) back)
front_bodies [] back = opaque_bodies back
front_bodies (s ∷ front) back = ap (λ all. s.1 ∷ all) (front_bodies front back)

all_bodies : (front back : Structs) → map (λ (s : Bytes × TreeBody). s.1) (front ++ back) ≡ map (λ (s : Bytes × TreeBody). s.1) front ++ map (λ (s : Bytes × TreeBody). s.1) back
all_bodies [] back = refl
all_bodies (s ∷ front) back = ap (λ all. s.1 ∷ all) (all_bodies front back)

-- a struct has its body in the end, or is opaque
fewer : (front back : Structs) (name : Bytes) → (body_of (front ++ opaque back) name ≡ body_of (front ++ back) name) ⊎ (body_of (front ++ opaque back) name ≡ opaque_body)
fewer front back name =
    rw (front_names front back, front_bodies front back, all_bodies front back)
    (opaque_later (map (λ (s : Bytes × TreeBody). s.1) front) (map (λ (s : Bytes × TreeBody). s.1) back) (index_of (names_of (front ++ back)) name))

module _ (bodies : Structs) (all : List Tree) where
  -- structs with their bodies by the places of their fields
  abbrev pub defined : Structs → List (Bytes × Option StructBody)
  defined front = map (λ s. (s.0, Some (body_by_ids all s.1))) front

  -- all types, and the structs of which the first are defined
  abbrev pub types_with : Structs → Structs → Types
  types_with front back = record { types = map (by_ids all (names_of bodies)) all; structs = defined front ++ undefined (names_of back) }

  pub names_again : (front back : Structs) → table.names (types_with front back) ≡ names_of (front ++ back)
  names_again [] back = names_kept (names_of back)
  names_again (s ∷ front) back = ap (λ ns. s.0 ∷ ns) (names_again front back)

  pub trees_with : (front back : Structs) → bodies ≡ front ++ back → StandsOn [] all → AllByRecursion (IsNamedBy (names_of bodies)) all → trees (types_with front back) ≡ all
  trees_with front back e stands known =
      ap (λ ns. fold (grow ns) [] (map (by_ids all (names_of bodies)) all)) (names_again front back ∙ sym (ap names_of e))
      ∙ grows all (names_of bodies) all [] [] (sym (append-nil all)) stands known

  bodies_of : (front back : Structs) → AllByRecursion (λ s. BodyIsThere all s.1) front → map (table.tree_struct all) (defined front ++ undefined (names_of back)) ≡ front ++ opaque back
  bodies_of [] back there = undefined_bodies back all
  bodies_of (s ∷ front) back there = ap (λ b. (s.0, b) ∷ map (table.tree_struct all) (defined front ++ undefined (names_of back))) (body_again all s.1 there.0) ∙ ap (λ rest. s ∷ rest) (bodies_of front back there.1)

  pub bodies_with : (front back : Structs) → bodies ≡ front ++ back → StandsOn [] all → AllByRecursion (IsNamedBy (names_of bodies)) all → AllByRecursion (λ s. BodyIsThere all s.1) front
      → structs (types_with front back) ≡ front ++ opaque back
  bodies_with front back e stands known there =
      ap (λ done. map (table.tree_struct done) (defined front ++ undefined (names_of back))) (trees_with front back e stands known) ∙ bodies_of front back there

  cut_within : (less : Structs) → ((name : Bytes) → (body_of less name ≡ body_of bodies name) ⊎ (body_of less name ≡ opaque_body)) → (ts : List Tree)
      → AllByRecursion (λ t. is_within_limits (shape bodies t) ≡ true) ts → AllByRecursion (λ t. is_within_limits (shape less t) ≡ true) ts
  cut_within less cut [] fit = tt
  cut_within less cut (t ∷ ts) fit = (fits_less less bodies cut t fit.0, cut_within less cut ts fit.1)

  -- within the limits, whichever are defined
  pub front_within : (front back : Structs) → bodies ≡ front ++ back → StandsOn [] all → AllByRecursion (IsNamedBy (names_of bodies)) all → AllByRecursion (λ s. BodyIsThere all s.1) front
      → AllByRecursion (λ t. is_within_limits (shape bodies t) ≡ true) (all ++ map named (names_of bodies)) → all_fit (types_with front back) ≡ true
  front_within front back e stands known there within =
      ap (λ ts. list_all is_within_limits (map (shape (structs (types_with front back))) (ts ++ map named (table.names (types_with front back))))) (trees_with front back e stands known)
      ∙ ap (λ ns. list_all is_within_limits (map (shape (structs (types_with front back))) (all ++ map named ns))) (names_again front back ∙ sym (ap names_of e))
      ∙ ap (λ bs. list_all is_within_limits (map (shape bs) (all ++ map named (names_of bodies)))) (bodies_with front back e stands known there)
      ∙ all_within (front ++ opaque back) (all ++ map named (names_of bodies)) (cut_within (front ++ opaque back) (λ name. rw e (fewer front back name)) (all ++ map named (names_of bodies)) within)
