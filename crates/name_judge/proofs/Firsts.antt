-- The place of the first name that is spelled so, with one name more.
use Rattle.std.specs.Prelude.{◌≡◌, refl, Bool, true, false, cond, List, [], ◌∷◌, ◌++◌, bytes_eq, Option, Some, None}
use Rattle.std.proofs.Common.{ap, sym, ◌∙◌}
use Rattle.std.proofs.lemmas.Slice.Eq.{bytes_eq-Decides}
use Rattle.ir_base.specs.declared.place.Place.{Place}
use Rattle.ir_terminals.specs.declared.values.PlacedName.{PlacedName}
use Rattle.module_arena.specs.Module.{Bytes}
use Rattle.type_table.specs.Names.Entries.{value_of}
use Rattle.name_rules.specs.Demand.{place_of_name}
use Rattle.type_judge.proofs.NamesGathered.{same_both}
use Rattle.name_judge.specs.Seen.{AreFirst}

-- the first, or the second where there is none
abbrev first_place : Option Place → Option Place → Option Place
first_place (Some place) other = Some place
first_place None other = other

place-append : (before : List PlacedName) (name : PlacedName) (other : Bytes) → place_of_name (before ++ name ∷ []) other ≡ first_place (place_of_name before other) (cond (bytes_eq name.name other) (Some name.place) None)
place-append [] name other = refl
place-append (b ∷ before) name other = by (bytes_eq b.name other) (place-append before name other)
  where
    by : (x : Bool) → place_of_name (before ++ name ∷ []) other ≡ first_place (place_of_name before other) (cond (bytes_eq name.name other) (Some name.place) None)
        → cond x (Some b.place) (place_of_name (before ++ name ∷ []) other) ≡ first_place (cond x (Some b.place) (place_of_name before other)) (cond (bytes_eq name.name other) (Some name.place) None)
    by true e = refl
    by false e = e

-- a new name with its place
pub first_more : (old new : List (Bytes × Place)) (before : List PlacedName) (name : PlacedName) → value_of old name.name ≡ None
    → ((other : Bytes) → value_of new other ≡ cond (bytes_eq other name.name) (Some name.place) (value_of old other)) → AreFirst old before → AreFirst new (before ++ name ∷ [])
first_more old new before name none put are = record {
  each = λ other.
      put other ∙ by other (bytes_eq other name.name) refl
      ∙ ap (λ b. first_place (place_of_name before other) (cond b (Some name.place) None)) (same_both other name.name)
      ∙ sym (place-append before name other);
}
  where
    after : (o : Option Place) → o ≡ first_place o None
    after None = refl
    after (Some place) = refl

    by : (other : Bytes) (x : Bool) → bytes_eq other name.name ≡ x → cond x (Some name.place) (value_of old other) ≡ first_place (place_of_name before other) (cond x (Some name.place) None)
    by other true e =
        let same = (bytes_eq-Decides other name.name).0 e in
        let no : place_of_name before other ≡ None = sym (are.each other) ∙ ap (value_of old) same ∙ none in
        ap (λ o. first_place o (Some name.place)) (sym no)
    by other false e = are.each other ∙ after (place_of_name before other)

-- a name that is there already
pub first_again : (table : List (Bytes × Place)) (before : List PlacedName) (name : PlacedName) (place : Place) → value_of table name.name ≡ Some place → AreFirst table before → AreFirst table (before ++ name ∷ [])
first_again table before name place some are = record {
  each = λ other. are.each other ∙ by other (bytes_eq name.name other) refl ∙ sym (place-append before name other);
}
  where
    after : (o : Option Place) → o ≡ first_place o None
    after None = refl
    after (Some p) = refl

    by : (other : Bytes) (x : Bool) → bytes_eq name.name other ≡ x → place_of_name before other ≡ first_place (place_of_name before other) (cond x (Some name.place) None)
    by other true e =
        let same = (bytes_eq-Decides name.name other).0 e in
        let is : place_of_name before other ≡ Some place = sym (are.each other) ∙ ap (value_of table) (sym same) ∙ some in
        is ∙ ap (λ o. first_place o (Some name.place)) (sym is)
    by other false e = after (place_of_name before other)
