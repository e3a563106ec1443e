-- The places of structs among items, one item more.
use Rattle.std.proofs.Common.{◌≡◌, ℕ, zero, suc, ◌+◌, ◌<◌, List, [], ◌∷◌, ◌++◌, map, length, take, slice_get, option_to_list, Option, Some, None, ◌⊎◌, inl, inr, append-nil, refl, sym, ap, ◌∙◌, subst}
use Rattle.std.proofs.lemmas.List.{length-append, length-map}
use Rattle.std.proofs.lemmas.Option.{same_Some}
use Rattle.ir_syntax.specs.declared.item.Item.{Item}
use Rattle.ir_syntax.specs.declared.item.Item.TheVariants as items
use Rattle.ir_syntax.specs.declared.item.WrittenBody.{WrittenBody}
use Rattle.ir_syntax.specs.View.{item_view, items_view}
use Rattle.ir_terminals.specs.declared.values.PlacedName.{PlacedName}
use Rattle.name_rules.specs.ModuleOf.{struct_in, structs_in}
use Rattle.item_build.specs.Places.{ArePlaces}

-- an item that is no struct gives none
pub no_struct : (item : Item) → ((name : PlacedName) (body : WrittenBody) → item ≡ items.Struct name body → ⊥) → struct_in (item_view item) ≡ None
no_struct (items.Struct name body) never = absurd (never name body refl)
no_struct (items.Variable variable) never = refl
no_struct (items.Alias alias) never = refl
no_struct (items.Declaration place declaration) never = refl
no_struct (items.Definition place definition) never = refl
no_struct (items.SourceFilename place text) never = refl
no_struct (items.DataLayout place text) never = refl
no_struct (items.TargetTriple place text) never = refl
no_struct (items.Attributes place) never = refl
no_struct (items.Metadata place) never = refl

-- what stands in a list with one item more
pushed_get : {A : Type 0} (xs : List A) (y : A) (k : ℕ) (x : A) → slice_get (xs ++ y ∷ []) k ≡ Some x → (slice_get xs k ≡ Some x) ⊎ ((k ≡ length xs) × (x ≡ y))
pushed_get [] y zero x at = inr (refl, sym (same_Some y x at))
pushed_get [] y (suc k) x at = absurd cc
pushed_get (z ∷ xs) y zero x at = inl at
pushed_get (z ∷ xs) y (suc k) x at = go (pushed_get xs y k x at)
  where
    go : (slice_get xs k ≡ Some x) ⊎ ((k ≡ length xs) × (x ≡ y)) → (slice_get xs k ≡ Some x) ⊎ ((suc k ≡ suc (length xs)) × (x ≡ y))
    go (inl h) = inl h
    go (inr h) = inr (ap suc h.0, h.1)

pub no_places : (all : List Item) (places : List ℕ) → places ≡ [] → ArePlaces all places
no_places all [] e = λ number place at. absurd cc
no_places all (p ∷ places) e = absurd cc

module _ {S : Type 0} (all : List Item) (places : List ℕ) (i : ℕ) where
  -- with the place of an item where that is a struct
  abbrev pub with_place : Option S → List ℕ
  with_place found = places ++ map (λ (s : S). i) (option_to_list found)

  pub places_more : (found : Option S) → ArePlaces all places → i < length all → length places ≡ length (structs_in (items_view (take i all))) → ArePlaces all (with_place found)
  places_more None are lt count = λ number place at. are number place (subst (λ (l : List ℕ). slice_get l number ≡ Some place) (append-nil places) at)
  places_more (Some s) are lt count = λ number place at. go number place (pushed_get places i number place at)
    where
      go : (number place : ℕ) → (slice_get places number ≡ Some place) ⊎ ((number ≡ length places) × (place ≡ i)) → (place < length all) × (length (structs_in (items_view (take place all))) ≡ number)
      go number place (inl h) = are number place h
      go number place (inr h) = (subst (λ (n : ℕ). n < length all) (sym h.1) lt, ap (λ (n : ℕ). length (structs_in (items_view (take n all)))) h.1 ∙ sym count ∙ sym h.0)

  pub count_more : (found : Option S) → length (with_place found) ≡ length places + length (option_to_list found)
  count_more found = length-append places (map (λ (s : S). i) (option_to_list found)) ∙ ap (λ (n : ℕ). length places + n) (length-map (option_to_list found) (λ (s : S). i))
