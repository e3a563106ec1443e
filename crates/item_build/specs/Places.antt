-- Says how the code of `build_structs` reads: where the structs of a text stand among its items.
use Rattle.std.specs.Prelude.{◌≡◌, ℕ, ◌<◌, List, length, take, Some, slice_get}
use Rattle.ir_syntax.specs.declared.item.Item.{Item}
use Rattle.ir_syntax.specs.View.{items_view}
use Rattle.name_rules.specs.ModuleOf.{structs_in}

-- the place with each number is that of an item with so many structs in front of it
abbrev pub ArePlaces : List Item → List ℕ → Type 0
ArePlaces items places =
    (number place : ℕ)
    → slice_get places number ≡ Some place
    → (place < length items) × (length (structs_in (items_view (take place items))) ≡ number)
