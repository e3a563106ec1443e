use Rattle.std.proofs.Common.{◌≡◌, length, take}
use Rattle.ir_syntax.specs.View.{items_view}
use Rattle.name_rules.specs.ModuleOf.{structs_in}
use Rattle.item_build.specs.Places.{ArePlaces}
use Rattle.item_build.proofs.along.struct_places.Given as goal

-- the places of the structs so far
abbrev pub invariant-items : goal.invariant-items
invariant-items l = record {
  places : ArePlaces l.items l.places.items;
  count : length l.places.items ≡ length (structs_in (items_view (take l.place l.items)));
}
