use Rattle.std.proofs.Common.{map, take, All}
use Rattle.ir_phrases.specs.Constants.View.{type_view}
use Rattle.name_rules.specs.Written.{type_in}
use Rattle.type_table.specs.Tree.{Structs}
use Rattle.item_build.specs.Types.Fitting.{CanBe, AreWithin}
use Rattle.item_build.specs.Types.Stands.{AreTypes, Grows}
use Rattle.item_build.proofs.types.builder.Builder.+types.Given as goal

abbrev pub invariant-add_types-loop-ty : goal.invariant-add_types-loop-ty
invariant-add_types-loop-ty l = record {
  grows : Grows l.fn.self.arena l.self.arena;
  so_far : AreTypes l.self.arena l.ids.items (map (λ t. type_in (type_view t)) (take l.ty-index l.types));
  within : (whole : Structs) → All (λ t. CanBe whole (type_in (type_view t))) l.types → AreWithin whole l.fn.self.arena → AreWithin whole l.self.arena;
}
