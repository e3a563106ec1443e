use Rattle.std.proofs.Common.{map, take}
use Rattle.ir_phrases.specs.Constants.View.{typed_constant_view}
use Rattle.item_build.specs.Types.Stands.{AreTyped, Grows}
use Rattle.item_build.specs.Types.Typed.{typed_in}
use Rattle.item_build.proofs.types.builder.Builder.+constants.Given as goal

abbrev pub invariant-add_typed_list-loop-typed : goal.invariant-add_typed_list-loop-typed
invariant-add_typed_list-loop-typed l = record {
  grows : Grows l.fn.self.arena l.self.arena;
  so_far : AreTyped l.self.arena l.ids.items (map (λ c. typed_in (typed_constant_view c)) (take l.typed-index l.list));
}
