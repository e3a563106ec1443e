use Rattle.std.proofs.Common.{map, take}
use Rattle.ir_phrases.specs.Constants.View.{type_view}
use Rattle.name_rules.specs.Written.{type_in}
use Rattle.item_build.specs.Types.Stands.{AreTypes, Grows}
use Rattle.ir_resolve.proofs.instruction_build.signatures.argument_types.Given as goal

abbrev pub invariant-loop-argument : goal.invariant-loop-argument
invariant-loop-argument l = record {
  grows : Grows l.fn.builder.arena l.builder.arena;
  so_far : AreTypes l.builder.arena l.ids.items (map (λ x. type_in (type_view x.ty)) (take l.argument-index l.written));
}
