use Rattle.std.proofs.Common.{◌≡◌, ◌≤◌, map, take}
use Rattle.ir_syntax.specs.View.{parameter_view}
use Rattle.name_rules.specs.ModuleOf.{parameters_in}
use Rattle.item_build.specs.Types.Stands.{Grows}
use Rattle.item_build.specs.Types.Parameters.{AreParameters, kept, behind}
use Rattle.item_build.proofs.types.functions.add_parameters.Given as goal

abbrev pub invariant-loop-parameter : goal.invariant-loop-parameter
invariant-loop-parameter l = record {
  grows : Grows l.fn.builder.arena l.builder.arena;
  so_far : AreParameters l.builder.arena l.parameters.items (parameters_in 0 (map (λ p. kept l.named (parameter_view p)) (take l.parameter-index l.written)));
  next : l.next ≡ behind 0 (map (λ p. kept l.named (parameter_view p)) (take l.parameter-index l.written));
  bound : l.next ≤ l.parameter-index;
}
