use Rattle.std.proofs.Common.{◌≡◌, ◌≤◌, ◌+◌, ◌++◌, map, length, take}
use Rattle.ir_syntax.specs.View.{parameter_view}
use Rattle.module_arena.specs.Module as m
use Rattle.module_arena.specs.View.{local_view}
use Rattle.name_rules.specs.ModuleOf.{parameters_in}
use Rattle.name_rules.specs.Locals.{next_after, announced_parameter}
use Rattle.ir_resolve.proofs.instruction_build.local_ids.LocalIds.add_parameters.Given as goal

abbrev pub invariant-loop-parameter : goal.invariant-loop-parameter
invariant-loop-parameter l = record {
  next : l.next ≡ next_after 0 (map announced_parameter (map parameter_view (take l.parameter-index l.written)));
  names : map local_view l.self.names.items ≡ map local_view l.fn.self.names.items ++ map (λ (p : m.Parameter). p.name) (parameters_in 0 (map parameter_view (take l.parameter-index l.written)));
  numbers : l.next ≤ l.parameter-index;
  few : length l.self.names.items ≤ length l.fn.self.names.items + l.parameter-index;
}
