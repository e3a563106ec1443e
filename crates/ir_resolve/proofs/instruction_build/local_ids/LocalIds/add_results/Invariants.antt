use Rattle.std.proofs.Common.{◌≡◌, ◌≤◌, ◌+◌, ◌++◌, map, length, take}
use Rattle.std.specs.Prelude.{flat_map, filter_map}
use Rattle.ir_phrases.specs.Instructions.View.{instruction_view}
use Rattle.module_arena.specs.Module as m
use Rattle.module_arena.specs.View.{local_view}
use Rattle.name_rules.specs.Bodies.{instructions_in}
use Rattle.name_rules.specs.Locals.{next_after, announced_result}
use Rattle.ir_resolve.proofs.instruction_build.local_ids.LocalIds.add_results.Given as goal

abbrev pub invariant-loop-instruction : goal.invariant-loop-instruction
invariant-loop-instruction l = record {
  next : l.next ≡ next_after l.first (flat_map announced_result (map instruction_view (take l.instruction-index l.written)));
  names : map local_view l.self.names.items ≡ map local_view l.fn.self.names.items ++ filter_map (λ (i : m.Instruction). i.result) (instructions_in l.first (map instruction_view (take l.instruction-index l.written)));
  numbers : l.next ≤ l.first + l.instruction-index;
  few : length l.self.names.items ≤ length l.fn.self.names.items + l.instruction-index;
}
