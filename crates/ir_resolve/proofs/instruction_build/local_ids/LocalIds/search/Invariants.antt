use Rattle.std.proofs.Common.{◌≡◌, ◌<◌, ℕ, map, get_or}
use Rattle.module_arena.specs.View.{local_view}
use Rattle.name_rules.specs.Locals.{local_in}
use Rattle.ir_resolve.proofs.instruction_build.local_ids.LocalIds.search.Given as goal

abbrev pub invariant-names : goal.invariant-names
invariant-names l = (k : ℕ) → k < l.id → get_or (map local_view l.self.names.items) k (local_in l.written) ≡ local_in l.written → ⊥
