-- What an entity is asked by one rule.
use Rattle.std.proofs.Common.{ℕ, Bool}
use Rattle.module_arena.specs.Valid.{Entity, Demand, Test}

abbrev pub demand : Entity → ℕ → Bool → Demand
demand entity rule passes = record { entity = entity; rule = rule; fact = Test passes }
