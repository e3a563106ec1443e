-- For all judges of entities, of instructions and of ends, and of uses (`judge_module`, `judge_global`,
-- `judge_instruction`, ..): what an answer says of a list of demands.
use Rattle.std.specs.Prelude.{ℕ, not, List, [], ◌∷◌, find, ⊤, Option, Result, Ok, Err}
use Rattle.std.specs.Option.{option_map}
use Rattle.module_arena.specs.EntityView.{entity_view}
use Rattle.module_arena.specs.Valid.{Entity, Test, Demand, AllHold, IsFirstOf}
use Rattle.entry_verify.specs.declared.types.fault.VerifyFault.{VerifyFault}
use Rattle.entry_verify.specs.declared.types.fault.VerifyFault.TheVariants as fault
use Rattle.entry_verify.specs.declared.types.judged.Check.{Check}

-- all of them hold, or the first that does not is the one that is told; want of memory says nothing
abbrev pub Judged : {T : Type 0} → List Demand → Result T VerifyFault → Type 0
Judged ds (Ok x) = AllHold ds
Judged ds (Err fault.Memory) = ⊤
Judged ds (Err (fault.FunctionTooLarge name product)) = ⊥
Judged ds (Err (fault.Invalid rule entity)) = IsFirstOf ds (entity_view entity) rule

-- what some rules ask of one entity
abbrev pub asks : Entity → List Check → List Demand
asks entity [] = []
asks entity (c ∷ cs) = record { entity = entity; rule = c.rule; fact = Test c.passes } ∷ asks entity cs

-- the first rule that does not hold
abbrev pub failed_in : List Check → Option ℕ
failed_in checks = option_map (λ c. c.rule) (find (λ c. not c.passes) checks)
