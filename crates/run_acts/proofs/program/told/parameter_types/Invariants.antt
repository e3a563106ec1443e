use Rattle.std.proofs.Common.{◌≡◌, map, take}
use Rattle.module_arena.specs.declared.entry.Parameter.{Parameter}
use Rattle.run_acts.proofs.program.told.parameter_types.Given as goal

-- the types of the parameters so far
abbrev pub invariant-parameters : goal.invariant-parameters
invariant-parameters l = l.types.items ≡ map (λ (p : Parameter). p.ty) (take l.parameter-index l.function.parameters)
