use Rattle.std.proofs.Common.{◌≡◌, [], ◌∷◌, filter, length, map, take}
use Rattle.module_arena.specs.declared.entry.Variable.{Variable}
use Rattle.module_arena.specs.View.{module_of}
use Rattle.run_rules.specs.Look.{address_in}
use Rattle.run_names.specs.Spots.{is_defined}
use Rattle.run_names.proofs.spot.addresses_of.Given as goal

-- as many blocks were given out as variables so far are defined
abbrev pub invariant-variables : goal.invariant-variables
invariant-variables l = record {
  block : l.block ≡ length (filter is_defined (take l.number l.program.variables));
  addresses : l.addresses.items ≡ map (λ (v : Variable). address_in (module_of l.program ∷ []) 0 v.name) (take l.number l.program.variables);
}
