-- For `callee`, `address` and `bounds` of `Names`: what is told of a module that is run alone.
use Rattle.std.specs.Prelude.{◌≡◌, true, ⊤, List, [], ◌∷◌, Some, slice_get}
use Rattle.std.specs.Option.{option_map_or}
use Rattle.module_arena.specs.declared.entry.Function.{Function}
use Rattle.module_arena.specs.Lists.{Lists}
use Rattle.module_arena.specs.Module.{Module}
use Rattle.run_rules.specs.Calls.{Callee}
use Rattle.run_rules.specs.Calls as calls
use Rattle.run_rules.specs.Look.{code_of, function_at, host_of}
use Rattle.run_names.specs.declared.callee.CalleeRef.{CalleeRef}
use Rattle.run_names.specs.declared.callee.CalleeRef.TheVariants.{Code, Host, Nothing}
use Rattle.run_names.specs.Standings.{has_code}

-- the parts of a run of one module
abbrev pub alone : Module → List Module
alone m = m ∷ []

-- what is meant by what is told of an address
abbrev pub callee_seen : List Module → CalleeRef → Callee
callee_seen parts (Code id) = option_map_or (code_of parts id) (function_at parts id) calls.Nothing
callee_seen parts (Host row) = host_of row
callee_seen parts Nothing = calls.Nothing

-- a function that is told of has a body that counts
abbrev pub HasCode : Lists → CalleeRef → Type 0
HasCode a (Code id) = (f : Function) × (slice_get a.functions id ≡ Some f) × (has_code f ≡ true)
HasCode a (Host row) = ⊤
HasCode a Nothing = ⊤
