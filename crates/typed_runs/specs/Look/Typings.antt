-- For `what_an_address_has_is_typed`: the kinds of leaves that the functions of parts have.
use Rattle.std.specs.Prelude.{List, [], map, length}
use Rattle.std.specs.Option.{option_map_or}
use Rattle.ir_memory.specs.declared.leaf.Leaf.{Leaf}
use Rattle.module_arena.specs.Module.{Function, Module}
use Rattle.linkage_rules.specs.Addresses.{rooms}
use Rattle.run_rules.specs.Constant.{Names, shape_of}
use Rattle.run_rules.specs.Look.{names_in, function_at, look, table}
use Rattle.run_rules.specs.Scope.{locals_of}
use Rattle.typed_runs.specs.Actions.{Typing}
use Rattle.typed_runs.specs.Kinds.{kinds_of, kinds_of_all}
use Rattle.typed_runs.specs.States.{IsTypedProgram}

-- of the parameters and results one after another
abbrev pub frame_kinds : Names → Function → List Leaf
frame_kinds names f = kinds_of_all (map (λ x. x.1) (locals_of names f))

-- by the number of the function; each variable has a block
abbrev pub typing_of : List Module → Typing
typing_of parts = record {
  kinds = λ n. option_map_or (λ d. frame_kinds (names_in parts d.0) d.1) (function_at parts n) [];
  gives = λ n. option_map_or (λ d. kinds_of (shape_of (names_in parts d.0) d.1.returns)) (function_at parts n) [];
  fixed = length (rooms parts);
}

-- look-up gives typed actions
abbrev pub IsTypedLook : List Module → Type 0
IsTypedLook parts = IsTypedProgram (typing_of parts) (look parts) (table parts)
