-- Says how the code reads: functions that get their blocks, one after the other.
use Rattle.std.specs.Prelude.{◌≡◌, ℕ, ◌+◌, List, ◌++◌, map, filter_map, length, option_to_list}
use Rattle.ir_syntax.specs.Tree.{ItemTree, Definition}
use Rattle.module_arena.specs.Changes.{defined}
use Rattle.module_arena.specs.Module as m
use Rattle.module_arena.specs.Module.{Module}
use Rattle.name_rules.specs.ModuleOf.{function_in}
use Rattle.item_build.specs.Buildable.Bodies.{parameter_names, body_of}
use Rattle.item_build.specs.Declaring.{declared_functions}

-- the function with that number gets the blocks of the item
abbrev pub defined_in : Module → ℕ → ItemTree → Module
defined_in m id (Definition place head parameters blocks) = defined m id (λ f. body_of parameters blocks)
defined_in m id _ = m

-- the number behind those of the functions, where the item may be one
abbrev pub function_behind : ℕ → ItemTree → ℕ
function_behind id item = id + length (option_to_list (function_in item))

-- the parameters of the function are called as those of the item, where it is a definition
abbrev pub IsCalledSo : ItemTree → m.Function → Type 0
IsCalledSo (Definition place head parameters blocks) f = map (λ (p : m.Parameter). p.name) f.parameters ≡ parameter_names parameters
IsCalledSo _ f = Unit {0}

-- the module whose functions have blocks as far as the first items go
abbrev pub with_bodies : Module → List ItemTree → List ItemTree → Module
with_bodies m first more = record m { functions = filter_map function_in first ++ declared_functions more }
