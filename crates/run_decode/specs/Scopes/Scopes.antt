-- For `new`, `bounds`, `to` and the other calls of `FunctionScope`: what the ids in a function of an arena stand for in a run
-- of its module alone.
use Rattle.std.specs.Prelude.{◌≡◌, ℕ, ◌+◌, ◌<◌, ⊤, true, List, [], ◌∷◌, map, length, Option, Some, slice_get}
use Rattle.std.specs.List.{IsDistinct}
use Rattle.std.specs.Option.{option_map}
use Rattle.module_arena.specs.declared.entry.Function.{Function}
use Rattle.module_arena.specs.declared.entry.Parameter as the_parameter
use Rattle.module_arena.specs.declared.instruction.Operand as the_operand
use Rattle.module_arena.specs.declared.instruction.Value as the_value
use Rattle.module_arena.specs.declared.instruction.Value.TheVariants as value
pub use Rattle.module_arena.specs.FunctionView.{values_in, labels_in, label_of, value_of, operand_of, incoming_of, instruction_of, block_of}
use Rattle.module_arena.specs.Lists.{Lists, value_names, function_blocks}
use Rattle.module_arena.specs.Module as m
use Rattle.module_arena.specs.Same.{same_local}
use Rattle.module_arena.specs.View.{module_of, constants_of, local_view, value_name, function_view}
use Rattle.type_table.specs.Layout.{leaves}
use Rattle.type_table.specs.Tree.{Tree}
use Rattle.type_table.specs.Types.{tree, trees}
use Rattle.run_rules.specs.Constant.{shape_of}
use Rattle.run_rules.specs.Scope.{Placed, FunctionScope, Typed, local_in, locals_of, place_in, scope_of}
use Rattle.run_initial.specs.Constants.Sound.{IsSound, constant_of, is_scalar, names_of}

-- a function of an arena, and where the leaves of its parameters and results begin in a frame; behind them, where the last ones end
pub record Framed : Type 0 where
  pub lists : Lists
  pub function : Function
  pub places : List ℕ

-- the function that is meant
abbrev pub function_of : Lists → Function → m.Function
function_of a f = function_view (trees a.table) (constants_of a) f

-- what the names in it mean
abbrev pub scope_in : Lists → Function → FunctionScope
scope_in a f = scope_of (names_of a) (function_of a f)

-- where the leaves of each begin that follow those up to a place, and where the last ones end
abbrev pub bounds_from : ℕ → List Typed → List ℕ
bounds_from place [] = place ∷ []
bounds_from place (x ∷ xs) = place ∷ bounds_from (place + leaves x.1) xs

-- the parameters and results of a function, with their shapes
abbrev pub typed_of : Lists → Function → List Typed
typed_of a f = locals_of (names_of a) (function_of a f)

-- a parameter, and its shape
abbrev pub typed_parameter : Lists → the_parameter.Parameter → Typed
typed_parameter a p = (local_view p.name, shape_of (names_of a) (tree a.table p.ty))

-- no name stands at two places
abbrev pub AreApart : List m.LocalName → Type 0
AreApart names = (i j : ℕ) (name : m.LocalName) → slice_get names i ≡ Some name → slice_get names j ≡ Some name → i ≡ j

module _ (a : Lists) (f : Function) where
  -- the name of the parameter or result with that id
  abbrev pub name_of : ℕ → m.LocalName
  name_of id = value_name (trees a.table) (constants_of a) (values_in a f) (labels_in a f) id

  -- No two parameters and results of the function have one name, and no two blocks; the parameters and results are named in the order of
  -- their ids, and the places are theirs
  pub record IsFramed (places : List ℕ) : Type 0 where
    pub apart : IsDistinct same_local (values_in a f)
    pub labels : AreApart (labels_in a f)
    pub named : map (λ (x : Typed). x.0) (typed_of a f) ≡ values_in a f
    pub placed : places ≡ bounds_from 0 (typed_of a f)

-- the parameter or result with that id has its leaves from the one place up to the other
pub record IsPlaced (s : Framed) (id begin end : ℕ) : Type 0 where
  pub local : Placed
  pub found : local_in (scope_in s.lists s.function) (name_of s.lists s.function id) ≡ Some local
  pub begins : local.place ≡ begin
  pub ends : local.place + leaves local.shape ≡ end

-- where a result goes; a call without one goes to the front of the frame
abbrev pub to_of : Framed → Option ℕ → ℕ
to_of s result = place_in (scope_in s.lists s.function) (option_map (name_of s.lists s.function) result)

-- a value is a parameter or result of the function, or a constant of the arena
abbrev pub HasValue : Framed → the_value.Value → Type 0
HasValue s (value.Local id) = id < length (value_names s.function)
HasValue s (value.Known id) = id < length s.lists.constants

-- a block is one of the function
abbrev pub HasBlock : Framed → ℕ → Type 0
HasBlock s id = id < length (function_blocks s.function)

-- where the value is a constant, that can stand at the type
abbrev pub StandsAt : Framed → Tree → the_value.Value → Type 0
StandsAt s t (value.Local id) = ⊤
StandsAt s t (value.Known id) = IsSound (module_of s.lists) t (constant_of s.lists id)

-- the type is one of the arena, and the value is there and can stand at it
pub record HasValueAt (s : Framed) (ty : ℕ) (v : the_value.Value) : Type 0 where
  pub known : ty < length s.lists.table.types
  pub there : HasValue s v
  pub stands : StandsAt s (tree s.lists.table ty) v

-- the same of an operand
abbrev pub HasOperand : Framed → the_operand.Operand → Type 0
HasOperand s o = HasValueAt s o.ty o.value

-- the same of an integer or a pointer
pub record HasScalarAt (s : Framed) (ty : ℕ) (v : the_value.Value) : Type 0 where
  pub value : HasValueAt s ty v
  pub scalar : is_scalar (tree s.lists.table ty) ≡ true

-- the same of an operand that is one
abbrev pub HasScalar : Framed → the_operand.Operand → Type 0
HasScalar s o = HasScalarAt s o.ty o.value
