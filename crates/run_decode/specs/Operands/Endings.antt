-- For `put_cases` and `put_ending`: the cases of a `switch` and the ends of blocks by their ids.
use Rattle.std.specs.Prelude.{◌≡◌, ℕ, List, map}
use Rattle.std.specs.List.{All}
use Rattle.module_arena.specs.declared.instruction.Case as the_case
use Rattle.module_arena.specs.declared.instruction.Ending as the_ending
use Rattle.module_arena.specs.declared.entry.Function as the_function
pub use Rattle.module_arena.specs.FunctionView.{ending_of}
use Rattle.module_arena.specs.Lists.{Lists}
use Rattle.module_arena.specs.Module as m
use Rattle.module_arena.specs.View.{case_view, constants_of}
use Rattle.type_table.specs.Types.{trees}
use Rattle.run_rules.specs.Action as actions
use Rattle.run_rules.specs.Resolve.{case_in, ending_in}
use Rattle.run_actions.specs.declared.edge.SwitchWay.{SwitchWay}
use Rattle.run_actions.specs.Edges.{case_way}
use Rattle.run_decode.specs.declared.flat.action.Action.{Action}
use Rattle.run_decode.specs.declared.flat.pools.Pools.{Pools}
use Rattle.run_decode.specs.Flat.Flat.{HasItsMoves}
use Rattle.run_decode.specs.Flat.Grown.{Stands}
use Rattle.run_decode.specs.Scopes.Scopes.{Framed, label_of, labels_in, scope_in, values_in}

module _ (a : Lists) (f : the_function.Function) where
  -- what stands for a case
  abbrev pub case_of : the_case.Case → m.Case
  case_of c = case_view (trees a.table) (constants_of a) (values_in a f) (labels_in a f) c

-- a case of a `switch` that ends the block with that id, with its number and its edge
abbrev pub case_from : Framed → ℕ → the_case.Case → ℕ × actions.Edge
case_from s from c = case_in (scope_in s.lists s.function) (label_of s.lists s.function from) (case_of s.lists s.function c)

-- the action of the end of the block with that id
abbrev pub ending_from : Framed → ℕ → the_ending.Ending → actions.Action
ending_from s from e = ending_in (scope_in s.lists s.function) (label_of s.lists s.function from) (ending_of s.lists s.function e)

-- these are the cases that are meant, with the moves of their edges
pub record AreMeant (p : Pools) (cs : List SwitchWay) (meant : List (ℕ × actions.Edge)) : Type 0 where
  pub moves : All (λ c. HasItsMoves p c.edge) cs
  pub means : map (case_way p.moves) cs ≡ meant

-- the flat action is the one to which the end of the block with that id comes
abbrev pub EndMeant : Framed → Pools → ℕ → the_ending.Ending → Action → Type 0
EndMeant s p from e action = Stands s.lists p action (ending_from s from e)
