-- For `jump`, `branch` and `switch`: ways into blocks. The moves of all ways of a function lie in one pool.
use Rattle.std.specs.Prelude.{ℕ, ◌-◌, ◌≤◌, nat_eq, List, [], ◌∷◌, length, take, drop, if◌then◌else◌}
use Rattle.std.specs.List.{All}
use Rattle.run_rules.specs.Action as actions
use Rattle.run_actions.specs.declared.stack.origin.Move.{Move}
use Rattle.run_actions.specs.Stack.Origins.{edge_of, IsMoveIn}
use Rattle.run_actions.specs.Stack.UnderWay.{UnderWay, newest}
use Rattle.run_actions.specs.declared.edge.Edge.{Edge}
use Rattle.run_actions.specs.declared.edge.SwitchWay.{SwitchWay}

-- the moves of a way
abbrev pub moves_in : List Move → Edge → List Move
moves_in pool e = take (e.end - e.first) (drop e.first pool)

-- what it is in an action
abbrev pub way_of : List Move → Edge → actions.Edge
way_of pool e = edge_of e.block e.position (moves_in pool e)

-- the same of a case
abbrev pub case_way : List Move → SwitchWay → ℕ × actions.Edge
case_way pool c = (c.number, way_of pool c.edge)

-- the way of the first case with that number, or else the other
abbrev pub chosen_of : ℕ → Edge → List SwitchWay → Edge
chosen_of number otherwise [] = otherwise
chosen_of number otherwise (c ∷ cs) = if nat_eq c.number number then c.edge else chosen_of number otherwise cs

-- the moves are in the pool, their places are within the newest frame, and they are no more than may be set at once
pub record IsWay (s : UnderWay) (pool : List Move) (e : Edge) : Type 0 where
  pub ordered : e.first ≤ e.end
  pub stored : e.end ≤ length pool
  pub within : All (IsMoveIn (length (newest s.frames).leaves)) (moves_in pool e)
  pub room : length (moves_in pool e) ≤ s.widest
