-- For `new`, `action` and `widest` of `ActionBody`: the actions of a function by their places.
use Rattle.std.specs.Prelude.{ℕ, ◌-◌, ◌≤◌, List, slice_get}
use Rattle.std.specs.List.{All}
use Rattle.std.specs.Option.{option_map_or}
use Rattle.module_arena.specs.Lists.{Lists}
use Rattle.run_rules.specs.Action as actions
use Rattle.run_actions.specs.declared.edge.SwitchWay.{SwitchWay}
use Rattle.run_actions.specs.declared.edge.Edge.{Edge}
use Rattle.run_decode.specs.declared.flat.action.Action.{Action}
use Rattle.run_decode.specs.declared.flat.leaf.Span.{Span}
use Rattle.run_decode.specs.declared.flat.pools.Pools.{Pools}
use Rattle.run_decode.specs.Flat.Flat.{action_of, IsWithin}
use Rattle.run_decode.specs.Flat.Spans.{IsSpanIn}

-- the lists of the module, the pools into which actions point, the actions of each block, and how many leaves an edge sets at most
pub record Decoded : Type 0 where
  pub lists : Lists
  pub pools : Pools
  pub rows : List (List Action)
  pub widest : ℕ

module _ (d : Decoded) where
  -- the action at a place of a block
  abbrev pub look_in_row : ℕ → List Action → actions.Action
  look_in_row position row = option_map_or (action_of d.pools d.lists) (slice_get row position) actions.Stuck

  -- the action at a place of the function
  abbrev pub look_of : ℕ → ℕ → actions.Action
  look_of block position = option_map_or (look_in_row position) (slice_get d.rows block) actions.Stuck

-- no edge sets more leaves than that at once, be it an edge of its own or of a case
pub record AreNarrow (p : Pools) (widest : ℕ) : Type 0 where
  pub edges : All (λ (e : Edge). e.end - e.first ≤ widest) p.edges
  pub cases : All (λ (c : SwitchWay). c.edge.end - c.edge.first ≤ widest) p.cases

-- each block has its place among the actions, what each action points to is there, and no edge sets more leaves than the widest
pub record IsDecoded (p : Pools) (done : List Action) (spans : List Span) (widest : ℕ) : Type 0 where
  pub rows : All (IsSpanIn done) spans
  pub within : All (IsWithin p) done
  pub narrow : AreNarrow p widest
