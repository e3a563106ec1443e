-- For all calls that put parts of instructions into `Pools`: that pools only grow, and what was put where.
use Rattle.std.specs.Prelude.{◌≡◌, ℕ, Bool, List, [], map}
use Rattle.module_arena.specs.Lists.{Lists}
use Rattle.run_rules.specs.Action as actions
use Rattle.run_rules.specs.Leaves.{Slot}
use Rattle.run_actions.specs.Values.{arm_of, part_of}
use Rattle.run_decode.specs.declared.flat.action.Action.{Action}
use Rattle.run_decode.specs.declared.flat.leaf.LeafAt.{LeafAt}
use Rattle.run_decode.specs.declared.flat.leaf.Span.{Span}
use Rattle.run_decode.specs.declared.flat.pools.Pools.{Pools}
use Rattle.run_decode.specs.Flat.Flat.{leaf_of, origins_of, terms_of, edge_at, cases_of, action_of, IsLeafIn, AreSummed, IsEdgeIn, AreCasesIn, IsWithin}
use Rattle.run_decode.specs.Flat.Spans.{spanned, IsSpanIn, IsLonger}

-- empty pools
abbrev pub no_pools : Pools
no_pools = record { known = []; origins = []; slots = []; terms = []; sums = []; moves = []; edges = []; cases = []; arms = []; parts = []; calls = []; types = [] }

-- each pool has grown at its end
pub record Grows (old new : Pools) : Type 0 where
  pub known : IsLonger old.known new.known
  pub origins : IsLonger old.origins new.origins
  pub slots : IsLonger old.slots new.slots
  pub terms : IsLonger old.terms new.terms
  pub sums : IsLonger old.sums new.sums
  pub moves : IsLonger old.moves new.moves
  pub edges : IsLonger old.edges new.edges
  pub cases : IsLonger old.cases new.cases
  pub arms : IsLonger old.arms new.arms
  pub parts : IsLonger old.parts new.parts
  pub calls : IsLonger old.calls new.calls
  pub types : IsLonger old.types new.types

-- so, and no call is new
pub record Adds (old new : Pools) : Type 0 where
  pub grows : Grows old new
  pub calls : new.calls ≡ old.calls

-- a leaf is had from there
pub record IsLeaf (p : Pools) (leaf : LeafAt) (origin : actions.Origin) : Type 0 where
  pub within : IsLeafIn p leaf
  pub means : leaf_of p leaf ≡ origin

-- the leaves of a value are had from there
pub record AreLeaves (p : Pools) (span : Span) (origins : List actions.Origin) : Type 0 where
  pub within : IsSpanIn p.origins span
  pub means : origins_of p span ≡ origins

-- these slots stand there
pub record AreSlots (p : Pools) (span : Span) (slots : List Slot) : Type 0 where
  pub within : IsSpanIn p.slots span
  pub means : spanned p.slots span ≡ slots

-- these terms stand there, and their sum
pub record AreTerms (p : Pools) (span : Span) (sum : ℕ) (terms : List actions.Term) : Type 0 where
  pub within : AreSummed p span sum
  pub means : terms_of p span ≡ terms

-- this edge stands there
pub record IsEdge (p : Pools) (place : ℕ) (edge : actions.Edge) : Type 0 where
  pub within : IsEdgeIn p place
  pub means : edge_at p place ≡ edge

-- these cases stand there
pub record AreCases (p : Pools) (span : Span) (cases : List (ℕ × actions.Edge)) : Type 0 where
  pub within : AreCasesIn p span
  pub means : cases_of p span ≡ cases

-- these arms stand there
pub record AreArms (p : Pools) (span : Span) (arms : List (actions.Origin × actions.Origin)) : Type 0 where
  pub within : IsSpanIn p.arms span
  pub means : map arm_of (spanned p.arms span) ≡ arms

-- these parts stand there
pub record AreParts (p : Pools) (span : Span) (parts : List (Bool × actions.Origin)) : Type 0 where
  pub within : IsSpanIn p.parts span
  pub means : map part_of (spanned p.parts span) ≡ parts

-- the flat action is this action
pub record Stands (a : Lists) (p : Pools) (action : Action) (meant : actions.Action) : Type 0 where
  pub within : IsWithin p action
  pub means : action_of p a action ≡ meant
