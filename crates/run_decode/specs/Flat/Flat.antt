-- For `action` of `ActionBody`: what the flat actions of a body are as actions, by the pools into which they point.
use Rattle.std.specs.Prelude.{◌≡◌, ℕ, ◌^◌, ◌<◌, ◌≤◌, ⊤, ℤ, pos, nat_abs, false, List, [], ◌∷◌, map, zip, length, slice_get, slice_index_or, Option, Some, if◌then◌else◌}
use Rattle.std.specs.List.{All}
use Rattle.ir_eval.specs.declared.value.Scalar.{Scalar}
use Rattle.ir_eval.specs.declared.value.Scalar.TheVariants.{Poison}
use Rattle.module_arena.specs.Lists.{Lists}
use Rattle.type_table.specs.declared.measure.TheConstants.{SIZE_LIMIT}
use Rattle.run_rules.specs.Action as actions
use Rattle.run_rules.specs.Displace.{reach, reach_of, sum_of}
use Rattle.run_names.specs.Shapes.Shapes.{shape_in}
use Rattle.run_actions.specs.Stack.Origins.{origin_of}
use Rattle.run_actions.specs.declared.edge.Edge.{Edge}
use Rattle.run_actions.specs.Edges.{case_way, way_of}
use Rattle.run_actions.specs.Values.{arm_of, part_of}
use Rattle.run_decode.specs.declared.flat.action.Action.{Action}
use Rattle.run_decode.specs.declared.flat.action.Action.TheVariants.{Compute, Compare, Convert, Select, Freeze, Gather, Load, Store, Allocate, Displace, Call, Return, Jump, Branch, Switch, Unreachable, Passed}
use Rattle.run_decode.specs.declared.flat.action.TheConstants.{TERMS}
use Rattle.run_decode.specs.declared.flat.action.CallParts.{CallParts}
use Rattle.run_decode.specs.declared.flat.action.Term.{Term}
use Rattle.run_decode.specs.declared.flat.leaf.LeafAt.{LeafAt}
use Rattle.run_decode.specs.declared.flat.leaf.LeafAt.TheVariants.{Held, Known}
use Rattle.run_decode.specs.declared.flat.leaf.Span.{Span}
use Rattle.run_decode.specs.declared.flat.pools.Pools.{Pools}
use Rattle.run_decode.specs.Flat.Spans.{spanned, IsSpanIn}

-- no items
abbrev pub no_span : Span
no_span = record { first = 0; count = 0 }

-- an edge that no action has
abbrev pub no_edge : Edge
no_edge = record { block = 0; position = 0; first = 0; end = 0 }

-- a call that no action has
abbrev pub no_call : CallParts
no_call = record { signature = 0; returns = 0; parameters = no_span; variadic = false; shapes = no_span; arguments = no_span }

module _ (p : Pools) where
  -- where a leaf is had from
  abbrev pub leaf_of : LeafAt → actions.Origin
  leaf_of (Held place) = actions.Held place
  leaf_of (Known place) = actions.Known (slice_index_or p.known place Poison)

  -- where the leaves of a value are had from
  abbrev pub origins_of : Span → List actions.Origin
  origins_of s = map origin_of (spanned p.origins s)

  -- a term
  abbrev pub term_of : Term → actions.Term
  term_of t = record { index = leaf_of t.index; width = t.width; size = t.size }

  -- terms
  abbrev pub terms_of : Span → List actions.Term
  terms_of s = map term_of (spanned p.terms s)

  -- how far those terms reach that are not gathered yet
  abbrev pub others_reach : (actions.Origin → Scalar) → List Term → Option ℤ
  others_reach read [] = Some (pos 0)
  others_reach read (t ∷ ts) = if t.gathered then others_reach read ts else sum_of (reach (read (leaf_of t.index)) t.width t.size) (others_reach read ts)

  -- Wherever leaves are read that are not known, all terms together reach as far as the sum and the others: so what is
  -- gathered is known, and is not poison
  abbrev pub IsGathered : List Term → ℤ → Type 0
  IsGathered ts sum = (read : actions.Origin → Scalar) → ((leaf : Scalar) → read (actions.Known leaf) ≡ leaf)
      → reach_of read (map term_of ts) ≡ sum_of (Some sum) (others_reach read ts)

  -- the edge at a place
  abbrev pub edge_at : ℕ → actions.Edge
  edge_at place = way_of p.moves (slice_index_or p.edges place no_edge)

  -- cases
  abbrev pub cases_of : Span → List (ℕ × actions.Edge)
  cases_of s = map (case_way p.moves) (spanned p.cases s)

  module _ (a : Lists) where
    -- the function type of a call
    abbrev pub signature_of : CallParts → actions.Signature
    signature_of c = record { returns = shape_in a.table c.returns; parameters = map (shape_in a.table) (spanned p.types c.parameters); variadic = c.variadic }

    -- a call of a callee
    abbrev pub call_of : ℕ → actions.Origin → CallParts → actions.Action
    call_of to callee c = actions.Call to (signature_of c) callee (map (shape_in a.table) (spanned p.types c.shapes)) (origins_of c.arguments)

    -- the action that is meant
    abbrev pub action_of : Action → actions.Action
    action_of (Compute to opcode flags width left right) = actions.Compute to opcode flags width (leaf_of left) (leaf_of right)
    action_of (Compare to predicate samesign width left right) = actions.Compare to predicate samesign width (leaf_of left) (leaf_of right)
    action_of (Convert to opcode flags from_width to_width value) = actions.Convert to opcode flags from_width to_width (leaf_of value)
    action_of (Select to condition arms) = actions.Select to (leaf_of condition) (map arm_of (spanned p.arms arms))
    action_of (Freeze to parts) = actions.Freeze to (map part_of (spanned p.parts parts))
    action_of (Gather to value) = actions.Gather to (origins_of value)
    action_of (Load to align address slots) = actions.Load to align (leaf_of address) (spanned p.slots slots)
    action_of (Store align address slots value) = actions.Store align (leaf_of address) (zip (spanned p.slots slots) (origins_of value))
    action_of (Allocate to align size count) = actions.Allocate to size align (leaf_of count)
    action_of (Displace to inbounds base terms sum) = actions.Displace to inbounds (leaf_of base) (terms_of terms)
    action_of (Call to callee call) = call_of to (leaf_of callee) (slice_index_or p.calls call no_call)
    action_of (Return value) = actions.Return (origins_of value)
    action_of (Jump edge) = actions.Jump (edge_at edge)
    action_of (Branch condition then_edge else_edge) = actions.Branch (leaf_of condition) (edge_at then_edge) (edge_at else_edge)
    action_of (Switch value otherwise cases) = actions.Switch (leaf_of value) (edge_at otherwise) (cases_of cases)
    action_of Unreachable = actions.Unreachable
    action_of Passed = actions.Stuck

  -- ---- that what is pointed to is there

  -- a known leaf is among those
  abbrev pub IsLeafIn : LeafAt → Type 0
  IsLeafIn (Held place) = ⊤
  IsLeafIn (Known place) = place < length p.known

  -- the index of a term is there
  abbrev pub IsTermIn : Term → Type 0
  IsTermIn t = IsLeafIn t.index

  -- the moves of an edge are there
  pub record HasItsMoves (e : Edge) : Type 0 where
    pub ordered : e.first ≤ e.end
    pub stored : e.end ≤ length p.moves

  -- an edge is there, with its moves
  pub record IsEdgeIn (place : ℕ) : Type 0 where
    pub edge : Edge
    pub there : slice_get p.edges place ≡ Some edge
    pub moves : HasItsMoves edge

  -- cases are there, with the moves of their edges
  pub record AreCasesIn (s : Span) : Type 0 where
    pub there : IsSpanIn p.cases s
    pub moves : All (λ c. HasItsMoves c.edge) (spanned p.cases s)

  -- a call is there, with its types and arguments
  pub record IsCallIn (place : ℕ) : Type 0 where
    pub call : CallParts
    pub there : slice_get p.calls place ≡ Some call
    pub parameters : IsSpanIn p.types call.parameters
    pub shapes : IsSpanIn p.types call.shapes
    pub arguments : IsSpanIn p.origins call.arguments

  -- Terms are there, and the sum of those that are gathered. Neither the sum nor any one term is so far, nor are they so many, that 128
  -- bits could lack room for how far they reach together
  pub record AreSummed (terms : Span) (sum : ℕ) : Type 0 where
    pub total : ℤ
    pub total_there : slice_get p.sums sum ≡ Some total
    pub terms_there : IsSpanIn p.terms terms
    pub leaves : All IsTermIn (spanned p.terms terms)
    pub gathered : IsGathered (spanned p.terms terms) total
    pub near : nat_abs total ≤ 2 ^ 124
    pub few : terms.count ≤ TERMS
    pub sizes : All (λ t. t.size ≤ SIZE_LIMIT) (spanned p.terms terms)

  -- what an action points to is there
  abbrev pub IsWithin : Action → Type 0
  IsWithin (Compute to opcode flags width left right) = IsLeafIn left × IsLeafIn right
  IsWithin (Compare to predicate samesign width left right) = IsLeafIn left × IsLeafIn right
  IsWithin (Convert to opcode flags from_width to_width value) = IsLeafIn value
  IsWithin (Select to condition arms) = IsLeafIn condition × IsSpanIn p.arms arms
  IsWithin (Freeze to parts) = IsSpanIn p.parts parts
  IsWithin (Gather to value) = IsSpanIn p.origins value
  IsWithin (Load to align address slots) = IsLeafIn address × IsSpanIn p.slots slots
  IsWithin (Store align address slots value) = IsLeafIn address × IsSpanIn p.slots slots × IsSpanIn p.origins value
  IsWithin (Allocate to align size count) = IsLeafIn count
  IsWithin (Displace to inbounds base terms sum) = IsLeafIn base × AreSummed terms sum
  IsWithin (Call to callee call) = IsLeafIn callee × IsCallIn call
  IsWithin (Return value) = IsSpanIn p.origins value
  IsWithin (Jump edge) = IsEdgeIn edge
  IsWithin (Branch condition then_edge else_edge) = IsLeafIn condition × IsEdgeIn then_edge × IsEdgeIn else_edge
  IsWithin (Switch value otherwise cases) = IsLeafIn value × IsEdgeIn otherwise × AreCasesIn cases
  IsWithin Unreachable = ⊤
  IsWithin Passed = ⊤
