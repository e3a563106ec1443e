-- Ways that are typed may be gone.
use Rattle.std.proofs.Common.{◌≡◌, ℕ, ◌-◌, ◌≤◌, All, List, get_or, length, map, drop, sym, ap, ◌∙◌, subst, arith, Some}
use Rattle.std.specs.Prelude.{slice_get}
use Rattle.std.proofs.lemmas.List.{get_or-map, length-map, length-take}
use Rattle.std.proofs.lemmas.List.Elements.{All-drop, All-take, All-weaker}
use Rattle.std.proofs.lemmas.Option.{get_or_from_slice_get, slice_get_within, same_Some}
use Rattle.ir_memory.specs.declared.leaf.Leaf.TheVariants as leaf
use Rattle.module_arena.specs.Lists.{Lists}
use Rattle.run_rules.specs.Action as actions
use Rattle.run_actions.specs.declared.stack.origin.Move.{Move}
use Rattle.run_actions.specs.declared.stack.origin.Origin.{Origin}
use Rattle.run_actions.specs.Stack.Origins.{IsMoveIn, move_of, origin_of}
use Rattle.run_actions.specs.Stack.UnderWay.{UnderWay, IsRunning, newest}
use Rattle.run_actions.specs.declared.edge.SwitchWay.{SwitchWay}
use Rattle.run_actions.specs.declared.edge.Edge.{Edge}
use Rattle.run_actions.specs.Edges.{case_way, IsWay, moves_in, way_of}
use Rattle.run_actions.specs.Operands.{IsThere}
use Rattle.run_decode.specs.declared.flat.action.Action.{Action}
use Rattle.run_decode.specs.declared.flat.action.Action.TheVariants.{Jump, Branch, Switch}
use Rattle.run_decode.specs.declared.flat.leaf.LeafAt.{LeafAt}
use Rattle.run_decode.specs.declared.flat.leaf.Span.{Span}
use Rattle.run_decode.specs.declared.flat.pools.Pools.{Pools}
use Rattle.run_decode.specs.Flat.Flat.{action_of, AreCasesIn, cases_of, edge_at, HasItsMoves, IsEdgeIn, leaf_of}
use Rattle.run_decode.specs.Flat.Spans.{spanned}
use Rattle.typed_runs.specs.Actions.{IsEdge, IsMove}
use Rattle.run_acts.specs.Classes.May.{MayAct}
use Rattle.run_acts.proofs.OnClasses.Placed.{had, origin_there, place_there}

-- what holds of each image holds of each item
pub All-unmap : {X Y : Type 0} (P : Y → Type 0) (f : X → Y) (xs : List X) → All P (map f xs) → All (λ x. P (f x)) xs
All-unmap P f xs h = λ k d lt. let n = length-map xs f in subst P (get_or-map f xs k d (f d) lt) (h k (f d) (omega (arith, n, lt)))

module _ (count : ℕ) (p : Pools) (action : Action) (s : UnderWay) (may : MayAct count p action s) where
  -- an edge of its function
  abbrev pub IsMeantEdge : actions.Edge → Type 0
  IsMeantEdge = IsEdge may.typing may.look (newest s.frames).function

  move_there : (m : Move) → IsMove may.typing may.look (newest s.frames).function (move_of m) → IsMoveIn (length (newest s.frames).leaves) m
  move_there m h = (place_there count p action s may m.to h.0 (h.1, tt), origin_there count p action s may h.0 m.from h.2)

  way_may : (e : Edge) → HasItsMoves p e → e.end - e.first ≤ s.widest → IsMeantEdge (way_of p.moves e) → IsWay s p.moves e
  way_may e has narrow is =
      let IsMeantMove : Move → Type 0 = λ m. IsMove may.typing may.look (newest s.frames).function (move_of m) in
      let n = length-take (e.end - e.first) (drop e.first p.moves) in
      record {
        ordered = has.ordered;
        stored = has.stored;
        within =
            All-weaker IsMeantMove (IsMoveIn (length (newest s.frames).leaves)) move_there (moves_in p.moves e)
            (All-unmap (IsMove may.typing may.look (newest s.frames).function) move_of (moves_in p.moves e) is.1);
        room = omega (arith, n, narrow);
      }

  -- an edge
  pub edge_may : (place : ℕ) (e : Edge) → IsEdgeIn p place → slice_get p.edges place ≡ Some e → way_of p.moves e ≡ edge_at p place → IsMeantEdge (edge_at p place) → IsWay s p.moves e
  edge_may place e has there means is =
      let same : has.edge ≡ e = same_Some has.edge e (sym has.there ∙ there) in
      let at : get_or p.edges place e ≡ e = get_or_from_slice_get p.edges place e e there in
      way_may e (subst (HasItsMoves p) same has.moves) (subst (λ (x : Edge). x.end - x.first ≤ s.widest) at (may.narrow.edges place e (slice_get_within p.edges place e there)))
      (subst IsMeantEdge (sym means) is)

  -- cases
  pub cases_may : (cases : Span) → AreCasesIn p cases → All (λ (x : ℕ × actions.Edge). IsMeantEdge x.1) (cases_of p cases) → All (λ (c : SwitchWay). IsWay s p.moves c.edge) (spanned p.cases cases)
  cases_may cases has is =
      let IsNarrow : SwitchWay → Type 0 = λ c. c.edge.end - c.edge.first ≤ s.widest in
      let narrow = All-take IsNarrow cases.count (drop cases.first p.cases) (All-drop IsNarrow cases.first p.cases may.narrow.cases) in
      let typed = All-unmap (λ (x : ℕ × actions.Edge). IsMeantEdge x.1) (case_way p.moves) (spanned p.cases cases) is in
      λ k d lt. way_may (get_or (spanned p.cases cases) k d).edge (has.moves k d lt) (narrow k d lt) (typed k d lt)

-- ---- each of them

module _ (count : ℕ) (p : Pools) (s : UnderWay) where
  pub jumps_well : (edge : ℕ) (e : Edge) → slice_get p.edges edge ≡ Some e → way_of p.moves e ≡ edge_at p edge → MayAct count p (Jump edge) s → IsWay s p.moves e
  jumps_well edge e there means may = edge_may count p (Jump edge) s may edge e may.within there means may.typed

  -- one of two ways
  pub record IsBranching (condition : Origin) (first second : Edge) : Type 0 where
    pub running : IsRunning s.frames
    pub there : IsThere s condition
    pub first_way : IsWay s p.moves first
    pub second_way : IsWay s p.moves second

  pub branches_well : (condition : LeafAt) (then_edge else_edge : ℕ) (chooses : Origin) (first second : Edge) → origin_of chooses ≡ leaf_of p condition → slice_get p.edges then_edge ≡ Some first → way_of p.moves first ≡ edge_at p then_edge
      → slice_get p.edges else_edge ≡ Some second → way_of p.moves second ≡ edge_at p else_edge → MayAct count p (Branch condition then_edge else_edge) s → IsBranching chooses first second
  branches_well condition then_edge else_edge chooses first second is one one_means two two_means may =
      let action = Branch condition then_edge else_edge in
      record {
        running = may.running;
        there = (had count p action s may (leaf.Int 1) chooses (leaf_of p condition) is may.typed.0).there;
        first_way = edge_may count p action s may then_edge first may.within.1 one one_means may.typed.1;
        second_way = edge_may count p action s may else_edge second may.within.2 two two_means may.typed.2;
      }

  -- one of many
  pub record IsSwitching (number : Origin) (other : Edge) (cases : Span) : Type 0 where
    pub running : IsRunning s.frames
    pub there : IsThere s number
    pub other_way : IsWay s p.moves other
    pub case_ways : All (λ (c : SwitchWay). IsWay s p.moves c.edge) (spanned p.cases cases)

  pub switches_well : (value : LeafAt) (otherwise : ℕ) (cases : Span) (number : Origin) (other : Edge) → origin_of number ≡ leaf_of p value → slice_get p.edges otherwise ≡ Some other → way_of p.moves other ≡ edge_at p otherwise
      → MayAct count p (Switch value otherwise cases) s → IsSwitching number other cases
  switches_well value otherwise cases number other is one one_means may =
      let action = Switch value otherwise cases in
      record {
        running = may.running;
        there = (had count p action s may (leaf.Int may.typed.0.0) number (leaf_of p value) is may.typed.0.2).there;
        other_way = edge_may count p action s may otherwise other may.within.1 one one_means may.typed.1;
        case_ways = cases_may count p action s may cases may.within.2 may.typed.2;
      }

-- ---- what was carried out is what was meant

module _ (p : Pools) (a : Lists) (action : Action) where
  pub jumped_so : (edge : ℕ) (moves : List Move) (e : Edge) → action ≡ Jump edge → moves ≡ p.moves → way_of p.moves e ≡ edge_at p edge → actions.Jump (way_of moves e) ≡ action_of p a action
  jumped_so edge moves e is all means = (λ i. actions.Jump (way_of (all i) e)) ∙ ap actions.Jump means ∙ ap (action_of p a) (sym is)

  pub branched_so : (condition : LeafAt) (then_edge else_edge : ℕ) (moves : List Move) (chooses : Origin) (first second : Edge) → action ≡ Branch condition then_edge else_edge → moves ≡ p.moves → origin_of chooses ≡ leaf_of p condition
      → way_of p.moves first ≡ edge_at p then_edge → way_of p.moves second ≡ edge_at p else_edge → actions.Branch (origin_of chooses) (way_of moves first) (way_of moves second) ≡ action_of p a action
  branched_so condition then_edge else_edge moves chooses first second is all one first_means second_means =
      (λ i. actions.Branch (one i) (way_of (all i) first) (way_of (all i) second)) ∙ (λ i. actions.Branch (leaf_of p condition) (first_means i) (second_means i)) ∙ ap (action_of p a) (sym is)

  pub switched_so : (value : LeafAt) (otherwise : ℕ) (cases : Span) (moves : List Move) (number : Origin) (other : Edge) (listed : List SwitchWay) → action ≡ Switch value otherwise cases → moves ≡ p.moves → origin_of number ≡ leaf_of p value
      → way_of p.moves other ≡ edge_at p otherwise → listed ≡ spanned p.cases cases → actions.Switch (origin_of number) (way_of moves other) (map (case_way moves) listed) ≡ action_of p a action
  switched_so value otherwise cases moves number other listed is all one means here =
      (λ i. actions.Switch (one i) (way_of (all i) other) (map (case_way (all i)) (here i))) ∙ (λ i. actions.Switch (leaf_of p value) (means i) (cases_of p cases)) ∙ ap (action_of p a) (sym is)
