-- The ends of blocks.
use Rattle.std.proofs.Common.{◌≡◌, ℕ, ◌<◌, ◌^◌, List, [], ◌∷◌, map, sym, subst, true, ◌&&◌, nat_eq, is_some, true≢false}
use Rattle.std.specs.List.{AllByRecursion, list_all}
use Rattle.std.proofs.lemmas.Bool.{and_parts}
use Rattle.std.proofs.lemmas.List.Elements.{All-from_recursion, recursion_from_All}
use Rattle.ir_tables.specs.Table.{is_distinct}
use Rattle.type_table.specs.Tree.{Tree, int, void}
use Rattle.module_arena.specs.Constants.{written_number}
use Rattle.module_arena.specs.Module.{LocalName, Constant, Value, Case, Ending, Block, Function}
use Rattle.module_arena.specs.Operations.{case_operand}
use Rattle.module_arena.specs.Same.{same_type}
use Rattle.module_arena.specs.TypeTests.{is_integer, is_void}
use Rattle.module_arena.specs.ValueRules.{is_case_of, case_numbers}
use Rattle.module_arena.proofs.SameValues.{type_is}
use Rattle.run_rules.specs.Action.{Edge, Action}
use Rattle.run_rules.specs.Constant.{shape_of, width_of, one_leaf, constant_value}
use Rattle.run_rules.specs.Displace.{number_of}
use Rattle.run_rules.specs.Resolve.{case_in, ending_in}
use Rattle.run_rules.specs.Scope.{FunctionScope, value_in}
use Rattle.run_rules.specs.Places.Places.{LeadsOn, GoesOnFrom}
use Rattle.typed_runs.specs.Actions.{Typing, AreOrigins, IsEdge, IsTypedAction}
use Rattle.typed_runs.specs.Kinds.{kinds_of}
use Rattle.typed_runs.specs.Action.Asked.{HasLeaves, IsGoodOperand, IsAsked}
use Rattle.typed_runs.proofs.OnAction.Scalars.{width_leaf}
use Rattle.typed_runs.proofs.OnAction.Values.{condition_leaf}
use Rattle.typed_runs.specs.Edge.Asked.{IsAskedEnd}
use Rattle.typed_runs.specs.Edge.Laws.{EndsAreTyped}
use Rattle.typed_runs.proofs.OnEdge.Edges.{edge_typed}

module _ (t : Typing) (look : ℕ → ℕ → ℕ → Action) (n : ℕ) (sc : FunctionScope) where
  -- a number that is written is one of its type
  number_small : (w : ℕ) (c : Constant) → is_some (written_number c) ≡ true → HasLeaves t look n sc (int w) (Value.Known c) → number_of (one_leaf (constant_value sc.names (int w) c)) < 2 ^ w
  number_small w (Constant.Integer number) s h = h.0
  number_small w _ s h = absurd (true≢false (sym s))

  case_small : (ty : Tree) (c : Case) → is_integer ty ≡ true → is_case_of ty c ≡ true → HasLeaves t look n sc c.ty (Value.Known c.value) → number_of (one_leaf (constant_value sc.names c.ty c.value)) < 2 ^ width_of sc.names ty
  case_small (int w) c i h has =
      let q = and_parts (same_type c.ty (int w)) (is_some (written_number c.value)) h in
      let same : int w ≡ c.ty = sym (type_is c.ty (int w) q.0) in
      subst (λ ty. HasLeaves t look n sc ty (Value.Known c.value) → number_of (one_leaf (constant_value sc.names ty c.value)) < 2 ^ w) same (number_small w c.value q.1) has
  case_small _ c i h has = absurd (true≢false (sym i))

  module _ (blocks : AllByRecursion (λ (b : Block). AllByRecursion (IsAsked t look n sc) b.instructions) sc.blocks) (from : LocalName) where
    cases_small : (ty : Tree) (cs : List Case) → is_integer ty ≡ true → list_all (is_case_of ty) cs ≡ true → AllByRecursion (IsGoodOperand t look n sc) (map case_operand cs)
        → AllByRecursion (λ (x : ℕ × Edge). x.0 < 2 ^ width_of sc.names ty) (map (case_in sc from) cs)
    cases_small ty [] i h g = tt
    cases_small ty (c ∷ cs) i h g = let q = and_parts (is_case_of ty c) (list_all (is_case_of ty) cs) h in (case_small ty c i q.0 g.0.0, cases_small ty cs i q.1 g.1)

    cases_lead : (cs : List Case) → AllByRecursion (λ (x : ℕ × Edge). LeadsOn (look n) x.1) (map (case_in sc from) cs) → AllByRecursion (λ (x : ℕ × Edge). IsEdge t look n x.1) (map (case_in sc from) cs)
    cases_lead [] h = tt
    cases_lead (c ∷ cs) h = (edge_typed t look n sc from c.target blocks h.0, cases_lead cs h.1)

    nothing_returned : (ty : Tree) → is_void ty ≡ true → AreOrigins t look n (kinds_of (shape_of sc.names ty)) []
    nothing_returned void h = tt
    nothing_returned _ h = absurd (true≢false (sym h))

    module _ (f : Function) (gives : t.gives n ≡ kinds_of (shape_of sc.names f.returns)) (k p : ℕ) where
      ending_typed : (e : Ending) → IsAskedEnd t look n sc f e → GoesOnFrom (look n) k p (ending_in sc from e) → IsTypedAction t look n k p (ending_in sc from e)
      ending_typed Ending.ReturnVoid a on = subst (λ ks. AreOrigins t look n ks []) (sym gives) (nothing_returned f.returns a.suits)
      ending_typed (Ending.Return value) a on =
          subst (λ ks. AreOrigins t look n ks (value_in sc value.ty value.value)) (sym gives)
          (subst (λ ty. AreOrigins t look n (kinds_of (shape_of sc.names ty)) (value_in sc value.ty value.value)) (type_is value.ty f.returns a.suits) a.values.0.0)
      ending_typed (Ending.Jump target) a on = edge_typed t look n sc from target blocks on
      ending_typed (Ending.Branch condition then_to else_to) a on =
          (condition_leaf t look n sc condition.ty condition.value a.suits a.values.0.0, edge_typed t look n sc from then_to blocks on.0, edge_typed t look n sc from else_to blocks on.1)
      ending_typed (Ending.Switch value otherwise cases) a on =
          let q = and_parts (is_integer value.ty) (list_all (is_case_of value.ty) cases && is_distinct nat_eq (case_numbers cases)) a.suits in
          let r = and_parts (list_all (is_case_of value.ty) cases) (is_distinct nat_eq (case_numbers cases)) q.1 in
          let w = width_leaf t look n sc value.ty value.value q.0 a.values.0.1 a.values.0.0 in
          let leads = recursion_from_All (λ (x : ℕ × Edge). LeadsOn (look n) x.1) (map (case_in sc from) cases) on.1 in (
            (
              width_of sc.names value.ty,
              w.0,
              w.1,
              All-from_recursion (λ (x : ℕ × Edge). x.0 < 2 ^ width_of sc.names value.ty) (map (case_in sc from) cases) (cases_small value.ty cases q.0 r.0 a.values.1),
            ),
            edge_typed t look n sc from otherwise blocks on.0,
            All-from_recursion (λ (x : ℕ × Edge). IsEdge t look n x.1) (map (case_in sc from) cases) (cases_lead cases leads),
          )
      ending_typed Ending.Unreachable a on = tt

pub ends_are_typed : EndsAreTyped
ends_are_typed t look function sc f gives blocks from e asked block position on = ending_typed t look function sc blocks from f gives block position e asked on
