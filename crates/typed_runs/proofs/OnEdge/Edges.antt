-- On an edge each phi gets leaves of its kind.
use Rattle.std.proofs.Common.{ℕ, ◌+◌, List, [], ◌∷◌, map, flat_map, Bool, true, false, cond, Option, Some}
use Rattle.std.specs.Prelude.{find, if◌then◌else◌}
use Rattle.std.specs.List.{AllByRecursion}
use Rattle.std.specs.Option.{option_map_or}
use Rattle.std.proofs.lemmas.List.Elements.{All-from_recursion}
use Rattle.ir_memory.specs.declared.leaf.Leaf.{Leaf}
use Rattle.type_table.specs.Tree.{Tree}
use Rattle.module_arena.specs.Module.{LocalName, Incoming, Operation, Instruction, Block}
use Rattle.module_arena.specs.Operations.{incoming_operand}
use Rattle.module_arena.specs.Same.{same_local}
use Rattle.run_rules.specs.Action.{Origin, Action}
use Rattle.run_rules.specs.Constant.{shape_of}
use Rattle.run_rules.specs.Resolve.{moves_to, phi_moves, is_phi, phis, edge_into, edge_in}
use Rattle.run_rules.specs.Scope.{FunctionScope, place_in, value_in, block_in}
use Rattle.run_rules.proofs.OnPlaces.Together.{all_append}
use Rattle.run_rules.specs.Places.Places.{LeadsOn}
use Rattle.typed_runs.specs.Actions.{Typing, AreOrigins, IsResult, IsMove, IsEdge}
use Rattle.typed_runs.specs.Kinds.{kinds_of}
use Rattle.typed_runs.specs.Action.Asked.{IsGoodOperand, IsAsked}

module _ (t : Typing) (look : ℕ → ℕ → ℕ → Action) (n : ℕ) where
  moves_typed : (ks : List Leaf) (xs : List Origin) (to : ℕ) → IsResult t look n to ks → AreOrigins t look n ks xs → AllByRecursion (IsMove t look n) (moves_to to xs)
  moves_typed [] [] to at h = tt
  moves_typed [] (x ∷ xs) to at h = absurd h
  moves_typed (k ∷ ks) [] to at h = absurd h
  moves_typed (k ∷ ks) (x ∷ xs) to at h = ((k, at.0, h.0), moves_typed ks xs (to + 1) at.1 h.1)

  module _ (sc : FunctionScope) (from : LocalName) where
    -- the entry for the block that is left
    entry_typed : (ty : Tree) (to : ℕ) (incoming : List Incoming) → IsResult t look n to (kinds_of (shape_of sc.names ty)) → AllByRecursion (IsGoodOperand t look n sc) (map (incoming_operand ty) incoming)
        → AllByRecursion (IsMove t look n) (moves_to to (option_map_or (λ x. value_in sc ty x.value) (find (λ x. same_local x.block from) incoming) []))
    entry_typed ty to [] at h = tt
    entry_typed ty to (x ∷ incoming) at h = go (same_local x.block from) (entry_typed ty to incoming at h.1)
      where
        go : (b : Bool) → AllByRecursion (IsMove t look n) (moves_to to (option_map_or (λ (x : Incoming). value_in sc ty x.value) (find (λ (x : Incoming). same_local x.block from) incoming) []))
            → AllByRecursion (IsMove t look n) (moves_to to (option_map_or (λ (x : Incoming). value_in sc ty x.value) (cond b (Some x) (find (λ (x : Incoming). same_local x.block from) incoming)) []))
        go true more = moves_typed (kinds_of (shape_of sc.names ty)) (value_in sc ty x.value) to at h.0.0
        go false more = more

    phi_typed : (r : Option LocalName) (o : Operation) → IsAsked t look n sc (record { result = r; operation = o }) → AllByRecursion (IsMove t look n) (phi_moves sc from r o)
    phi_typed r (Operation.Phi ty incoming) a = entry_typed ty (place_in sc r) incoming a.placed a.values
    phi_typed r _ a = tt

    phis_typed : (is : List Instruction) → AllByRecursion (IsAsked t look n sc) is → AllByRecursion (IsMove t look n) (flat_map (λ i. phi_moves sc from i.result i.operation) (phis is))
    phis_typed [] h = tt
    phis_typed (i ∷ is) h = go (is_phi i.operation) (phis_typed is h.1)
      where
        go : (b : Bool) → AllByRecursion (IsMove t look n) (flat_map (λ (i : Instruction). phi_moves sc from i.result i.operation) (phis is))
            → AllByRecursion (IsMove t look n) (flat_map (λ (i : Instruction). phi_moves sc from i.result i.operation) (if b then i ∷ phis is else []))
        go true more =
            all_append (IsMove t look n) (phi_moves sc from i.result i.operation) (flat_map (λ (i : Instruction). phi_moves sc from i.result i.operation) (phis is))
            (phi_typed i.result i.operation h.0) more
        go false more = tt

    into_typed : (to : LocalName) (number : ℕ) (bs : List Block) → AllByRecursion (λ (b : Block). AllByRecursion (IsAsked t look n sc) b.instructions) bs
        → AllByRecursion (IsMove t look n) (edge_into sc from number (find (λ b. same_local b.name to) bs)).moves
    into_typed to number [] h = tt
    into_typed to number (b ∷ bs) h = go (same_local b.name to) (into_typed to number bs h.1)
      where
        go : (c : Bool) → AllByRecursion (IsMove t look n) (edge_into sc from number (find (λ (b : Block). same_local b.name to) bs)).moves
            → AllByRecursion (IsMove t look n) (edge_into sc from number (cond c (Some b) (find (λ (b : Block). same_local b.name to) bs))).moves
        go true more = phis_typed b.instructions h.0
        go false more = more

    pub edge_typed : (to : LocalName) → AllByRecursion (λ (b : Block). AllByRecursion (IsAsked t look n sc) b.instructions) sc.blocks → LeadsOn (look n) (edge_in sc from to) → IsEdge t look n (edge_in sc from to)
    edge_typed to h leads = (leads, All-from_recursion (IsMove t look n) (edge_in sc from to).moves (into_typed to (block_in sc to) sc.blocks h))
