-- In a body that is laid out well each action goes on to an instruction.
use Rattle.std.proofs.Common.{◌≡◌, ℕ, suc, ◌+◌, List, [], ◌∷◌, length, map, refl, sym, ap, ◌∙◌, subst, arith, Bool, true, false, ◌&&◌, Option, Some, None, true≢false, eq-eqb, nat_eq, unwrap_or}
use Rattle.std.specs.Prelude.{slice_get, if◌then◌else◌}
use Rattle.std.specs.List.{All, list_all, list_any, position_or_len}
use Rattle.std.specs.Option.{option_map_or}
use Rattle.std.proofs.lemmas.Bool.{and_parts}
use Rattle.std.proofs.lemmas.List.Elements.{All-nil, All-cons}
use Rattle.std.proofs.lemmas.Option.{same_Some}
use Rattle.module_arena.specs.Module.{LocalName, Operation, Instruction, Case, Ending, Block}
use Rattle.module_arena.specs.Operations.{targets}
use Rattle.module_arena.specs.Same.{same_local}
use Rattle.run_rules.specs.Action.{Edge, Action}
use Rattle.run_rules.specs.Look.{look_in, action_at, ending_at}
use Rattle.run_rules.specs.NeverStuck.{is_stuck}
use Rattle.run_rules.specs.Resolve.{operation_in, instruction_in, is_phi, phis, edge_in, edge_into, case_in, ending_in}
use Rattle.run_rules.specs.Scope.{FunctionScope, place_in, block_in}
use Rattle.run_rules.specs.Places.Places.{IsThere, LeadsOn, GoesOnFrom}
use Rattle.run_rules.proofs.OnPlaces.Laid.{IsLaidOut, is_phi_instruction}
use Rattle.run_rules.proofs.OnPlaces.Options.{none_some}
use Rattle.run_rules.proofs.OnPlaces.Search.{IsFound, found_at, position_at, all_before, ends_at}

module _ (sc : FunctionScope) where
  -- only a phi is no action
  stuck_is_phi : (to : ℕ) (o : Operation) → is_stuck (operation_in sc to o) ≡ is_phi o
  stuck_is_phi to (Operation.BinaryOperation opcode flags left right) = refl
  stuck_is_phi to (Operation.Compare flags predicate left right) = refl
  stuck_is_phi to (Operation.Convert opcode flags value type) = refl
  stuck_is_phi to (Operation.Select condition first second) = refl
  stuck_is_phi to (Operation.Freeze value) = refl
  stuck_is_phi to (Operation.Phi ty incoming) = refl
  stuck_is_phi to (Operation.Load flags ty address alignment) = refl
  stuck_is_phi to (Operation.Store flags value address alignment) = refl
  stuck_is_phi to (Operation.Alloca ty count alignment) = refl
  stuck_is_phi to (Operation.GetElementPtr flags source base indices) = refl
  stuck_is_phi to (Operation.Call signature callee arguments) = refl
  stuck_is_phi to (Operation.ExtractValue aggregate indices) = refl
  stuck_is_phi to (Operation.InsertValue aggregate new indices) = refl

  ending_goes : (from : LocalName) (e : Ending) → is_stuck (ending_in sc from e) ≡ false
  ending_goes from Ending.ReturnVoid = refl
  ending_goes from (Ending.Return value) = refl
  ending_goes from (Ending.Jump target) = refl
  ending_goes from (Ending.Branch condition then_to else_to) = refl
  ending_goes from (Ending.Switch value otherwise cases) = refl
  ending_goes from Ending.Unreachable = refl

  same_number : (n : ℕ) → nat_eq n n ≡ true
  same_number n = eq-eqb n n refl

  -- a place of a block where no phi stands, and not behind the end
  stands : (b : Block) (q : ℕ) (o : Option Instruction) → ((i : Instruction) → o ≡ Some i → is_phi_instruction i ≡ false) → (o ≡ None → q ≡ length b.instructions)
      → is_stuck (option_map_or (instruction_in sc) o (ending_at sc b q)) ≡ false
  stands b q (Some i) phi end = stuck_is_phi (place_in sc i.result) i.operation ∙ phi i refl
  stands b q None phi end =
      subst (λ n. is_stuck (if nat_eq q n then ending_in sc b.name b.ending else Action.Stuck) ≡ false) (end refl)
      (subst (λ t. is_stuck (if t then ending_in sc b.name b.ending else Action.Stuck) ≡ false) (sym (same_number q)) (ending_goes b.name b.ending))

  there : (k : ℕ) (b : Block) (q : ℕ) → slice_get sc.blocks k ≡ Some b → is_stuck (action_at sc b q) ≡ false → IsThere (look_in sc) k q
  there k b q e h = subst (λ o. is_stuck (option_map_or (λ b. action_at sc b q) o Action.Stuck) ≡ false) (sym e) h

  -- behind the phis of a block
  no_phi : (is : List Instruction) (i : Instruction) → slice_get is (length (phis is)) ≡ Some i → is_phi_instruction i ≡ false
  no_phi [] i e = none_some i e
  no_phi (x ∷ is) i e = go (is_phi x.operation) refl e (λ k. no_phi is i k)
    where
      go : (b : Bool) → is_phi x.operation ≡ b → slice_get (x ∷ is) (length (if b then x ∷ phis is else [])) ≡ Some i → (slice_get is (length (phis is)) ≡ Some i → is_phi_instruction i ≡ false) → is_phi_instruction i ≡ false
      go true p k more = more k
      go false p k more = subst (λ (y : Instruction). is_phi_instruction y ≡ false) (same_Some x i k) p

  all_phis : (is : List Instruction) → slice_get is (length (phis is)) ≡ None → length (phis is) ≡ length is
  all_phis [] e = refl
  all_phis (x ∷ is) e = go (is_phi x.operation) e (λ k. all_phis is k)
    where
      go : (b : Bool) → slice_get (x ∷ is) (length (if b then x ∷ phis is else [])) ≡ None → (slice_get is (length (phis is)) ≡ None → length (phis is) ≡ length is) → length (if b then x ∷ phis is else []) ≡ suc (length is)
      go true k more = ap suc (more k)
      go false k more = none_some x (sym k)

  edge_leads : (from to : LocalName) → list_any (λ b. same_local b.name to) sc.blocks ≡ true → LeadsOn (look_in sc) (edge_in sc from to)
  edge_leads from to h =
      let r : IsFound (λ b. same_local b.name to) sc.blocks = found_at (λ b. same_local b.name to) sc.blocks h in
      let at : block_in sc to ≡ position_or_len (λ b. same_local b.name to) sc.blocks = ap (λ o. unwrap_or o 0) (position_at (λ b. same_local b.name to) sc.blocks r.within) in
      subst (λ o. LeadsOn (look_in sc) (edge_into sc from (block_in sc to) o)) (sym r.finds)
      (there (block_in sc to) r.one (length (phis r.one.instructions)) (ap (slice_get sc.blocks) at ∙ r.stands)
      (stands r.one (length (phis r.one.instructions)) (slice_get r.one.instructions (length (phis r.one.instructions))) (no_phi r.one.instructions) (all_phis r.one.instructions)))

  module _ (laid : IsLaidOut sc.blocks) where
    next_there : (k : ℕ) (b : Block) (p : ℕ) (i : Instruction) → slice_get sc.blocks k ≡ Some b → slice_get b.instructions p ≡ Some i → is_phi_instruction i ≡ false → IsThere (look_in sc) k (p + 1)
    next_there k b p i e g phi =
        subst (IsThere (look_in sc) k) one
        (there k b (suc p) e (stands b (suc p) (slice_get b.instructions (suc p)) (λ j s. not_phi j s (is_phi_instruction j) refl) (ends_at b.instructions p i g)))
      where
        one : suc p ≡ p + 1
        one = omega arith

        not_phi : (j : Instruction) → slice_get b.instructions (suc p) ≡ Some j → (t : Bool) → is_phi_instruction j ≡ t → is_phi_instruction j ≡ false
        not_phi j s false q = q
        not_phi j s true q = absurd (true≢false (sym (all_before is_phi_instruction b.instructions p i (laid.phis_first k b (suc p) j e s q) g) ∙ phi))

    -- where an instruction goes on
    operation_goes_on : (k p to : ℕ) (o : Operation) → is_phi o ≡ false → IsThere (look_in sc) k (p + 1) → GoesOnFrom (look_in sc) k p (operation_in sc to o)
    operation_goes_on k p to (Operation.BinaryOperation opcode flags left right) e h = h
    operation_goes_on k p to (Operation.Compare flags predicate left right) e h = h
    operation_goes_on k p to (Operation.Convert opcode flags value type) e h = h
    operation_goes_on k p to (Operation.Select condition first second) e h = h
    operation_goes_on k p to (Operation.Freeze value) e h = h
    operation_goes_on k p to (Operation.Phi ty incoming) e h = absurd (true≢false e)
    operation_goes_on k p to (Operation.Load flags ty address alignment) e h = h
    operation_goes_on k p to (Operation.Store flags value address alignment) e h = h
    operation_goes_on k p to (Operation.Alloca ty count alignment) e h = h
    operation_goes_on k p to (Operation.GetElementPtr flags source base indices) e h = h
    operation_goes_on k p to (Operation.Call signature callee arguments) e h = h
    operation_goes_on k p to (Operation.ExtractValue aggregate indices) e h = h
    operation_goes_on k p to (Operation.InsertValue aggregate new indices) e h = h

    abbrev is_block : LocalName → Bool
    is_block name = list_any (λ c. same_local c.name name) sc.blocks

    cases_lead : (from : LocalName) (cs : List Case) → list_all is_block (map (λ (c : Case). c.target) cs) ≡ true → All (λ x. LeadsOn (look_in sc) x.1) (map (case_in sc from) cs)
    cases_lead from [] h = All-nil (λ (x : ℕ × Edge). LeadsOn (look_in sc) x.1)
    cases_lead from (c ∷ cs) h =
        let q = and_parts (is_block c.target) (list_all is_block (map (λ (c : Case). c.target) cs)) h in
        All-cons (λ (x : ℕ × Edge). LeadsOn (look_in sc) x.1) (case_in sc from c) (map (case_in sc from) cs) (edge_leads from c.target q.0) (cases_lead from cs q.1)

    ending_goes_on : (k p : ℕ) (from : LocalName) (e : Ending) → list_all is_block (targets e) ≡ true → GoesOnFrom (look_in sc) k p (ending_in sc from e)
    ending_goes_on k p from Ending.ReturnVoid h = tt
    ending_goes_on k p from (Ending.Return value) h = tt
    ending_goes_on k p from (Ending.Jump target) h = edge_leads from target (and_parts (is_block target) true h).0
    ending_goes_on k p from (Ending.Branch condition then_to else_to) h =
        let q = and_parts (is_block then_to) (is_block else_to && true) h in
        (edge_leads from then_to q.0, edge_leads from else_to (and_parts (is_block else_to) true q.1).0)
    ending_goes_on k p from (Ending.Switch value otherwise cases) h =
        let q = and_parts (is_block otherwise) (list_all is_block (map (λ (c : Case). c.target) cases)) h in
        (edge_leads from otherwise q.0, cases_lead from cases q.1)
    ending_goes_on k p from Ending.Unreachable h = tt

    -- of each action
    pub body_connected : (k p : ℕ) → IsThere (look_in sc) k p → GoesOnFrom (look_in sc) k p (look_in sc k p)
    body_connected k p = block (slice_get sc.blocks k) refl
      where
        end : (b : Block) → slice_get sc.blocks k ≡ Some b → (t : Bool) → is_stuck (if t then ending_in sc b.name b.ending else Action.Stuck) ≡ false → GoesOnFrom (look_in sc) k p (if t then ending_in sc b.name b.ending else Action.Stuck)
        end b e true h = ending_goes_on k p b.name b.ending (laid.leads k b e)
        end b e false h = absurd (true≢false h)

        instruction : (b : Block) → slice_get sc.blocks k ≡ Some b → (o : Option Instruction) → slice_get b.instructions p ≡ o → is_stuck (option_map_or (instruction_in sc) o (ending_at sc b p)) ≡ false
            → GoesOnFrom (look_in sc) k p (option_map_or (instruction_in sc) o (ending_at sc b p))
        instruction b e (Some i) g h =
            let phi : is_phi_instruction i ≡ false = sym (stuck_is_phi (place_in sc i.result) i.operation) ∙ h in
            operation_goes_on k p (place_in sc i.result) i.operation phi (next_there k b p i e g phi)
        instruction b e None g h = end b e (nat_eq p (length b.instructions)) h

        block : (o : Option Block) → slice_get sc.blocks k ≡ o → is_stuck (option_map_or (λ b. action_at sc b p) o Action.Stuck) ≡ false → GoesOnFrom (look_in sc) k p (option_map_or (λ b. action_at sc b p) o Action.Stuck)
        block (Some b) e h = instruction b e (slice_get b.instructions p) refl h
        block None e h = absurd (true≢false h)

    -- and of the first instruction
    pub body_begins : IsThere (look_in sc) 0 0
    body_begins =
        let b = laid.first.0 in
        there 0 b 0 laid.first.1 (stands b 0 (slice_get b.instructions 0) laid.first.2 (none b.instructions))
      where
        none : (is : List Instruction) → slice_get is 0 ≡ None → 0 ≡ length is
        none [] e = refl
        none (i ∷ is) e = none_some i (sym e)
