-- A body under other names of globals and structs comes to the same actions at each of its places.
use Rattle.std.specs.Prelude.{◌≡◌, ℕ, suc, ◌+◌, Bool, true, false, List, [], ◌∷◌, ◌++◌, map, flat_map, find, position, length, nat_lt, not, Option, Some, None, cond, unwrap_or, refl, ⊤}
use Rattle.std.proofs.Common.{ap, ◌∙◌}
use Rattle.std.specs.List.{position_or_len}
use Rattle.std.specs.Option.{option_map_or}
use Rattle.module_arena.specs.Module.{Bytes, LocalName, Incoming, Operation, Instruction, Case, Ending, Block}
use Rattle.module_arena.specs.Module.Operation.{BinaryOperation, Compare, Convert, Select, Freeze, Phi, Load, Store, Alloca, GetElementPtr, Call, ExtractValue, InsertValue}
use Rattle.module_arena.specs.Module.Ending.{ReturnVoid, Return, Jump, Branch, Switch, Unreachable}
use Rattle.module_arena.specs.Renamed.{renamed_tree, renamed_value, renamed_incoming, renamed_operation, renamed_instruction, renamed_case, renamed_ending, renamed_block}
use Rattle.module_arena.specs.Same.{same_local}
use Rattle.type_table.specs.Tree.{Tree}
use Rattle.run_rules.specs.Action.{Move, Action}
use Rattle.run_rules.specs.Constant.{Names, one_leaf}
use Rattle.run_rules.specs.Displace.{number_of}
use Rattle.run_rules.specs.Resolve.{incoming_from, moves_to, phi_moves, is_phi, phis, edge_into, edge_in, case_in, ending_in}
use Rattle.run_rules.specs.Scope.{FunctionScope, Placed, place_in, block_in, value_in, one_origin}
use Rattle.run_rules.proofs.OnLaws.SameConstants.{Agree, ConstantIn, same_constant}
use Rattle.run_rules.proofs.OnLaws.SameOperations.{OperandIn, OperationIn, IncomingIn, scope_with, same_value, same_operand}

module _ (T : Tree → Type 0) (G : Bytes → Type 0) where
  abbrev pub InstructionsIn : List Instruction → Type 0
  InstructionsIn [] = ⊤
  InstructionsIn (x ∷ xs) = OperationIn T G x.operation × InstructionsIn xs

  abbrev pub CasesIn : List Case → Type 0
  CasesIn [] = ⊤
  CasesIn (x ∷ xs) = ConstantIn T G x.ty x.value × CasesIn xs

  abbrev pub EndingIn : Ending → Type 0
  EndingIn ReturnVoid = ⊤
  EndingIn (Return value) = OperandIn T G value
  EndingIn (Jump target) = ⊤
  EndingIn (Branch condition then_to else_to) = OperandIn T G condition
  EndingIn (Switch value otherwise cases) = OperandIn T G value × CasesIn cases
  EndingIn Unreachable = ⊤

  abbrev pub BlockIn : Block → Type 0
  BlockIn b = InstructionsIn b.instructions × EndingIn b.ending

  abbrev pub BlocksIn : List Block → Type 0
  BlocksIn [] = ⊤
  BlocksIn (b ∷ bs) = BlockIn b × BlocksIn bs

module _ (structs globals : Bytes → Bytes) where
  same_is_phi : (o : Operation) → is_phi (renamed_operation structs globals o) ≡ is_phi o
  same_is_phi (BinaryOperation opcode flags left right) = refl
  same_is_phi (Compare flags predicate left right) = refl
  same_is_phi (Convert opcode flags value to) = refl
  same_is_phi (Select condition first second) = refl
  same_is_phi (Freeze value) = refl
  same_is_phi (Phi ty incoming) = refl
  same_is_phi (Load flags ty address alignment) = refl
  same_is_phi (Store flags value address alignment) = refl
  same_is_phi (Alloca ty count alignment) = refl
  same_is_phi (GetElementPtr flags source base indices) = refl
  same_is_phi (Call signature callee arguments) = refl
  same_is_phi (ExtractValue aggregate indices) = refl
  same_is_phi (InsertValue aggregate new indices) = refl

  same_phi_count : (xs : List Instruction) → length (phis (map (renamed_instruction structs globals) xs)) ≡ length (phis xs)
  same_phi_count [] = refl
  same_phi_count (x ∷ xs) = (λ i. length (cond (same_is_phi x.operation i) (renamed_instruction structs globals x ∷ phis (map (renamed_instruction structs globals) xs)) [])) ∙ go (is_phi x.operation) (same_phi_count xs)
    where
      go : (b : Bool) → length (phis (map (renamed_instruction structs globals) xs)) ≡ length (phis xs)
          → length (cond b (renamed_instruction structs globals x ∷ phis (map (renamed_instruction structs globals) xs)) []) ≡ length (cond b (x ∷ phis xs) [])
      go true h = ap suc h
      go false h = refl

  same_length : (bs : List Block) → length (map (renamed_block structs globals) bs) ≡ length bs
  same_length [] = refl
  same_length (b ∷ bs) = ap suc (same_length bs)

  same_prefix : (target : LocalName) (bs : List Block) → position_or_len (λ (b : Block). same_local b.name target) (map (renamed_block structs globals) bs) ≡ position_or_len (λ (b : Block). same_local b.name target) bs
  same_prefix target [] = refl
  same_prefix target (b ∷ bs) = λ i. cond (not (same_local b.name target)) (1 + same_prefix target bs i) 0

  same_number : (target : LocalName) (bs : List Block) → position (λ (b : Block). same_local b.name target) (map (renamed_block structs globals) bs) ≡ position (λ (b : Block). same_local b.name target) bs
  same_number target bs = λ i. cond (nat_lt (same_prefix target bs i) (same_length bs i)) (Some (same_prefix target bs i)) None

module _ (old new : Names) (structs globals : Bytes → Bytes) (T : Tree → Type 0) (G : Bytes → Type 0) (agree : Agree old new structs globals T G) (locals : List Placed) (blocks : List Block) where
  abbrev before : FunctionScope
  before = scope_with old locals blocks

  abbrev after : FunctionScope
  after = scope_with new locals (map (renamed_block structs globals) blocks)

  same_incoming : (from : LocalName) (ty : Tree) (xs : List Incoming) → IncomingIn T G ty xs → incoming_from after from (renamed_tree structs ty) (map (renamed_incoming structs globals) xs) ≡ incoming_from before from ty xs
  same_incoming from ty [] h = refl
  same_incoming from ty (x ∷ xs) h = go (same_local x.block from) (same_value old new structs globals T G agree locals blocks ty x.value h.0) (same_incoming from ty xs h.1)
    where
      go : (b : Bool) → value_in after (renamed_tree structs ty) (renamed_value structs globals x.value) ≡ value_in before ty x.value
          → incoming_from after from (renamed_tree structs ty) (map (renamed_incoming structs globals) xs) ≡ incoming_from before from ty xs
          → option_map_or (λ (y : Incoming). value_in after (renamed_tree structs ty) y.value) (cond b (Some (renamed_incoming structs globals x)) (find (λ (y : Incoming). same_local y.block from) (map (renamed_incoming structs globals) xs))) []
          ≡ option_map_or (λ (y : Incoming). value_in before ty y.value) (cond b (Some x) (find (λ (y : Incoming). same_local y.block from) xs)) []
      go true v r = v
      go false v r = r

  same_phi_moves : (from : LocalName) (result : Option LocalName) (o : Operation) → OperationIn T G o → phi_moves after from result (renamed_operation structs globals o) ≡ phi_moves before from result o
  same_phi_moves from result (BinaryOperation opcode flags left right) h = refl
  same_phi_moves from result (Compare flags predicate left right) h = refl
  same_phi_moves from result (Convert opcode flags value to) h = refl
  same_phi_moves from result (Select condition first second) h = refl
  same_phi_moves from result (Freeze value) h = refl
  same_phi_moves from result (Phi ty incoming) h = ap (moves_to (place_in before result)) (same_incoming from ty incoming h.1)
  same_phi_moves from result (Load flags ty address alignment) h = refl
  same_phi_moves from result (Store flags value address alignment) h = refl
  same_phi_moves from result (Alloca ty count alignment) h = refl
  same_phi_moves from result (GetElementPtr flags source base indices) h = refl
  same_phi_moves from result (Call signature callee arguments) h = refl
  same_phi_moves from result (ExtractValue aggregate indices) h = refl
  same_phi_moves from result (InsertValue aggregate inserted indices) h = refl

  abbrev moves_in : FunctionScope → LocalName → List Instruction → List Move
  moves_in sc from xs = flat_map (λ (x : Instruction). phi_moves sc from x.result x.operation) xs

  same_moves : (from : LocalName) (xs : List Instruction) → InstructionsIn T G xs → moves_in after from (phis (map (renamed_instruction structs globals) xs)) ≡ moves_in before from (phis xs)
  same_moves from [] h = refl
  same_moves from (x ∷ xs) h =
      (λ i. moves_in after from (cond (same_is_phi structs globals x.operation i) (renamed_instruction structs globals x ∷ phis (map (renamed_instruction structs globals) xs)) []))
      ∙ go (is_phi x.operation) (same_phi_moves from x.result x.operation h.0) (same_moves from xs h.1)
    where
      go : (b : Bool) → phi_moves after from x.result (renamed_operation structs globals x.operation) ≡ phi_moves before from x.result x.operation
          → moves_in after from (phis (map (renamed_instruction structs globals) xs)) ≡ moves_in before from (phis xs)
          → moves_in after from (cond b (renamed_instruction structs globals x ∷ phis (map (renamed_instruction structs globals) xs)) []) ≡ moves_in before from (cond b (x ∷ phis xs) [])
      go true m r = λ i. m i ++ r i
      go false m r = refl

  same_edge_into : (from to : LocalName) (number : ℕ) (bs : List Block) → BlocksIn T G bs
      → edge_into after from number (find (λ (b : Block). same_local b.name to) (map (renamed_block structs globals) bs)) ≡ edge_into before from number (find (λ (b : Block). same_local b.name to) bs)
  same_edge_into from to number [] h = refl
  same_edge_into from to number (b ∷ bs) h =
      go (same_local b.name to) (same_phi_count structs globals b.instructions) (same_moves from b.instructions h.0.0) (same_edge_into from to number bs h.1)
    where
      go : (c : Bool) → length (phis (map (renamed_instruction structs globals) b.instructions)) ≡ length (phis b.instructions)
          → moves_in after from (phis (map (renamed_instruction structs globals) b.instructions)) ≡ moves_in before from (phis b.instructions)
          → edge_into after from number (find (λ (x : Block). same_local x.name to) (map (renamed_block structs globals) bs)) ≡ edge_into before from number (find (λ (x : Block). same_local x.name to) bs)
          → edge_into after from number (cond c (Some (renamed_block structs globals b)) (find (λ (x : Block). same_local x.name to) (map (renamed_block structs globals) bs)))
          ≡ edge_into before from number (cond c (Some b) (find (λ (x : Block). same_local x.name to) bs))
      go true p m r = λ i. record { block = number; position = p i; moves = m i }
      go false p m r = r

  pub same_edge : (from to : LocalName) → BlocksIn T G blocks → edge_in after from to ≡ edge_in before from to
  same_edge from to h =
      (λ i. edge_into after from (unwrap_or (same_number structs globals to blocks i) 0) (find (λ (b : Block). same_local b.name to) (map (renamed_block structs globals) blocks)))
      ∙ same_edge_into from to (block_in before to) blocks h

  same_cases : (from : LocalName) (xs : List Case) → BlocksIn T G blocks → CasesIn T G xs → map (case_in after from) (map (renamed_case structs globals) xs) ≡ map (case_in before from) xs
  same_cases from [] b h = refl
  same_cases from (x ∷ xs) b h =
      λ i. (number_of (one_leaf (same_constant old new structs globals T G agree x.ty x.value h.0 i)), same_edge from x.target b i) ∷ same_cases from xs b h.1 i

  -- the same action at the end of a block
  pub same_ending : (from : LocalName) (e : Ending) → BlocksIn T G blocks → EndingIn T G e → ending_in after from (renamed_ending structs globals e) ≡ ending_in before from e
  same_ending from ReturnVoid b h = refl
  same_ending from (Return value) b h = ap Action.Return (same_operand old new structs globals T G agree locals blocks value h)
  same_ending from (Jump target) b h = ap Action.Jump (same_edge from target b)
  same_ending from (Branch condition then_to else_to) b h =
      λ i. Action.Branch (one_origin (same_operand old new structs globals T G agree locals blocks condition h i)) (same_edge from then_to b i) (same_edge from else_to b i)
  same_ending from (Switch value otherwise cases) b h =
      λ i. Action.Switch (one_origin (same_operand old new structs globals T G agree locals blocks value h.0 i)) (same_edge from otherwise b i) (same_cases from cases b h.1 i)
  same_ending from Unreachable b h = refl
