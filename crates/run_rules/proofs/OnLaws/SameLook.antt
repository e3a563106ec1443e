-- Look-up in a function under other names of globals and structs gives the same actions.
use Rattle.std.specs.Prelude.{◌≡◌, ℕ, zero, suc, List, [], ◌∷◌, ◌++◌, map, flat_map, length, nat_eq, cond, slice_get, Option, refl, ⊤}
use Rattle.std.proofs.Common.{ap, ◌∙◌}
use Rattle.std.specs.Option.{option_map_or}
use Rattle.module_arena.specs.Module.{Bytes, LocalName, Operation, Instruction, Block, Parameter}
use Rattle.module_arena.specs.Module.Operation.{BinaryOperation, Compare, Convert, Select, Freeze, Phi, Load, Store, Alloca, GetElementPtr, Call, ExtractValue, InsertValue}
use Rattle.module_arena.specs.Renamed.{renamed_parameter, renamed_operation, renamed_instruction, renamed_block}
use Rattle.type_table.specs.Shape.{Shape}
use Rattle.type_table.specs.Tree.{Tree}
use Rattle.run_rules.specs.Action.{Action}
use Rattle.run_rules.specs.Constant.{Names, shape_of}
use Rattle.run_rules.specs.Leaves.{part}
use Rattle.run_rules.specs.Look.{ending_at, action_at, look_in}
use Rattle.run_rules.specs.Resolve.{instruction_in}
use Rattle.run_rules.specs.Scope.{FunctionScope, Placed, Typed, result_shape, result_of, results_of, placed_from, place_in}
use Rattle.run_rules.proofs.OnLaws.SameConstants.{Agree}
use Rattle.run_rules.proofs.OnLaws.SameOperations.{OperationIn, scope_with, same_operation}
use Rattle.run_rules.proofs.OnLaws.SameBlocks.{InstructionsIn, BlockIn, BlocksIn, same_ending}

abbrev pub ParametersIn : (Tree → Type 0) → List Parameter → Type 0
ParametersIn T [] = ⊤
ParametersIn T (p ∷ ps) = T p.ty × ParametersIn T ps

abbrev pub typed_parameters : Names → List Parameter → List Typed
typed_parameters names ps = map (λ p. (p.name, shape_of names p.ty)) ps

abbrev pub typed_locals : Names → List Parameter → List Block → List Typed
typed_locals names ps bs = typed_parameters names ps ++ flat_map (results_of names) bs

-- what all names mean in a function with these parameters and blocks
abbrev pub scope_in : Names → List Parameter → List Block → FunctionScope
scope_in names ps bs = scope_with names (placed_from 0 (typed_locals names ps bs)) bs

module _ (old new : Names) (structs globals : Bytes → Bytes) (T : Tree → Type 0) (G : Bytes → Type 0) (agree : Agree old new structs globals T G) where
  same_result : (o : Operation) → OperationIn T G o → result_shape new (renamed_operation structs globals o) ≡ result_shape old o
  same_result (BinaryOperation opcode flags left right) h = agree.same_shape left.ty h.0.0
  same_result (Compare flags predicate left right) h = refl
  same_result (Convert opcode flags value to) h = agree.same_shape to h.1
  same_result (Select condition first second) h = agree.same_shape first.ty h.1.0
  same_result (Freeze value) h = agree.same_shape value.ty h.0
  same_result (Phi ty incoming) h = agree.same_shape ty h.0
  same_result (Load flags ty address alignment) h = agree.same_shape ty h.0
  same_result (Store flags value address alignment) h = refl
  same_result (Alloca ty count alignment) h = refl
  same_result (GetElementPtr flags source base indices) h = refl
  same_result (Call signature callee arguments) h = agree.same_shape signature.returns h.0
  same_result (ExtractValue aggregate indices) h = ap (λ s. part s indices) (agree.same_shape aggregate.ty h.0)
  same_result (InsertValue aggregate inserted indices) h = agree.same_shape aggregate.ty h.0.0

  abbrev with_shape : Option LocalName → Shape → List Typed
  with_shape result s = option_map_or (λ name. (name, s) ∷ []) result []

  same_results : (xs : List Instruction) → InstructionsIn T G xs → flat_map (result_of new) (map (renamed_instruction structs globals) xs) ≡ flat_map (result_of old) xs
  same_results [] h = refl
  same_results (x ∷ xs) h = λ i. with_shape x.result (same_result x.operation h.0 i) ++ same_results xs h.1 i

  same_block_results : (bs : List Block) → BlocksIn T G bs → flat_map (results_of new) (map (renamed_block structs globals) bs) ≡ flat_map (results_of old) bs
  same_block_results [] h = refl
  same_block_results (b ∷ bs) h = λ i. same_results b.instructions h.0.0 i ++ same_block_results bs h.1 i

  same_parameters : (ps : List Parameter) → ParametersIn T ps → typed_parameters new (map (renamed_parameter structs) ps) ≡ typed_parameters old ps
  same_parameters [] h = refl
  same_parameters (p ∷ ps) h = λ i. (p.name, agree.same_shape p.ty h.0 i) ∷ same_parameters ps h.1 i

  -- so the frames of both have the same leaves at the same places
  pub same_locals : (ps : List Parameter) (bs : List Block) → ParametersIn T ps → BlocksIn T G bs
      → typed_locals new (map (renamed_parameter structs) ps) (map (renamed_block structs globals) bs) ≡ typed_locals old ps bs
  same_locals ps bs h k = λ i. same_parameters ps h i ++ same_block_results bs k i

  module _ (locals : List Placed) (blocks : List Block) (known : BlocksIn T G blocks) where
    abbrev before : FunctionScope
    before = scope_with old locals blocks

    abbrev after : FunctionScope
    after = scope_with new locals (map (renamed_block structs globals) blocks)

    same_instruction : (xs : List Instruction) → InstructionsIn T G xs → (n : ℕ) (d e : Action) → d ≡ e
        → option_map_or (instruction_in after) (slice_get (map (renamed_instruction structs globals) xs) n) d ≡ option_map_or (instruction_in before) (slice_get xs n) e
    same_instruction [] h n d e q = q
    same_instruction (x ∷ xs) h zero d e q = same_operation old new structs globals T G agree locals blocks (place_in before x.result) x.operation h.0
    same_instruction (x ∷ xs) h (suc n) d e q = same_instruction xs h.1 n d e q

    same_length : (xs : List Instruction) → length (map (renamed_instruction structs globals) xs) ≡ length xs
    same_length [] = refl
    same_length (x ∷ xs) = ap suc (same_length xs)

    same_at : (b : Block) → BlockIn T G b → (position : ℕ) → action_at after (renamed_block structs globals b) position ≡ action_at before b position
    same_at b h position =
        same_instruction b.instructions h.0 position (ending_at after (renamed_block structs globals b) position) (ending_at before b position)
        (λ i. cond (nat_eq position (same_length b.instructions i)) (same_ending old new structs globals T G agree locals blocks b.name b.ending known h.1 i) Action.Stuck)

    same_in : (bs : List Block) → BlocksIn T G bs → (n position : ℕ)
        → option_map_or (λ b. action_at after b position) (slice_get (map (renamed_block structs globals) bs) n) Action.Stuck ≡ option_map_or (λ b. action_at before b position) (slice_get bs n) Action.Stuck
    same_in [] h n position = refl
    same_in (b ∷ bs) h zero position = same_at b h.0 position
    same_in (b ∷ bs) h (suc n) position = same_in bs h.1 n position

  -- the same action at each place
  pub same_look : (ps : List Parameter) (bs : List Block) → ParametersIn T ps → BlocksIn T G bs → (block position : ℕ)
      → look_in (scope_in new (map (renamed_parameter structs) ps) (map (renamed_block structs globals) bs)) block position ≡ look_in (scope_in old ps bs) block position
  same_look ps bs h k block position =
      (λ i. look_in (scope_with new (placed_from 0 (same_locals ps bs h k i)) (map (renamed_block structs globals) bs)) block position)
      ∙ same_in (placed_from 0 (typed_locals old ps bs)) bs k bs k block position
