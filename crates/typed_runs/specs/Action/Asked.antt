-- For `instructions_are_typed`: what is asked of an instruction of a scope so that its action is typed.
use Rattle.std.specs.Prelude.{◌≡◌, ℕ, true, ⊤, option_to_list}
use Rattle.std.specs.List.{AllByRecursion, list_all}
use Rattle.type_table.specs.Tree.{Tree, ptr}
use Rattle.module_arena.specs.Forms.{is_operation_of_phrase}
use Rattle.module_arena.specs.InstructionRules.{other_types_suit, operation_alignment_suits}
use Rattle.module_arena.specs.Module.{Value, Operand, Operation, Instruction}
use Rattle.module_arena.specs.Module.Operation.{Call}
use Rattle.module_arena.specs.Operations.{operands, callee}
use Rattle.module_arena.specs.ValueRules.{arithmetic_suits, cast_suits, address_suits, element_address_suits, part_suits, arguments_suit}
use Rattle.module_arena.specs.WellFormed.{is_good_type, types_of_operation}
use Rattle.run_rules.specs.Action.{Action}
use Rattle.run_rules.specs.Constant.{shape_of}
use Rattle.run_rules.specs.Scope.{FunctionScope, place_in, value_in, result_shape}
use Rattle.typed_runs.specs.Actions.{Typing, AreOrigins, IsResult}
use Rattle.typed_runs.specs.Kinds.{kinds_of}

-- the arguments of a call are those of its function type
abbrev pub CallSuits : Operation → Type 0
CallSuits (Call signature value arguments) = arguments_suit signature.variadic signature.parameters arguments ≡ true
CallSuits _ = ⊤

module _ (t : Typing) (look : ℕ → ℕ → ℕ → Action) (function : ℕ) (sc : FunctionScope) where
  -- a value has the leaves of that type
  abbrev pub HasLeaves : Tree → Value → Type 0
  HasLeaves ty v = AreOrigins t look function (kinds_of (shape_of sc.names ty)) (value_in sc ty v)

  -- an operand has those of the type that is written before it, and the type is good
  abbrev pub IsGoodOperand : Operand → Type 0
  IsGoodOperand o = HasLeaves o.ty o.value × (is_good_type sc.names.structs o.ty ≡ true)

  -- values have their leaves, the result has its place, and the tests of validity are passed
  pub record IsAsked (i : Instruction) : Type 0 where
    -- leaves of operands, of what is called, and of the result
    pub values : AllByRecursion IsGoodOperand (operands i.operation)
    pub called : AllByRecursion (HasLeaves ptr) (option_to_list (callee i.operation))
    pub placed : IsResult t look function (place_in sc i.result) (kinds_of (result_shape sc.names i.operation))
    -- the tests that validity makes: of types, of the phrase, of alignments, and of each kind of operation
    pub types : list_all (is_good_type sc.names.structs) (types_of_operation i.operation) ≡ true
    pub phrase : is_operation_of_phrase i.operation ≡ true
    pub lies : other_types_suit sc.names.structs i.operation ≡ true
    pub alignment : operation_alignment_suits i.operation ≡ true
    pub arithmetic : arithmetic_suits i.operation ≡ true
    pub cast : cast_suits i.operation ≡ true
    pub address : address_suits i.operation ≡ true
    pub element : element_address_suits sc.names.structs i.operation ≡ true
    pub part : part_suits sc.names.structs i.operation ≡ true
    pub call : CallSuits i.operation
