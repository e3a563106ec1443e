-- For `Checked::seal`: when a module is valid: all that it is asked for, in the order of judgement. First of the module, then of each
-- variable, of each alias, then of each function, followed by its blocks, each followed by its instructions and its end;
-- of one entity in the order of the rules. A rule is told by its number:
--   1 the text of the data layout      7 alignments                       13 casts
--   2 linkages                         8 the entry has no predecessors    14 addresses of loads and stores, counts
--   3 common variables                 9 phis                             15 indices of getelementptr
--   4 appending variables              10 values are surely defined       16 parts of arrays and structs
--   5 names that begin `llvm.`         11 types of local values           17 calls and ends of blocks
--   6 types                            12 operands of arithmetic          18 constants fit their types
--                                                                       19 aliases and what they are of
use Rattle.std.specs.Prelude.{◌≡◌, ℕ, ◌+◌, Bool, true, false, not, ◌&&◌, ◌==◌, IsTrue, List, [], ◌∷◌, ◌++◌, map, flat_map, take, length, ⊤, ◌⊎◌, Option, Some, None, is_some, option_to_list}
use Rattle.std.specs.Option.{option_map_or}
use Rattle.module_arena.specs.Module.{Bytes, LocalName, Operand, Incoming, Operation, Instruction, Block, Variable, Alias, Function, Module}
use Rattle.module_arena.specs.Module.Operation.{Phi}
use Rattle.module_arena.specs.Constants.{fits}
use Rattle.module_arena.specs.Operations.{operands, ending_operands, callee, local_in}
use Rattle.module_arena.specs.Functions.{blocks}
use Rattle.module_arena.specs.Flow.{Flow, FlowPlace, flow_of, predecessors, end_of}
use Rattle.module_arena.specs.Paths.{IsSurelyDefined, is_surely_defined}
use Rattle.module_arena.specs.LayoutText.{has_own_layout}
use Rattle.module_arena.specs.EntryRules.{linkage_suits, is_common, common_variable_suits, is_appending, appending_variable_suits, variable_name_suits, function_name_suits, variable_types_suit, function_types_suit, alignment_suits, alias_names_suit, alias_types_suit, alias_suits, takes_no_intrinsic}
use Rattle.module_arena.specs.InstructionRules.{operands_take_no_intrinsic, callee_takes_no_intrinsic, operation_types_suit, operands_suit, operation_alignment_suits, phi_suits}
use Rattle.module_arena.specs.ValueRules.{have_types_written, arithmetic_suits, cast_suits, address_suits, element_address_suits, part_suits, call_suits, ending_suits, operands_fit, callee_fits}

-- what is at fault: the module, a variable, alias or function, a block, or an instruction or end by its number in the function
pub data Entity : Type 0 where
  TheModule : Entity
  Global : (name : Bytes) → Entity
  BlockOf : (block : LocalName) → (function : Bytes) → Entity
  InstructionOf : (number : ℕ) → (function : Bytes) → Entity

-- what is asked for: a test to be passed, or a value to be surely defined at a place
pub data Fact : Type 0 where
  Test : (passes : Bool) → Fact
  Defined : (flow : Flow) → (place : FlowPlace) → (value : LocalName) → Fact

-- the test is passed, or the value surely defined
abbrev pub Holds : Fact → Type 0
Holds (Test passes) = IsTrue passes
Holds (Defined flow place value) = IsSurelyDefined flow place value

-- what is asked for, of what, and by which rule
pub record Demand : Type 0 where
  pub entity : Entity
  pub rule : ℕ
  pub fact : Fact

-- a test that an entity is asked to pass
abbrev pub ask : Entity → ℕ → Bool → Demand
ask entity rule passes = record { entity = entity; rule = rule; fact = Test passes }

-- what the module itself is asked for
abbrev pub module_demands : Module → List Demand
module_demands m = ask TheModule 1 (has_own_layout m.layout) ∷ []

-- the initialiser takes the address of no intrinsic, and fits the variable's type
abbrev pub initialiser_takes_no_intrinsic : Module → Variable → Bool
initialiser_takes_no_intrinsic m v = option_map_or (takes_no_intrinsic m v.ty) v.initialiser true

-- the initialiser fits the variable's type
abbrev pub initialiser_fits : Module → Variable → Bool
initialiser_fits m v = option_map_or (fits m.structs v.ty) v.initialiser true

-- what a variable is asked for
abbrev pub variable_demands : Module → Variable → List Demand
variable_demands m v =
    ask (Global v.name) 2 (linkage_suits (is_some v.initialiser) v.linkage)
    ∷ ask (Global v.name) 3 (common_variable_suits v)
    ∷ ask (Global v.name) 4 (appending_variable_suits v)
    ∷ ask (Global v.name) 5 (variable_name_suits m v && initialiser_takes_no_intrinsic m v)
    ∷ ask (Global v.name) 6 (variable_types_suit m.structs v)
    ∷ ask (Global v.name) 7 (alignment_suits v.alignment)
    ∷ ask (Global v.name) 18 (initialiser_fits m v)
    ∷ []

-- an alias is a definition, and neither common nor appending
abbrev pub alias_demands : Module → Alias → List Demand
alias_demands m a =
    ask (Global a.name) 2 (linkage_suits true a.linkage)
    ∷ ask (Global a.name) 3 (not (is_common a.linkage))
    ∷ ask (Global a.name) 4 (not (is_appending a.linkage))
    ∷ ask (Global a.name) 5 (alias_names_suit m a)
    ∷ ask (Global a.name) 6 (alias_types_suit m.structs a.ty)
    ∷ ask (Global a.name) 19 (alias_suits m a)
    ∷ []

-- a local value of a phi, used at the end of its block
abbrev pub incoming_uses : Flow → Incoming → List (FlowPlace × LocalName)
incoming_uses flow i = map (λ name. (end_of flow i.block, name)) (local_in i.value)

-- the local values among operands, used at this place
abbrev pub operand_uses : FlowPlace → List Operand → List (FlowPlace × LocalName)
operand_uses place os = map (λ name. (place, name)) (flat_map (λ o. local_in o.value) os)

-- the local values that an instruction uses, each with the place of its use: that of a phi is the end of the block that it
-- comes from
abbrev pub operation_uses : Flow → FlowPlace → Operation → List (FlowPlace × LocalName)
operation_uses flow place (Phi ty incoming) = flat_map (incoming_uses flow) incoming
operation_uses flow place o = operand_uses place (operands o) ++ map (λ name. (place, name)) (flat_map local_in (option_to_list (callee o)))

-- each use asks for a sure definition
abbrev pub definedness_demands : Function → Entity → List (FlowPlace × LocalName) → List Demand
definedness_demands f entity uses = map (λ u. record { entity = entity; rule = 10; fact = Defined (flow_of f) u.0 u.1 }) uses

-- a phi suits its place and its edges
abbrev pub operation_phi_suits : Function → Block → ℕ → Operation → Bool
operation_phi_suits f block before (Phi ty incoming) = phi_suits (flow_of f) block.name (take before block.instructions) incoming
operation_phi_suits f block before _ = true

-- of instruction `before` of a block, which is instruction `number` of the function
abbrev pub instruction_demands : Module → Function → Block → ℕ → ℕ → Instruction → List Demand
instruction_demands m f block before number i =
    let entity = InstructionOf number f.name in
    ask entity 5 (operands_take_no_intrinsic m (operands i.operation) && callee_takes_no_intrinsic m (callee i.operation))
    ∷ ask entity 6 (operation_types_suit m.structs i.operation)
    ∷ ask entity 7 (operation_alignment_suits i.operation)
    ∷ ask entity 9 (operation_phi_suits f block before i.operation)
    ∷ definedness_demands f entity (operation_uses (flow_of f) (record { block = block.name; before = before }) i.operation)
    ++ ask entity 11 (have_types_written m.structs f (operands i.operation))
    ∷ ask entity 12 (arithmetic_suits i.operation)
    ∷ ask entity 13 (cast_suits i.operation)
    ∷ ask entity 14 (address_suits i.operation)
    ∷ ask entity 15 (element_address_suits m.structs i.operation)
    ∷ ask entity 16 (part_suits m.structs i.operation)
    ∷ ask entity 17 (call_suits m.structs f i.result i.operation)
    ∷ ask entity 18 (operands_fit m.structs (operands i.operation) && callee_fits m.structs (callee i.operation))
    ∷ []

-- what the end of a block is asked for
abbrev pub ending_demands : Module → Function → Block → ℕ → List Demand
ending_demands m f block number =
    let entity = InstructionOf number f.name in
    ask entity 5 (operands_take_no_intrinsic m (ending_operands block.ending))
    ∷ ask entity 6 (operands_suit m.structs (ending_operands block.ending))
    ∷ definedness_demands f entity (operand_uses (record { block = block.name; before = length block.instructions }) (ending_operands block.ending))
    ++ ask entity 11 (have_types_written m.structs f (ending_operands block.ending))
    ∷ ask entity 17 (ending_suits f block.ending)
    ∷ ask entity 18 (operands_fit m.structs (ending_operands block.ending))
    ∷ []

-- of the instructions of a block from one on
abbrev pub instructions_demands : Module → Function → Block → ℕ → ℕ → List Instruction → List Demand
instructions_demands m f block before number [] = ending_demands m f block number
instructions_demands m f block before number (i ∷ is) =
    instruction_demands m f block before number i ++ instructions_demands m f block (before + 1) (number + 1) is

-- of the blocks from one on, whose first instruction has that number
abbrev pub blocks_demands : Module → Function → ℕ → List Block → List Demand
blocks_demands m f number [] = []
blocks_demands m f number (b ∷ bs) =
    instructions_demands m f b 0 number b.instructions ++ blocks_demands m f (number + length b.instructions + 1) bs

-- the entry block has no predecessors
abbrev pub entry_demands : Function → List Block → List Demand
entry_demands f [] = []
entry_demands f (entry ∷ others) = ask (BlockOf entry.name f.name) 8 (length (predecessors (flow_of f) entry.name) == 0) ∷ []

-- what a function and all in it is asked for
abbrev pub function_demands : Module → Function → List Demand
function_demands m f =
    ask (Global f.name) 2 (linkage_suits (is_some f.body) f.linkage)
    ∷ ask (Global f.name) 3 (not (is_common f.linkage))
    ∷ ask (Global f.name) 4 (not (is_appending f.linkage))
    ∷ ask (Global f.name) 5 (function_name_suits f)
    ∷ ask (Global f.name) 6 (function_types_suit m.structs f)
    ∷ entry_demands f (blocks f)
    ++ blocks_demands m f 0 (blocks f)

-- all that is asked of a module
abbrev pub demands : Module → List Demand
demands m =
    module_demands m
    ++ (flat_map (variable_demands m) m.variables ++ (flat_map (alias_demands m) m.aliases ++ flat_map (function_demands m) m.functions))

-- each demand holds
abbrev pub AllHold : List Demand → Type 0
AllHold [] = ⊤
AllHold (d ∷ ds) = Holds d.fact × AllHold ds

-- the module is valid
abbrev pub IsValid : Module → Type 0
IsValid m = AllHold (demands m)

-- the first demand that does not hold is one of that entity, by that rule
abbrev pub IsFirstOf : List Demand → Entity → ℕ → Type 0
IsFirstOf [] entity rule = ⊥
IsFirstOf (d ∷ ds) entity rule = ((¬ Holds d.fact) × (entity ≡ d.entity) × (rule ≡ d.rule)) ⊎ (Holds d.fact × IsFirstOf ds entity rule)

-- the first failure of a module is this one
abbrev pub IsFirstFailure : Module → Entity → ℕ → Type 0
IsFirstFailure m entity rule = IsFirstOf (demands m) entity rule

-- what an answer says of a list of demands: all hold, or the first that does not is this one
abbrev pub IsJudged : List Demand → Option (Entity × ℕ) → Type 0
IsJudged ds None = AllHold ds
IsJudged ds (Some failure) = IsFirstOf ds failure.0 failure.1

-- whether a fact holds, by a plain search where it speaks of paths
abbrev pub is_held : Fact → Bool
is_held (Test passes) = passes
is_held (Defined flow place value) = is_surely_defined flow place value

-- what is told of a demand that does not hold
abbrev pub failure_of : Demand → Entity × ℕ
failure_of d = (d.entity, d.rule)

-- the first that is not held
abbrev pub first_of_demands : List Demand → Option (Entity × ℕ)
first_of_demands [] = None
first_of_demands (d ∷ ds) = elim (is_held d.fact) [ true ↦ first_of_demands ds | false ↦ Some (failure_of d) ]

-- the entity and the rule of the first failure
abbrev pub first_failure : Module → Option (Entity × ℕ)
first_failure m = first_of_demands (demands m)
