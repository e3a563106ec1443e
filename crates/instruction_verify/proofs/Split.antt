-- What an instruction or an end is asked first, and what is left: the phis, the paths, and the rules behind them.
use Rattle.std.proofs.Common.{◌≡◌, ℕ, ◌&&◌, [], ◌∷◌, ◌++◌, length, refl}
use Rattle.module_arena.specs.Flow.{flow_of}
use Rattle.module_arena.specs.Module.{Block, Ending, Function, Instruction, Module}
use Rattle.module_arena.specs.Operations.{callee, ending_operands, operands}
use Rattle.module_arena.specs.ValueRules.{call_suits, callee_fits, have_types_written, operands_fit}
use Rattle.module_arena.specs.Valid.{InstructionOf, definedness_demands, ending_demands, instruction_demands, operand_uses, operation_phi_suits, operation_uses}
use Rattle.instruction_verify.specs.Parts.{ending_first_demands, ending_last_demands, ending_type_demands, first_demands, last_demands, type_demands}
use Rattle.instruction_verify.proofs.Asked.{demand}

pub instruction_split : (m : Module) (f : Function) (block : Block) (before number : ℕ) (i : Instruction)
    → instruction_demands m f block before number i
    ≡ first_demands m f.name number i
    ++ (demand (InstructionOf number f.name) 9 (operation_phi_suits f block before i.operation)
    ∷ definedness_demands f (InstructionOf number f.name) (operation_uses (flow_of f) (record { block = block.name; before = before }) i.operation)
    ++ last_demands m f number i)
instruction_split m f block before number i = refl

pub ending_split : (m : Module) (f : Function) (block : Block) (number : ℕ)
    → ending_demands m f block number
    ≡ ending_first_demands m f.name number block.ending
    ++ (definedness_demands f (InstructionOf number f.name) (operand_uses (record { block = block.name; before = length block.instructions }) (ending_operands block.ending))
    ++ ending_last_demands m f number block.ending)
ending_split m f block number = refl

pub last_split : (m : Module) (f : Function) (number : ℕ) (i : Instruction)
    → last_demands m f number i
    ≡ demand (InstructionOf number f.name) 11 (have_types_written m.structs f (operands i.operation))
    ∷ type_demands m f.name number i
    ++ (demand (InstructionOf number f.name) 17 (call_suits m.structs f i.result i.operation)
    ∷ demand (InstructionOf number f.name) 18 (operands_fit m.structs (operands i.operation) && callee_fits m.structs (callee i.operation))
    ∷ [])
last_split m f number i = refl

pub ending_last_split : (m : Module) (f : Function) (number : ℕ) (e : Ending)
    → ending_last_demands m f number e ≡ demand (InstructionOf number f.name) 11 (have_types_written m.structs f (ending_operands e)) ∷ ending_type_demands m f number e
ending_last_split m f number e = refl
