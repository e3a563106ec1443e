-- What a valid module is asked for of an instruction and of the end of a block, rule by rule.
use Rattle.std.proofs.Common.{◌≡◌, ℕ, length, true, ◌&&◌}
use Rattle.std.proofs.lemmas.Bool.{and_parts}
use Rattle.type_table.specs.Tree.{Structs}
use Rattle.module_arena.specs.Flow.{flow_of}
use Rattle.module_arena.specs.InstructionRules.{callee_types_suit, operands_suit, other_types_suit, result_suits}
use Rattle.module_arena.specs.Module.{Block, Ending, Function, Instruction, Module}
use Rattle.module_arena.specs.Operations.{callee, ending_operands, operands, result_type}
use Rattle.module_arena.specs.Valid.{AllHold, InstructionOf, definedness_demands, ending_demands, instruction_demands, operand_uses, operation_uses}
use Rattle.module_arena.specs.ValueRules.{address_suits, arithmetic_suits, cast_suits, element_address_suits, ending_suits, part_suits}
use Rattle.module_arena.proofs.Parts.{rest_holds}

-- the types of what an instruction works on and gives, and what its phrase asks of them
pub record InstructionAsked (structs : Structs) (i : Instruction) : Type 0 where
  pub operand_types : operands_suit structs (operands i.operation) ≡ true
  pub given_type : result_suits structs (result_type structs i.operation) ≡ true
  pub other_types : other_types_suit structs i.operation ≡ true
  pub arithmetic : arithmetic_suits i.operation ≡ true
  pub cast : cast_suits i.operation ≡ true
  pub address : address_suits i.operation ≡ true
  pub steps : element_address_suits structs i.operation ≡ true
  pub part : part_suits structs i.operation ≡ true

-- the same of an end
pub record EndingAsked (structs : Structs) (f : Function) (e : Ending) : Type 0 where
  pub operand_types : operands_suit structs (ending_operands e) ≡ true
  pub phrase : ending_suits f e ≡ true

module _ (m : Module) (f : Function) (b : Block) where
  pub instruction_asked : (before number : ℕ) (i : Instruction) → AllHold (instruction_demands m f b before number i) → InstructionAsked m.structs i
  instruction_asked before number i h =
      let o = i.operation in
      let uses = definedness_demands f (InstructionOf number f.name) (operation_uses (flow_of f) (record { block = b.name; before = before }) o) in
      let later = rest_holds uses _ h.1.1.1.1 in
      let p = and_parts (operands_suit m.structs (operands o)) (callee_types_suit m.structs (callee o) && (result_suits m.structs (result_type m.structs o) && other_types_suit m.structs o)) h.1.0 in
      let q = and_parts (callee_types_suit m.structs (callee o)) (result_suits m.structs (result_type m.structs o) && other_types_suit m.structs o) p.1 in
      let r = and_parts (result_suits m.structs (result_type m.structs o)) (other_types_suit m.structs o) q.1 in
      record {
        operand_types = p.0;
        given_type = r.0;
        other_types = r.1;
        arithmetic = later.1.0;
        cast = later.1.1.0;
        address = later.1.1.1.0;
        steps = later.1.1.1.1.0;
        part = later.1.1.1.1.1.0;
      }

  pub ending_asked : (number : ℕ) → AllHold (ending_demands m f b number) → EndingAsked m.structs f b.ending
  ending_asked number h =
      let os = ending_operands b.ending in
      let uses = definedness_demands f (InstructionOf number f.name) (operand_uses (record { block = b.name; before = length b.instructions }) os) in
      let later = rest_holds uses _ h.1.1 in
      record { operand_types = h.1.0; phrase = later.1.0 }
