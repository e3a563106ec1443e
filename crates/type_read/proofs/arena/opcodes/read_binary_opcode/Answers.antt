use Rattle.std.proofs.Common.{sym, [], ◌∷◌}
use Rattle.std.specs.Prelude.{find, nat_eq}
use Rattle.ir_tables.specs.declared.opcode.Opcode.{Opcode}
use Rattle.ir_tables.specs.declared.opcode.Opcode.TheVariants.{Add, Sub, Xor}
use Rattle.ir_tables.specs.Opcode.{opcode_code}
use Rattle.record_read.proofs.Coded.{coded_some, coded_none}
use Rattle.type_read.proofs.arena.opcodes.read_binary_opcode.Goals as goal

pub returns-in-Some : goal.returns-in-Some
returns-in-Some c = coded_some opcode_code (λ code. find (λ (o : Opcode). nat_eq (opcode_code o) code) (Add ∷ Sub ∷ Xor ∷ [])) Xor c.in-Some.opcode _ _ _ c.number-number.ensures (sym c.in-Some.ensures)

pub returns-in-None : goal.returns-in-None
returns-in-None c = coded_none opcode_code (λ code. find (λ (o : Opcode). nat_eq (opcode_code o) code) (Add ∷ Sub ∷ Xor ∷ [])) Xor _ _ _ _ c.number-number.ensures (sym c.in-None.ensures) c.refuse.ensures
