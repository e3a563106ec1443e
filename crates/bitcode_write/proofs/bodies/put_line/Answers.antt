use Rattle.std.proofs.Common.{ap, ◌+◌, ◌∙◌}
use Rattle.bitcode_write.proofs.Chain.{from_empty}
use Rattle.bitcode_write.proofs.Lined.{put_as}
use Rattle.ir_tables.specs.Opcode.{opcode_code}
use Rattle.ir_tables.specs.declared.opcode.Opcode.{Opcode}
use Rattle.bitcode_write.proofs.bodies.put_line.Goals as goal

pub returns-clause-put : goal.returns-clause-put
returns-clause-put c =
    let a = c.args.numbering.now in
    let f = c.args.function.now in
    put_as _ _ _ _ _ _ _ c.put.ensures.put
    (c.line_code.ensures ∙ ap (λ (o : Opcode). 10 + opcode_code o) (c.instruction_opcode-opcode.ensures a f))
    (from_empty _ _ _ c.requires.empty (c.in_ok-put_instruction.ensures c.requires.line))
