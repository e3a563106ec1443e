use Rattle.std.proofs.Common.{sym}
use Rattle.ir_phrases.proofs.OnInstructions.Firsts.{no_operation}
use Rattle.ir_phrases.proofs.instructions.instructions.begins_operation.Goals as goal

pub returns-in_default : goal.returns-in_default
returns-in_default c = sym (no_operation c.args.terminal c.in_default.not-Opcode)
