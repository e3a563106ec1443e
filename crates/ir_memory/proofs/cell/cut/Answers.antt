use Rattle.std.proofs.Common.{arith}
use Rattle.ir_memory.proofs.Bytes.{whole_bytes}
use Rattle.ir_memory.proofs.cell.cut.Goals as goal

pub returns-then-width-eq0 : goal.returns-then-width-eq0
returns-then-width-eq0 c = whole_bytes c.args.number c.args.width c.requires.fits (omega arith)
