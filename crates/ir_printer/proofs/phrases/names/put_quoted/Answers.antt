use Rattle.std.proofs.Common.{arith}
use Rattle.ir_printer.proofs.OnPhrases.Printing.{tells_then, tells_same}
use Rattle.ir_printer.proofs.OnPhrases.Quoting.{quoted_more, quoted_end}
use Rattle.ir_printer.proofs.phrases.names.put_quoted.Goals as goal

pub bytes-init : goal.bytes-init
bytes-init g c = λ now h. tells_then c.put.ensures h

pub bytes-preserved : goal.bytes-preserved
bytes-preserved g c = λ now h. c.bytes.invariant now (tells_same (quoted_more c.args.bytes.now c.bytes.byte-index _ c.bytes-test.true) (tells_then c.put_quoted_byte.ensures h))

pub returns : goal.returns
returns g c = c.bytes.invariant _ (tells_same (quoted_end c.args.bytes.now c.bytes.byte-index (omega arith)) c.put-2.ensures)
