use Rattle.std.proofs.Common.{List, ap}
use Rattle.ir_lexer.specs.Pieces.{Nothing}
use Rattle.canonical.specs.Phrase.{Phrase, listed}
use Rattle.ir_printer.proofs.OnPhrases.Printing.{prints_same}
use Rattle.ir_printer.proofs.Lists.{types_mapped}
use Rattle.ir_printer.proofs.alias.put_parameter_types.Goals as goal

pub returns-then-variadic : goal.returns-then-variadic
returns-then-variadic g c = rw c.if-variadic.true c.put_dotted.ensures

pub returns-else-variadic : goal.returns-else-variadic
returns-else-variadic g c = rw c.if-variadic.false (prints_same (ap (λ (ps : List Phrase). listed ps Nothing) (types_mapped c.args.types.now c.args.parts.now)) c.put_types.ensures)
