use Rattle.std.proofs.Common.{sym, ap}
use Rattle.canonical.specs.Phrase.{Phrase}
use Rattle.ir_printer.specs.Phrases.Printing.{separator_of}
use Rattle.ir_printer.proofs.OnPhrases.Printing.{prints_same}
use Rattle.ir_printer.proofs.Bodies.{declared, defined}
use Rattle.ir_printer.proofs.functions.put_function.Goals as goal

pub returns-in-Some : goal.returns-in-Some
returns-in-Some g c = prints_same (ap (λ (p : Phrase). p (separator_of c.args.behind)) (sym (defined c.args.arena.now c.args.function.now c.in-Some.body c.in-Some.is))) c.put_definition.ensures

pub returns-in-None : goal.returns-in-None
returns-in-None g c = prints_same (ap (λ (p : Phrase). p (separator_of c.args.behind)) (sym (declared c.args.arena.now c.args.function.now c.in-None.is))) c.put_declaration.ensures
