use Rattle.std.proofs.Common.{ap}
use Rattle.ir_lexer.specs.Pieces.{Space}
use Rattle.type_table.specs.Types.{Types, tree}
use Rattle.module_arena.specs.View.{constants_of, constant_at}
use Rattle.canonical.specs.Constants.{constant_phrase}
use Rattle.canonical.specs.Phrase.{Phrase}
use Rattle.canonical.specs.Types.{type_phrase}
use Rattle.ir_printer.specs.Phrases.Printing.{separator_of}
use Rattle.ir_printer.proofs.OnPhrases.Printing.{prints_same}
use Rattle.ir_printer.proofs.OnInstructions.Chained.{spaced}
use Rattle.ir_printer.proofs.variable.put_initialised.Goals as goal

pub returns-in-Some : goal.returns-in-Some
returns-in-Some g c =
    let a = c.args.arena.now in
    let behind = separator_of c.args.behind in
    let ty : Phrase = type_phrase (tree a.table c.args.ty) in
    let value : Phrase = constant_phrase (tree a.table c.args.ty) (constant_at (constants_of a) c.in-Some.id) in
    rw c.in-Some.is
    (spaced ty value behind (prints_same (ap (λ (x : Types). type_phrase (tree x c.args.ty) Space) c.types.ensures) c.put_type.ensures) c.put_constant.ensures)

pub returns-in-None : goal.returns-in-None
returns-in-None g c = rw c.in-None.is (prints_same (ap (λ (x : Types). type_phrase (tree x c.args.ty) (separator_of c.args.behind)) c.types-in-None.ensures) c.put_type-in-None.ensures)
