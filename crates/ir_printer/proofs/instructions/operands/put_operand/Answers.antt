use Rattle.std.proofs.Common.{ap}
use Rattle.ir_lexer.specs.Pieces.{Space}
use Rattle.type_table.specs.Types.{Types, tree}
use Rattle.canonical.specs.Constants.{value_phrase}
use Rattle.canonical.specs.Types.{type_phrase}
use Rattle.ir_printer.specs.Phrases.Printing.{separator_of}
use Rattle.ir_printer.proofs.OnPhrases.Printing.{prints_same, prints_then}
use Rattle.ir_printer.specs.Instructions.Named.{value_of}
use Rattle.ir_printer.proofs.instructions.operands.put_operand.Goals as goal

pub returns : goal.returns
returns g c =
    let ty = tree c.args.arena.now.table c.args.part.ty in
    prints_then (type_phrase ty Space) (value_phrase ty (value_of c.args.arena.now c.args.function.now c.args.part.value) (separator_of c.args.behind))
    (prints_same (ap (λ (x : Types). type_phrase (tree x c.args.part.ty) Space) c.types.ensures) c.put_type.ensures) c.put_value.ensures
