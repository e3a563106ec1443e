use Rattle.ir_lexer.specs.declared.token.TokenKind.TheVariants as kind
use Rattle.ir_tables.specs.declared.opcode.Opcode.TheVariants as op
use Rattle.canonical.specs.Constants.{opcode}
use Rattle.canonical.specs.Instructions.{target}
use Rattle.ir_printer.specs.Phrases.Printing.{separator_of}
use Rattle.ir_printer.specs.Instructions.Named.{label_of}
use Rattle.ir_printer.proofs.OnInstructions.Chained.{spaced}
use Rattle.ir_printer.proofs.instructions.endings.put_jump.Goals as goal

pub returns : goal.returns
returns g c = λ a.
    spaced (opcode op.Br) (target (label_of a c.args.function.now c.args.to)) (separator_of c.args.behind) (c.put_token.ensures kind.Word) (c.put_target.ensures a)
