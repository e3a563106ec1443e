use Rattle.std.specs.Prelude.{codes}
use Rattle.ir_lexer.specs.declared.token.TokenKind.TheVariants as kind
use Rattle.ir_tables.specs.declared.opcode.Opcode.TheVariants as op
use Rattle.canonical.specs.Phrase.{word}
use Rattle.canonical.specs.Constants.{opcode}
use Rattle.ir_printer.specs.Phrases.Printing.{separator_of}
use Rattle.ir_printer.proofs.OnInstructions.Chained.{spaced}
use Rattle.ir_printer.proofs.instructions.endings.put_return_void.Goals as goal

pub returns : goal.returns
returns g c = spaced (opcode op.Ret) (word (codes "void")) (separator_of c.args.behind) (c.put_token.ensures kind.Word) (c.put_token-2.ensures kind.Word)
