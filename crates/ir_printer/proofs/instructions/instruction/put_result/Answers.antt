use Rattle.std.proofs.Common.{ap}
use Rattle.std.specs.Prelude.{codes}
use Rattle.ir_lexer.specs.Pieces.{Space}
use Rattle.ir_lexer.specs.declared.token.TokenKind.TheVariants as kind
use Rattle.module_arena.specs.Lists.{value_names}
use Rattle.module_arena.specs.Module.{LocalName}
use Rattle.module_arena.specs.View.{local_view}
use Rattle.canonical.specs.Names.{local}
use Rattle.canonical.specs.Phrase.{mark}
use Rattle.ir_printer.proofs.OnPhrases.Printing.{prints_same, prints_then}
use Rattle.ir_printer.proofs.OnInstructions.Locals.{mapped_at}
use Rattle.ir_printer.specs.Instructions.Lines.{called_at}
use Rattle.ir_printer.proofs.instructions.instruction.put_result.Goals as goal

pub returns-in-Some : goal.returns-in-Some
returns-in-Some g c = λ a.
    rw c.in-Some.is
    (prints_then (local (called_at a c.args.function.now c.in-Some.id) Space) (mark (codes "=") Space)
    (prints_same (ap (λ (n : LocalName). local n Space) (mapped_at local_view (value_names c.args.function.now) c.in-Some.id c.value_name.result.now (LocalName.Numbered 0) c.value_name.ensures)) c.put_local.ensures)
    (c.put_token.ensures kind.Punctuation))
