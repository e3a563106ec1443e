use Rattle.std.proofs.Common.{ap}
use Rattle.std.specs.Prelude.{codes}
use Rattle.ir_lexer.specs.Pieces.{Space}
use Rattle.ir_lexer.specs.declared.token.TokenKind.TheVariants as kind
use Rattle.module_arena.specs.declared.entry.Block as the_block
use Rattle.module_arena.specs.Lists.{function_blocks}
use Rattle.module_arena.specs.Module.{LocalName}
use Rattle.module_arena.specs.View.{local_view}
use Rattle.canonical.specs.Names.{local}
use Rattle.canonical.specs.Phrase.{word}
use Rattle.ir_printer.specs.Phrases.Printing.{separator_of}
use Rattle.ir_printer.proofs.OnPhrases.Printing.{prints_same, prints_then}
use Rattle.ir_printer.specs.Instructions.Named.{label_of}
use Rattle.ir_printer.proofs.OnInstructions.Locals.{mapped_at}
use Rattle.ir_printer.proofs.instructions.targets.put_target.Goals as goal

pub returns : goal.returns
returns g c = λ a.
    prints_then (word (codes "label") Space) (local (label_of a c.args.function.now c.args.id) (separator_of c.args.behind)) (c.put_token.ensures kind.Word)
    (prints_same (ap (λ (n : LocalName). local n (separator_of c.args.behind)) (mapped_at (λ (b : the_block.Block). local_view b.name) (function_blocks c.args.function.now) c.args.id c.block.result.now (LocalName.Numbered 0) c.block.ensures)) c.put_local.ensures)
