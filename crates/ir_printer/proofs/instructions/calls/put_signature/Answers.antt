use Rattle.std.proofs.Common.{map, true, ap}
use Rattle.ir_lexer.specs.Pieces.{Space}
use Rattle.ir_lexer.specs.declared.token.TokenKind.TheVariants as kind
use Rattle.type_table.specs.Types.{Types, trees}
use Rattle.module_arena.specs.View.{type_at}
use Rattle.canonical.specs.Phrase.{listed}
use Rattle.canonical.specs.Types.{type_phrase}
use Rattle.canonical.specs.Operations.{dotted}
use Rattle.ir_printer.proofs.OnPhrases.Printing.{prints_same}
use Rattle.ir_printer.proofs.OnPhrases.Parts.{parentheses_put}
use Rattle.ir_printer.specs.Instructions.Parts.{dotted_types}
use Rattle.ir_printer.proofs.instructions.calls.put_signature.Goals as goal

pub returns-then-signature : goal.returns-then-signature
returns-then-signature g c =
    let parameters = c.args.signature.now.parameters in
    rw c.if-signature.true
    (parentheses_put (listed (dotted (map type_phrase (map (type_at (trees c.args.arena.now.table)) parameters)) true)) Space (c.put_token.ensures kind.Punctuation)
    (prints_same (ap (λ (x : Types). dotted_types x parameters) c.types.ensures) (prints_same (ap (dotted_types c.types.result.now) c.as_slice.ensures) c.put_dotted.ensures))
    (c.put_token-then-signature.ensures kind.Punctuation))
