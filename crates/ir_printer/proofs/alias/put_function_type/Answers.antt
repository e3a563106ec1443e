use Rattle.ir_lexer.specs.declared.token.TokenKind.TheVariants as kind
use Rattle.std.proofs.Common.{map}
use Rattle.type_table.specs.Types.{trees, tree}
use Rattle.module_arena.specs.View.{type_at}
use Rattle.canonical.specs.Operations.{dotted}
use Rattle.canonical.specs.Phrase.{Phrase, in_parentheses, listed}
use Rattle.canonical.specs.Types.{type_phrase}
use Rattle.ir_printer.specs.Phrases.Printing.{separator_of}
use Rattle.ir_printer.proofs.OnPhrases.Parts.{parentheses_put}
use Rattle.ir_printer.proofs.OnInstructions.Chained.{spaced}
use Rattle.ir_printer.proofs.alias.put_function_type.Goals as goal

pub returns : goal.returns
returns g c =
    let t = c.args.types.now in
    let behind = separator_of c.args.behind in
    let returned : Phrase = type_phrase (tree t c.args.returns) in
    let inside : Phrase = listed (dotted (map type_phrase (map (type_at (trees t)) c.args.parameters.now)) c.args.variadic) in
    spaced returned (in_parentheses inside) behind c.put_type.ensures
    (parentheses_put inside behind (c.put_token.ensures kind.Punctuation) c.put_parameter_types.ensures (c.put_token-2.ensures kind.Punctuation))
