use Rattle.std.proofs.Common.{codes, sym, ap}
use Rattle.std.specs.Option.{option_copied}
use Rattle.ir_lexer.specs.declared.token.TokenKind.TheVariants as kind
use Rattle.type_table.specs.Tree.{TreeBody}
use Rattle.type_table.specs.Types.{trees, tree_body}
use Rattle.module_arena.specs.Module.{Bytes}
use Rattle.canonical.specs.Canonical.{struct_phrase, body_phrase}
use Rattle.canonical.specs.Names.{named_local}
use Rattle.canonical.specs.Phrase.{Phrase, word, mark, ◌␣◌}
use Rattle.ir_printer.specs.Phrases.Printing.{separator_of}
use Rattle.ir_printer.proofs.OnPhrases.Printing.{prints_same}
use Rattle.ir_printer.proofs.OnInstructions.Chained.{spaced}
use Rattle.ir_printer.proofs.Lists.{struct_at}
use Rattle.ir_printer.proofs.structs.put_struct.Goals as goal

pub returns : goal.returns
returns g c =
    let t = c.args.types.now in
    let behind = separator_of c.args.behind in
    let name = c.struct_name.result.now in
    let body = tree_body (trees t) (option_copied c.struct_body.result) in
    let what : Phrase = body_phrase body in
    prints_same (ap (λ (s : Bytes × TreeBody). struct_phrase s behind) (sym (struct_at t c.args.id name (option_copied c.struct_body.result) c.struct_name.ensures c.struct_body.ensures)))
    (spaced (named_local name) (mark (codes "=") ␣ word (codes "type") ␣ what) behind c.put_struct_name.ensures
    (spaced (mark (codes "=")) (word (codes "type") ␣ what) behind (c.put_token.ensures kind.Punctuation)
    (spaced (word (codes "type")) what behind (c.put_token-2.ensures kind.Word) c.put_body.ensures)))
