use Rattle.std.proofs.Common.{codes, ap}
use Rattle.ir_lexer.specs.Pieces.{Nothing}
use Rattle.ir_lexer.specs.declared.token.TokenKind.TheVariants as kind
use Rattle.type_table.specs.Types.{Types, trees}
use Rattle.module_arena.specs.Lists.{name_at}
use Rattle.module_arena.specs.View.{alias_view, alias_type_view}
use Rattle.canonical.specs.Canonical.{linkage_phrase, alias_type}
use Rattle.canonical.specs.Names.{global}
use Rattle.canonical.specs.Phrase.{Phrase, word, mark, comma, ◌␣◌, ◌⌢◌}
use Rattle.ir_printer.specs.Phrases.Printing.{separator_of}
use Rattle.ir_printer.proofs.OnPhrases.Printing.{prints_same}
use Rattle.ir_printer.proofs.OnInstructions.Chained.{spaced, touching}
use Rattle.ir_printer.proofs.alias.put_alias.Goals as goal

pub returns : goal.returns
returns g c =
    let a = c.args.arena.now in
    let x = alias_view (trees a.table) (name_at a) c.args.alias.now in
    let behind = separator_of c.args.behind in
    let linkage : Phrase = linkage_phrase x.linkage in
    let kind_word : Phrase = word (codes "alias") in
    let ty : Phrase = alias_type x.ty in
    let address : Phrase = word (codes "ptr") in
    let target : Phrase = global x.target in
    spaced (global x.name) (mark (codes "=") ␣ linkage ␣ kind_word ␣ ty ⌢ comma ␣ address ␣ target) behind c.put_global.ensures
    (spaced (mark (codes "=")) (linkage ␣ kind_word ␣ ty ⌢ comma ␣ address ␣ target) behind (c.put_token.ensures kind.Punctuation)
    (spaced linkage (kind_word ␣ ty ⌢ comma ␣ address ␣ target) behind c.put_linkage.ensures
    (spaced kind_word (ty ⌢ comma ␣ address ␣ target) behind (c.put_token-2.ensures kind.Word)
    (touching ty (comma ␣ address ␣ target) behind (prints_same (ap (λ (ts : Types). alias_type (alias_type_view (trees ts) c.args.alias.now.ty) Nothing) c.types.ensures) c.put_alias_type.ensures)
    (spaced comma (address ␣ target) behind (c.put_token-3.ensures kind.Punctuation)
    (spaced address target behind (c.put_token-4.ensures kind.Word) c.put_target_name.ensures))))))
