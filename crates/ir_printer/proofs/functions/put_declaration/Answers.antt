use Rattle.std.proofs.Common.{List, codes, map, ap}
use Rattle.ir_lexer.specs.Pieces.{Nothing}
use Rattle.ir_lexer.specs.declared.token.TokenKind.TheVariants as kind
use Rattle.type_table.specs.Types.{Types, tree}
use Rattle.module_arena.specs.declared.entry.Parameter.{Parameter}
use Rattle.canonical.specs.Operations.{dotted}
use Rattle.canonical.specs.Phrase.{Phrase, word, ◌⌢◌, in_parentheses, listed}
use Rattle.canonical.specs.Types.{type_phrase}
use Rattle.ir_printer.specs.Phrases.Printing.{separator_of}
use Rattle.ir_printer.proofs.OnPhrases.Printing.{prints_same}
use Rattle.ir_printer.proofs.OnPhrases.Parts.{parentheses_put}
use Rattle.ir_printer.proofs.OnInstructions.Chained.{spaced, touching}
use Rattle.ir_printer.specs.Listed.{head_of, declared_list}
use Rattle.ir_printer.proofs.functions.put_declaration.Goals as goal

pub returns : goal.returns
returns g c =
    let t = c.args.arena.now.table in
    let f = c.args.function.now in
    let behind = separator_of c.args.behind in
    let head : Phrase = head_of t f in
    let inside : Phrase = listed (dotted (map (λ (p : Parameter). type_phrase (tree t p.ty)) f.parameters) f.variadic) in
    spaced (word (codes "declare")) (head ⌢ in_parentheses inside) behind (c.put_token.ensures kind.Word)
    (touching head (in_parentheses inside) behind (prints_same (ap (λ (x : Types). head_of x f Nothing) c.types.ensures) c.put_head.ensures)
    (parentheses_put inside behind (c.put_token-2.ensures kind.Punctuation)
    (prints_same (ap (λ (x : Types). declared_list x f.parameters f.variadic) c.types-2.ensures) (prints_same (ap (λ (ps : List Parameter). declared_list c.types-2.result.now ps f.variadic) c.as_slice.ensures) c.put_declared.ensures))
    (c.put_token-3.ensures kind.Punctuation)))
