use Rattle.std.proofs.Common.{◌++◌, List, codes, map, ap, sym, ◌∙◌}
use Rattle.ir_lexer.specs.Pieces.{Nothing, Space, Line}
use Rattle.ir_lexer.specs.declared.token.TokenKind.TheVariants as kind
use Rattle.type_table.specs.Types.{Types}
use Rattle.module_arena.specs.declared.entry.Block as the_block
use Rattle.module_arena.specs.declared.entry.Parameter.{Parameter}
use Rattle.module_arena.specs.Lists.{function_blocks}
use Rattle.canonical.specs.Canonical.{body_of_blocks}
use Rattle.canonical.specs.Instructions.{blocks_phrase}
use Rattle.canonical.specs.Phrase.{Phrase, word, mark, ◌␣◌, ◌⌢◌, in_parentheses, listed}
use Rattle.ir_printer.specs.Phrases.Printing.{separator_of}
use Rattle.ir_printer.proofs.OnPhrases.Printing.{prints_same, prints_then}
use Rattle.ir_printer.proofs.OnPhrases.Parts.{parentheses_put}
use Rattle.ir_printer.proofs.OnInstructions.Chained.{spaced, touching}
use Rattle.ir_printer.specs.Listed.{head_of, parameter_list}
use Rattle.ir_printer.specs.Blocks.{block_of}
use Rattle.ir_printer.proofs.Bodies.{blocks_are, has_blocks}
use Rattle.ir_printer.proofs.functions.put_definition.Goals as goal

pub returns : goal.returns
returns g c =
    let a = c.args.arena.now in
    let f = c.args.function.now in
    let behind = separator_of c.args.behind in
    let head : Phrase = head_of a.table f in
    let inside : Phrase = listed (parameter_list a.table f.parameters) in
    let bs = map (block_of a f) (function_blocks f) in
    let body : Phrase = body_of_blocks bs in
    spaced (word (codes "define")) (head ⌢ in_parentheses inside ␣ body) behind (c.put_token.ensures kind.Word)
    (touching head (in_parentheses inside ␣ body) behind (prints_same (ap (λ (x : Types). head_of x f Nothing) c.types.ensures) c.put_head.ensures)
    (spaced (in_parentheses inside) body behind
    (parentheses_put inside Space (c.put_token-2.ensures kind.Punctuation)
    (prints_same (ap (λ (x : Types). listed (parameter_list x f.parameters) Nothing) c.types-2.ensures) (prints_same (ap (λ (ps : List Parameter). listed (parameter_list c.types-2.result.now ps) Nothing) c.as_slice-parameters.ensures) c.put_parameters.ensures))
    (c.put_token-3.ensures kind.Punctuation))
    (prints_then (mark (codes "{") Line) (blocks_phrase bs behind ++ mark (codes "}") behind) (c.put_token-4.ensures kind.Punctuation)
    (prints_then (blocks_phrase bs behind) (mark (codes "}") behind)
    (prints_same (ap (λ (xs : List the_block.Block). blocks_phrase (map (block_of a f) xs) behind) (c.as_slice.ensures ∙ sym (blocks_are a f c.args.body.now c.requires.own))) (c.put_blocks.ensures behind))
    (c.put_token-5.ensures kind.Punctuation)))))

pub put_blocks-requires : goal.put_blocks-requires
put_blocks-requires g c = rw c.as_slice.ensures (has_blocks c.args.arena.now c.args.function.now c.args.body.now c.requires.own c.requires.known)
