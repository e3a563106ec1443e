use Rattle.std.proofs.Common.{codes, ap}
use Rattle.ir_lexer.specs.declared.token.TokenKind.TheVariants as kind
use Rattle.type_table.specs.Types.{trees}
use Rattle.module_arena.specs.View.{constants_of, variable_view}
use Rattle.canonical.specs.Canonical.{variable_linkage, global_or_constant, initialised}
use Rattle.canonical.specs.Names.{global}
use Rattle.canonical.specs.Operations.{aligned}
use Rattle.canonical.specs.Phrase.{Phrase, mark, ◌␣◌}
use Rattle.ir_printer.specs.Phrases.Printing.{separator_of}
use Rattle.ir_printer.proofs.OnPhrases.Printing.{prints_same}
use Rattle.ir_printer.proofs.OnInstructions.Chained.{spaced, aligned_put}
use Rattle.ir_printer.proofs.variable.put_variable.Goals as goal

pub returns : goal.returns
returns g c =
    let a = c.args.arena.now in
    let v = variable_view (trees a.table) (constants_of a) c.args.variable.now in
    let behind = separator_of c.args.behind in
    let linkage : Phrase = variable_linkage v.initialiser v.linkage in
    let constness : Phrase = global_or_constant v.constant in
    let value : Phrase = initialised v.ty v.initialiser in
    let rest : Phrase = aligned value v.alignment in
    spaced (global v.name) (mark (codes "=") ␣ linkage ␣ constness ␣ rest) behind c.put_global.ensures
    (spaced (mark (codes "=")) (linkage ␣ constness ␣ rest) behind (c.put_token.ensures kind.Punctuation)
    (spaced linkage (constness ␣ rest) behind c.put_variable_linkage.ensures
    (spaced constness rest behind c.put_constness.ensures
    (aligned_put value v.alignment behind (prints_same (ap value c.before_alignment.ensures) c.put_initialised.ensures) c.put_alignment.ensures))))
