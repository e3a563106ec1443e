use Rattle.ir_lexer.specs.Pieces.{Space}
use Rattle.ir_lexer.specs.declared.token.TokenKind.TheVariants as kind
use Rattle.type_table.specs.Types.{tree}
use Rattle.module_arena.specs.View.{constants_of, constant_at}
use Rattle.canonical.specs.Phrase.{Phrase, comma, ◌␣◌}
use Rattle.canonical.specs.Constants.{typed_constant}
use Rattle.canonical.specs.Instructions.{target}
use Rattle.ir_printer.specs.Instructions.Named.{label_of}
use Rattle.ir_printer.proofs.OnInstructions.Chained.{spaced, touching}
use Rattle.ir_printer.proofs.instructions.endings.put_case.Goals as goal

pub returns : goal.returns
returns g c =
    let a = c.args.arena.now in
    let f = c.args.function.now in
    let written : Phrase = typed_constant (tree a.table c.args.ty_and_value.ty) (constant_at (constants_of a) c.args.ty_and_value.value) in
    let to : Phrase = target (label_of a f c.args.target) in
    touching written (comma ␣ to) Space c.put_typed.ensures (spaced comma to Space (c.put_token.ensures kind.Punctuation) (c.put_target.ensures a))
