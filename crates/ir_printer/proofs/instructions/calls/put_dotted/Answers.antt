use Rattle.std.proofs.Common.{ℕ, ap, arith}
use Rattle.ir_lexer.specs.Pieces.{Nothing}
use Rattle.ir_lexer.specs.declared.token.TokenKind.TheVariants as kind
use Rattle.type_table.specs.Types.{tree}
use Rattle.canonical.specs.Types.{type_phrase}
use Rattle.ir_printer.proofs.OnPhrases.Printing.{prints_same}
use Rattle.ir_printer.proofs.OnInstructions.Dotted.{dotted_more, dotted_end}
use Rattle.ir_printer.proofs.instructions.calls.put_dotted.Goals as goal

pub parts-preserved : goal.parts-preserved
parts-preserved g c = λ now h.
    c.parts.invariant now (dotted_more c.args.types.now c.args.parts.now c.parts.part-index c.part-item.result c.parts-test.true
    (prints_same (ap (λ (x : ℕ). type_phrase (tree c.args.types.now x) Nothing) c.part-item.is) c.put_type.ensures) (c.put_token.ensures kind.Punctuation) h)

pub returns : goal.returns
returns g c = c.parts.invariant _ (dotted_end c.args.types.now c.args.parts.now c.parts.part-index (omega arith) (c.put_token-2.ensures kind.Punctuation))
