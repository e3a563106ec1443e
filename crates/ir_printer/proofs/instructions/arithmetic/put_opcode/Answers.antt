use Rattle.std.proofs.Common.{ℕ, List, ap, ◌∙◌}
use Rattle.ir_lexer.specs.Pieces.{Space}
use Rattle.ir_lexer.specs.declared.token.TokenKind.TheVariants as kind
use Rattle.canonical.specs.Phrase.{token}
use Rattle.ir_printer.proofs.OnPhrases.Printing.{prints_same}
use Rattle.ir_printer.proofs.instructions.arithmetic.put_opcode.Goals as goal

pub returns : goal.returns
returns g c = prints_same (ap (λ (s : List ℕ). token kind.Word s Space) (c.as_bytes.ensures.value ∙ c.word.ensures)) (c.put_token.ensures kind.Word)
