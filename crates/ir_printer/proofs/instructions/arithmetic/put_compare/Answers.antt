use Rattle.std.proofs.Common.{ℕ, List, ap, ◌∙◌}
use Rattle.ir_lexer.specs.Pieces.{Space}
use Rattle.ir_lexer.specs.declared.token.TokenKind.TheVariants as kind
use Rattle.ir_tables.specs.Predicate.{predicate_word}
use Rattle.ir_tables.specs.declared.opcode.Opcode.TheVariants as op
use Rattle.canonical.specs.Phrase.{Phrase, token, word, ◌␣◌}
use Rattle.canonical.specs.Constants.{opcode, flags_phrase}
use Rattle.ir_printer.specs.Phrases.Printing.{separator_of}
use Rattle.ir_printer.proofs.OnPhrases.Printing.{prints_same}
use Rattle.ir_printer.specs.Instructions.Parts.{pair}
use Rattle.ir_printer.proofs.OnInstructions.Chained.{spaced}
use Rattle.ir_printer.proofs.instructions.arithmetic.put_compare.Goals as goal

pub returns : goal.returns
returns g c =
    let a = c.args.arena.now in
    let f = c.args.function.now in
    let behind = separator_of c.args.behind in
    let both : Phrase = pair a f c.args.left c.args.right in
    let predicate : Phrase = word (predicate_word c.args.predicate) in
    spaced (opcode op.ICmp) (flags_phrase c.args.flags ␣ predicate ␣ both) behind c.put_opcode.ensures
    (spaced (flags_phrase c.args.flags) (predicate ␣ both) behind c.put_flags.ensures
    (spaced predicate both behind
    (prints_same (ap (λ (s : List ℕ). token kind.Word s Space) (c.as_bytes.ensures.value ∙ c.word.ensures)) (c.put_token.ensures kind.Word)) c.put_pair.ensures))
