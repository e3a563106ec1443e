use Rattle.ir_lexer.proofs.Plain.{digits_length, digits_next}
use Rattle.ir_lexer.proofs.front.plain_digits.Goals as goal

pub is_ended_word-requires : goal.is_ended_word-requires
is_ended_word-requires c = digits_length c.args.text.now _ c.requires.begins c.run_of-word.ensures.count

pub returns : goal.returns
returns c =
    let s = c.args.text.now in
    let size = digits_length s _ c.requires.begins c.run_of-word.ensures.count in
    digits_next s _ _ c.requires.begins size (c.is_ended_word.ensures.known c.if-not-is_ended_word.false) c.run_of-count.ensures.count
