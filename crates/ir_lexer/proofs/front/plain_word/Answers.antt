use Rattle.ir_lexer.proofs.Plain.{ended_no_quote, word_length, word_next}
use Rattle.ir_lexer.proofs.front.plain_word.Goals as goal

pub is_ended_word-requires : goal.is_ended_word-requires
is_ended_word-requires c = word_length c.args.text.now c.run_of-word.result c.requires.begins c.run_of-word.ensures.count

pub returns : goal.returns
returns c =
    let s = c.args.text.now in
    let size = word_length s c.run_of-word.result c.requires.begins c.run_of-word.ensures.count in
    let no_quote = ended_no_quote s _ c.requires.begins size (c.is_ended_word.ensures.ends c.if-not-is_ended_word.false) in
    word_next s _ c.requires.begins no_quote size (c.is_ended_word.ensures.known c.if-not-is_ended_word.false)
