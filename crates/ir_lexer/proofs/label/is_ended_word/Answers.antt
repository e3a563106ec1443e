use Rattle.std.proofs.Common.{◌≡◌, ◌<◌, length, get_or, true, drop-cons}
use Rattle.ir_lexer.specs.Class.{byte_class}
use Rattle.ir_lexer.specs.Label.{ends_name}
use Rattle.ir_lexer.proofs.KnownRuns.{word_ended}
use Rattle.ir_lexer.proofs.label.is_ended_word.Goals as goal

pub returns-then-word-text-clause-known : goal.returns-then-word-text-clause-known
returns-then-word-text-clause-known c is =
    let s = c.args.text.now in
    let ends : ends_name (byte_class (get_or s c.args.word 0)) ≡ true = cc in
    word_ended c.args.word s c.requires c.if-word-text.true ends

pub returns-then-word-text-clause-ends : goal.returns-then-word-text-clause-ends
returns-then-word-text-clause-ends c is =
    let s = c.args.text.now in
    let ends : ends_name (byte_class (get_or s c.args.word 0)) ≡ true = cc in
    let some : c.args.word < length s = c.if-word-text.true in
    rw (drop-cons s c.args.word 0 some) ends
