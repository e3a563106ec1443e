use Rattle.std.proofs.Common.{drop}
use Rattle.ir_base.proofs.Pieces.{rest_whole}
use Rattle.ir_lexer.specs.Label.{KnownRun}
use Rattle.ir_lexer.proofs.lexer.Lexer.run_known.Goals as goal

pub returns-then-is_ended_word-clause-known : goal.returns-then-is_ended_word-clause-known
returns-then-is_ended_word-clause-known c =
    let r = c.self.inside in
    let known : KnownRun c.args.word (drop r.at r.text.now) = rw (rest_whole r.at r.text.now) at (c.is_ended_word.ensures.known c.if-is_ended_word.true) in
    rw (← c.self.view_is) known
