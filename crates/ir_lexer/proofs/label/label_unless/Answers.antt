use Rattle.ir_lexer.proofs.KnownRuns.{no_label_known}
use Rattle.ir_lexer.proofs.label.label_unless.Goals as goal

pub returns-then-known-gt0-clause-length : goal.returns-then-known-gt0-clause-length
returns-then-known-gt0-clause-length c = no_label_known c.args.known c.args.text.now c.requires.some c.requires.known c.if-known-gt0.true
