use Rattle.std.proofs.Common.{sym, ◌∙◌}
use Rattle.record_read.specs.Fields.{texts_of}
use Rattle.bitcode_read.proofs.OnHead.Gathering.{gathers_first, gathers_other}
use Rattle.bitcode_read.proofs.head.ahead.gather_block.Goals as goal

pub returns-then-is_first-clause-gathers : goal.returns-then-is_first-clause-gathers
returns-then-is_first-clause-gathers c = λ held others before.
    let g = c.in_ok-found.ensures.gathers held others before in
    (gathers_first (texts_of c.args.texts.now) c.args.id held others c.args.had c.args.ahead.now _ c.in_ok-found.found (sym c.is_first_types-is_first.ensures ∙ c.if-is_first.true) g, g.left)

pub returns-clause-gathers : goal.returns-clause-gathers
returns-clause-gathers c = λ held others before.
    (gathers_other (texts_of c.args.texts.now) c.args.id held c.args.had c.args.ahead.now (sym c.is_first_types-is_first.ensures ∙ c.if-is_first.false), c.in_ok-pass_block.ensures.3 held others before)
