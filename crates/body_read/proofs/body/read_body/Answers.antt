use Rattle.std.proofs.Common.{subst}
use Rattle.std.proofs.lemmas.Result.{err_from_is_err_and}
use Rattle.body_read.proofs.OnBlocks.Closing.{when_ok}
use Rattle.body_read.specs.Whole.{Closes, IsWhole}
use Rattle.body_read.proofs.Closed.{closing}
use Rattle.body_read.proofs.Told.{refused_so}
use Rattle.body_read.proofs.body.read_body.Goals as goal

pub returns-in_err-read_records-clause-answers : goal.returns-in_err-read_records-clause-answers
returns-in_err-read_records-clause-answers c = λ inside others k before outside counts.
    let p = err_from_is_err_and c.from_residual.result c.from_residual.ensures.1 in
    rw (p.1, p.2) (refused_so (IsWhole k c.args.parameters c.args.m.now c.read_records.new.m) _ _ (c.in_err-read_records.ensures.reads inside others k before outside counts))

pub returns-clause-unspent : goal.returns-clause-unspent
returns-clause-unspent c = when_ok c.closed.result c.in_ok-read_records.ensures.unspent

pub returns-clause-nearer : goal.returns-clause-nearer
returns-clause-nearer c = when_ok c.closed.result c.in_ok-read_records.ensures.nearer

pub returns-clause-behind : goal.returns-clause-behind
returns-clause-behind c = λ inside others before. when_ok c.closed.result (c.in_ok-read_records.ensures.behind inside others before)

pub returns-clause-keeps : goal.returns-clause-keeps
returns-clause-keeps c = when_ok c.closed.result c.in_ok-read_records.ensures.keeps

pub returns-clause-answers : goal.returns-clause-answers
returns-clause-answers c = λ inside others k before outside counts.
    let read = c.in_ok-read_records.ensures in
    closing c.args.texts.now k c.args.parameters inside c.args.m.now c.read_records.new.m c.read_records.new.body (read.reads inside others k before outside counts) c.closed.result read.keeps counts c.fit.ensures
    (subst (λ n. Closes c.read_records.new.body n c.closed.result) c.at.ensures c.closed.ensures)
