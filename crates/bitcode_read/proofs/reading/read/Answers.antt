use Rattle.std.proofs.lemmas.Result.{err_from_is_err_and}
use Rattle.bitcode_read.proofs.Verdicts.{alone, container_alone, container_told, spelled, told, well_formed}
use Rattle.bitcode_read.proofs.reading.read.Goals as goal

pub read_judged-requires-clause-judged : goal.read_judged-requires-clause-judged
read_judged-requires-clause-judged c = c.in_ok-judge.ensures

pub returns-clause-spelled : goal.returns-clause-spelled
returns-clause-spelled c = spelled c.args.bytes.now c.read_judged.result c.in_ok-judge.ensures c.read_judged.ensures

pub returns-clause-alone : goal.returns-clause-alone
returns-clause-alone c = alone c.args.bytes.now c.read_judged.result c.read_judged.ensures

pub returns-clause-told : goal.returns-clause-told
returns-clause-told c = told c.args.bytes.now c.read_judged.result c.in_ok-judge.ensures c.read_judged.ensures

pub returns-clause-well_formed : goal.returns-clause-well_formed
returns-clause-well_formed c = well_formed c.args.bytes.now c.read_judged.result c.in_ok-judge.ensures c.read_judged.ensures

pub returns-in_err-judge-clause-alone : goal.returns-in_err-judge-clause-alone
returns-in_err-judge-clause-alone c = λ m s.
    let p = err_from_is_err_and c.from_residual.result c.from_residual.ensures.1 in
    rw p.1 (container_alone c.args.bytes.now _ p.0 p.2 c.in_err-judge.ensures m s)

pub returns-in_err-judge-clause-told : goal.returns-in_err-judge-clause-told
returns-in_err-judge-clause-told c =
    let p = err_from_is_err_and c.from_residual.result c.from_residual.ensures.1 in
    rw p.1 (container_told c.args.bytes.now _ p.0 p.2 c.in_err-judge.ensures)
