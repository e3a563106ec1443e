use Rattle.ir_base.proofs.Pieces.{OnErr-anyway, added_more}
use Rattle.run_rules.proofs.OnTraffic.Written.{front_of_first, front_of_second}
use Rattle.run_rules.proofs.traffic.output.write_both.Goals as goal

pub returns-in_err-write_all-clause-front : goal.returns-in_err-write_all-clause-front
returns-in_err-write_all-clause-front g c =
    OnErr-anyway c.from_residual.result (front_of_first _ _ _ _ c.args.bytes.now c.args.behind.now c.write_all.ensures.wrote)

pub returns-in_err-write_all-2-clause-front : goal.returns-in_err-write_all-2-clause-front
returns-in_err-write_all-2-clause-front g c =
    OnErr-anyway c.from_residual-in_err-write_all-2.result
    (front_of_second _ _ _ _ _ c.args.bytes.now c.args.behind.now c.in_ok-write_all.ensures.ok c.write_all-2.ensures.wrote)

pub returns-clause-ok : goal.returns-clause-ok
returns-clause-ok g c =
    added_more _ _ _ c.args.bytes.now c.args.behind.now c.in_ok-write_all.ensures.ok c.in_ok-write_all-2.ensures.ok
