use Rattle.ir_printer.proofs.OnInstructions.Cases.{cases_more, cases_end}
use Rattle.ir_printer.proofs.instructions.endings.put_cases.Goals as goal

pub parts-preserved : goal.parts-preserved
parts-preserved g c = λ now h.
    c.parts.invariant now (cases_more c.args.arena.now c.args.function.now c.args.cases.now c.parts.place c.index-cases-place.result c.parts-test.true c.index-cases-place.is c.put_case.ensures h)

pub returns : goal.returns
returns g c = c.parts.invariant _ (cases_end c.args.arena.now c.args.function.now c.args.cases.now c.parts.place _ c.parts-test.false)
