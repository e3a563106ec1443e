use Rattle.name_judge.proofs.OnLocals.Calls.{number_called}
use Rattle.name_judge.proofs.locals.called.CalledNames.call_so.Goals as goal

pub returns-in-None : goal.returns-in-None
returns-in-None c = rw c.in-None.is c.call_next.ensures

pub returns-in-Some-Named : goal.returns-in-Some-Named
returns-in-Some-Named c =
    let named = rw c.in-Some-Named.is at c.in-Some-Named.field-0-is in
    rw (c.in-Some-Named.is, named) c.call_name.ensures

pub returns-in_ok-check_number-in-Some-Numbered : goal.returns-in_ok-check_number-in-Some-Numbered
returns-in_ok-check_number-in-Some-Numbered c =
    let numbered = rw c.in-Some-Numbered.is at c.in-Some-Numbered.field-0-is in
    rw (c.in-Some-Numbered.is, numbered) (number_called _ _ _ _ _ c.in_ok-check_number-in-Some-Numbered.ensures c.call_next-in-Some-Numbered.ensures)
