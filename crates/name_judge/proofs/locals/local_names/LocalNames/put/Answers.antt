use Rattle.name_judge.proofs.OnLocals.Named.{announces_unnamed, announces_named, announces_numbered}
use Rattle.name_judge.proofs.locals.local_names.LocalNames.put.Goals as goal

pub returns-in-None : goal.returns-in-None
returns-in-None c = rw c.in-None.is (announces_unnamed _ _ _ _ c.put_next.ensures.names c.put_next.ensures.next)

pub returns-in-Some-Named : goal.returns-in-Some-Named
returns-in-Some-Named c =
    let named = rw c.in-Some-Named.is at c.in-Some-Named.field-0-is in
    rw (c.in-Some-Named.is, named) (announces_named _ _ _ _ _ c.put_name.ensures.names c.put_name.ensures.next)

pub returns-in-Some-Numbered : goal.returns-in-Some-Numbered
returns-in-Some-Numbered c =
    let numbered = rw c.in-Some-Numbered.is at c.in-Some-Numbered.field-0-is in
    rw (c.in-Some-Numbered.is, numbered) (announces_numbered _ _ _ _ _ _ c.put_numbers.ensures.names c.put_numbers.ensures.next)
