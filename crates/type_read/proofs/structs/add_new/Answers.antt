use Rattle.type_table.specs.Types.{names}
use Rattle.type_read.proofs.Named.{any_contains, none_contains}
use Rattle.type_read.proofs.structs.add_new.Goals as goal

-- it is new, since it was not refused
pub returns-in-Ok : goal.returns-in-Ok
returns-in-Ok c = (none_contains (names c.args.arena.now.table) c.args.name (λ there. let never = c.in-Ok.ensures.duplicate.1 there in cc), c.in-Ok.ensures.ok)

-- it is there: the table tells so
pub returns-in-Err-Duplicate : goal.returns-in-Err-Duplicate
returns-in-Err-Duplicate c = (any_contains (names c.args.arena.now.table) c.args.name (c.in-Err-Duplicate.ensures.duplicate.0 (cc)), c.in-Err-Duplicate.ensures.err)
