use Rattle.run_names.proofs.OnValues.Alone.{stored_alone}
use Rattle.run_names.proofs.values.store.store_integer.Goals as goal

pub returns-clause-stored : goal.returns-clause-stored
returns-clause-stored c = λ done.
    stored_alone c.args.memory.now c.store_plain.new.self c.args.pointer c.behind.result c.args.align c.offset.result c.args.count c.args.number c.args.slot c.offset.ensures c.behind.ensures
    c.requires.leaf (c.store_plain.ensures.stored done)
