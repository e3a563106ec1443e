use Rattle.run_names.proofs.OnValues.Alone.{loaded_alone}
use Rattle.run_names.proofs.values.load.integer_at.Goals as goal

pub returns : goal.returns
returns c =
    loaded_alone c.args.memory.now c.args.pointer c.behind.result c.args.align c.offset.result c.args.count c.args.slot c.load_plain.result c.offset.ensures c.behind.ensures c.requires.leaf
    c.load_plain.ensures.value
