use Rattle.record_write.proofs.OnOrder.Gathering.{texts_held}
use Rattle.record_write.proofs.order.gathered.text_table.Goals as goal

pub returns : goal.returns
returns c =
    texts_held c.args.arena.now c.source.ensures c.data_layout.ensures c.triple.ensures c.types.ensures c.new-table.ensures c.in_ok-add_text.ensures c.in_ok-add_text-2.ensures c.in_ok-add_text-3.ensures
    c.in_ok-add_structs.ensures c.in_ok-add_variables.ensures c.in_ok-add_functions.ensures c.in_ok-add_aliases.ensures c.in_ok-add_bodies.ensures
