use Rattle.record_law.proofs.OnLabels.Ahead.{all_read, first_ahead}
use Rattle.record_table.specs.Bodies.{at_first, labels}
use Rattle.record_law.proofs.labels.laws.labels_are_those_read.Goals as goal

pub returns : goal.returns
returns c = λ texts k count at inside s sound e.
    let all = labels texts k count inside in
    all_read texts k count sound all all.values all.blocks (at_first at) s inside (first_ahead texts k count at inside) e
