use Rattle.bit_tree.proofs.OnStarts.Views.{count_is}
use Rattle.bit_tree.proofs.starts.given.Given.count.Goals as goal

pub returns-clause-value : goal.returns-clause-value
returns-clause-value c =
    count_is c.args.self.now c.self.inside.sorted.items c.self.inside.recent.items c.as_slice.result.now c.as_slice-2.result.now c.rows_of.result.now c.rows_of-2.result.now c.args.id c.self.view_is c.as_slice.ensures.value c.as_slice-2.ensures.value
    c.rows_of.ensures.starts c.rows_of-2.ensures.starts
