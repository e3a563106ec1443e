use Rattle.bit_tree.proofs.OnStarts.Views.{given_is}
use Rattle.bit_tree.proofs.starts.given.Given.give.Goals as goal

pub returns-clause-given : goal.returns-clause-given
returns-clause-given c =
    given_is c.args.self.now c.settle.new.self c.self.inside.sorted.items c.self.inside.recent.items c.as_slice.result.now c.insert.new.self.items c.count_through-place.result c.args.id c.args.start c.new.result c.settle.ensures c.self.view_is
    c.as_slice.ensures.value c.new.ensures.id c.new.ensures.start c.count_through-place.ensures.point.1 c.in_ok-insert.ensures.items
