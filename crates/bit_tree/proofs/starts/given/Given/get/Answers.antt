use Rattle.std.proofs.Common.{◌∙◌}
use Rattle.bit_tree.proofs.OnStarts.Views.{first_got, later_got}
use Rattle.bit_tree.proofs.starts.given.Given.get.Goals as goal

pub returns-then-index-first : goal.returns-then-index-first
returns-then-index-first c =
    c.start_at.ensures ∙ first_got c.args.self.now c.self.inside.sorted.items c.self.inside.recent.items c.as_slice.result.now c.rows_of-first.result.now c.args.id c.args.index c.self.view_is c.as_slice.ensures.value c.rows_of-first.ensures.starts
    c.if-index-first.true

pub returns-else-index-first : goal.returns-else-index-first
returns-else-index-first c =
    c.start_at-else-index-first.ensures ∙ later_got c.args.self.now c.self.inside.sorted.items c.self.inside.recent.items c.as_slice.result.now c.as_slice-else-index-first.result.now c.rows_of-first.result.now c.rows_of.result.now c.args.id c.args.index
    c.self.view_is c.as_slice.ensures.value c.as_slice-else-index-first.ensures.value c.rows_of-first.ensures.starts c.rows_of.ensures.starts c.if-index-first.false
