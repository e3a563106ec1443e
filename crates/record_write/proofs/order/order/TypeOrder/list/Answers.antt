use Rattle.type_table.specs.Types.{tree}
use Rattle.std.proofs.Common.{sym, ◌∙◌}
use Rattle.record_write.proofs.OnOrder.Noting.{adds_known, adds_new}
use Rattle.record_write.proofs.order.order.TypeOrder.list.Goals as goal

pub returns-then-has : goal.returns-then-has
returns-then-has c = adds_known c.args.self.now (tree c.args.self.now.types c.args.ty) (sym c.has.ensures.has ∙ c.if-has.true)

pub put-requires : goal.put-requires
put-requires c = record { ty = c.requires.ty; parts = c.requires.parts; new = sym c.has.ensures.has ∙ c.if-has.false }

pub returns : goal.returns
returns c = adds_new c.args.self.now _ c.args.ty (sym c.has.ensures.has ∙ c.if-has.false) c.in_ok-put.ensures
