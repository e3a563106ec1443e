use Rattle.std.proofs.Common.{sym}
use Rattle.type_table.specs.Types.{tree}
use Rattle.record_write.proofs.operands.values.put_value_at.Goals as goal

pub returns : goal.returns
returns c = λ f body has. c.put_value.ensures f (tree c.args.numbering.now.table c.args.ty) (sym c.is_wide-wide.ensures) body has
