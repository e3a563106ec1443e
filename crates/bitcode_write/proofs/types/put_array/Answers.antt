use Rattle.std.proofs.Common.{◌∷◌, []}
use Rattle.record_table.specs.Fields.{ty}
use Rattle.record_write.proofs.OnOperands.Chain.{last2}
use Rattle.record_write.specs.Operands.Numbered.{indices}
use Rattle.type_table.specs.Types.{tree}
use Rattle.bitcode_write.proofs.types.put_array.Goals as goal

pub returns : goal.returns
returns c =
    let a = c.args.numbering.now in
    last2 _ _ (c.args.count ∷ []) ((ty (indices a)).spell (tree a.table c.args.element)) _ _
    c.in_ok-put_number.ensures c.put_type.ensures
