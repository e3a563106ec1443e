use Rattle.std.proofs.Common.{map, ◌∷◌, []}
use Rattle.record_table.specs.Fields.{ty}
use Rattle.record_table.specs.Layout.{counted}
use Rattle.record_write.proofs.OnOperands.Chain.{last2}
use Rattle.record_write.specs.Operands.Numbered.{indices}
use Rattle.type_table.specs.Types.{tree}
use Rattle.bitcode_write.proofs.types.put_fields.Goals as goal

pub returns : goal.returns
returns c =
    let a = c.args.numbering.now in
    let fields = (counted (ty (indices a))).spell (map (tree a.table) c.args.fields.now) in
    last2 _ _ (c.args.code ∷ []) fields _ _
    c.in_ok-put_number.ensures c.put_types.ensures
