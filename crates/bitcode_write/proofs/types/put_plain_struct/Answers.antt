use Rattle.std.proofs.Common.{flat_map, map, ◌∷◌, []}
use Rattle.record_table.specs.Fields.{bool_code, ty}
use Rattle.record_write.proofs.OnOperands.Chain.{last2}
use Rattle.record_write.specs.Operands.Numbered.{indices}
use Rattle.type_table.specs.Types.{tree}
use Rattle.bitcode_write.proofs.types.put_plain_struct.Goals as goal

pub returns : goal.returns
returns c =
    let a = c.args.numbering.now in
    let fields = flat_map (ty (indices a)).spell (map (tree a.table) c.args.fields.now) in
    last2 _ _ (bool_code c.args.packed ∷ []) fields _ _
    c.in_ok-put_flag.ensures c.put_indices.ensures
