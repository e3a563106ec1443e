use Rattle.std.proofs.Common.{◌∷◌, [], refl, map}
use Rattle.type_table.specs.Types.{tree}
use Rattle.type_table.specs.Tree.{ptr}
use Rattle.record_table.specs.Fields.{ty, bool_code}
use Rattle.record_table.specs.Layout.{counted}
use Rattle.record_table.specs.Lines as lines
use Rattle.record_write.specs.Operands.Numbered.{inside, operand_of}
use Rattle.record_write.proofs.OnOperands.Chain.{last6}
use Rattle.bitcode_write.specs.Lines.Parts.{type_operands, result_operands, value_operands}
use Rattle.bitcode_write.proofs.lines.call.put_call.Goals as goal

pub returns : goal.returns
returns c = λ body stands.
    let a = c.args.numbering.now in
    let f = c.args.function.now in
    let call = c.args.call.now in
    let ts = map (tree a.table) call.signature.parameters in
    last6 _ _ (type_operands a f call.signature.returns) (result_operands a f call.result) (bool_code call.signature.variadic ∷ []) ((counted (ty (inside a f))).spell ts) (value_operands a f ptr call.callee) ((lines.arguments (inside a f) ts).spell (map (operand_of a f) call.arguments)) _ _ _ _ _ _
    c.in_ok-put_type.ensures c.in_ok-put_name.ensures c.in_ok-put_flag.ensures (rw c.as_slice.ensures at c.in_ok-put_types.ensures) (c.in_ok-put_value.ensures f ptr refl body stands.callee)
    (rw (c.as_slice-2.ensures, c.as_slice-3.ensures) at (c.put_arguments.ensures f body (rw (c.as_slice-2.ensures, c.as_slice-3.ensures) stands.arguments)))
