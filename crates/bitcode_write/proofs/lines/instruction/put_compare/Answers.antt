use Rattle.std.proofs.Common.{◌∷◌, []}
use Rattle.ir_tables.specs.Predicate.{predicate_code}
use Rattle.record_write.proofs.OnOperands.Chain.{last2}
use Rattle.bitcode_write.specs.Lines.Parts.{both_operands}
use Rattle.bitcode_write.proofs.lines.instruction.put_compare.Goals as goal

pub returns : goal.returns
returns c = λ f body left right. last2 _ _ (predicate_code c.args.predicate ∷ []) (both_operands c.args.numbering.now f c.args.left c.args.right) _ _ c.in_ok-put_predicate.ensures (c.put_both.ensures f body left right)
