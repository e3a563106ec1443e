use Rattle.ir_phrases.proofs.OnConstants.Grammar.{reads_typed_value}
use Rattle.ir_phrases.proofs.instructions.parts.operand_list.Goals as goal

pub more_parts-requires-clause-reads : goal.more_parts-requires-clause-reads
more_parts-requires-clause-reads c = reads_typed_value
