use Rattle.ir_terminals.proofs.RowsRead.{reads_integer}
use Rattle.ir_phrases.proofs.instructions.parts.indices.Goals as goal

pub more_parts-requires-clause-reads : goal.more_parts-requires-clause-reads
more_parts-requires-clause-reads c = λ limits. reads_integer
