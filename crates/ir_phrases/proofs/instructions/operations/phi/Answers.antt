use Rattle.ir_phrases.proofs.OnInstructions.OperationsGrammar.{reads_incoming}
use Rattle.ir_phrases.proofs.instructions.operations.phi.Goals as goal

pub more_parts-requires-clause-reads : goal.more_parts-requires-clause-reads
more_parts-requires-clause-reads c = reads_incoming
