use Rattle.std.proofs.Common.{refl}
use Rattle.std.proofs.lemmas.Bool.{eq-eqb, ne_eqb}
use Rattle.record_read.proofs.opening.entering.enter_module.Goals as goal

pub returns-then-id-eq-MODULE_BLOCK : goal.returns-then-id-eq-MODULE_BLOCK
returns-then-id-eq-MODULE_BLOCK c = rw c.in-Block.is (eq-eqb c.in-Block.id 8 c.if-id-eq-MODULE_BLOCK.true)

pub returns-else-id-eq-MODULE_BLOCK : goal.returns-else-id-eq-MODULE_BLOCK
returns-else-id-eq-MODULE_BLOCK c = rw c.in-Block.is (ne_eqb c.in-Block.id 8 c.if-id-eq-MODULE_BLOCK.false, c.misplaced.ensures)

pub returns-in-Record : goal.returns-in-Record
returns-in-Record c = rw c.in-Record.is refl

pub returns-in-End : goal.returns-in-End
returns-in-End c = rw c.in-End.is refl
