use Rattle.std.proofs.Common.{◌≡◌, false, nat_eq, Some, None, refl, sym, ◌∙◌}
use Rattle.std.proofs.lemmas.Bool.{ne_eqb}
use Rattle.record_read.specs.Fields.{texts_of}
use Rattle.body_read.proofs.Told.{as_block, as_opcode, as_parameters}
use Rattle.body_read.proofs.records.read_record.Goals as goal

pub returns-then-code-eq-PARAMETERS-clause-reads : goal.returns-then-code-eq-PARAMETERS-clause-reads
returns-then-code-eq-PARAMETERS-clause-reads c = λ k numbers s operands front place follows counted.
    as_parameters _ (texts_of c.args.texts.now) k c.args.parameters s c.args.code operands c.read_parameters.result c.if-code-eq-PARAMETERS.true (c.read_parameters.ensures.reads k numbers s operands front place follows)

pub returns-then-code-eq-BLOCK-clause-reads : goal.returns-then-code-eq-BLOCK-clause-reads
returns-then-code-eq-BLOCK-clause-reads c = λ k numbers s operands front place follows counted.
    as_block _ (texts_of c.args.texts.now) k c.args.parameters s c.args.code operands c.read_block.result c.if-code-eq-BLOCK.true (c.read_block.ensures.reads k c.args.parameters numbers s operands front place follows)

pub returns-in-Some-clause-reads : goal.returns-in-Some-clause-reads
returns-in-Some-clause-reads c = λ k numbers s operands front place follows counted.
    let one : nat_eq c.args.code 1 ≡ false = ne_eqb c.args.code 1 c.if-code-eq-PARAMETERS.false in
    let two : nat_eq c.args.code 2 ≡ false = ne_eqb c.args.code 2 c.if-code-eq-BLOCK.false in
    let is = sym c.opcode_of-found.ensures ∙ c.in-Some.is in
    as_opcode _ (texts_of c.args.texts.now) k c.args.parameters s c.args.code operands c.read_opcode.result (Some c.in-Some.opcode) one two is
    (c.read_opcode.ensures.reads k c.args.parameters numbers s c.args.code operands front place follows (counted c.in-Some.opcode two is))

pub returns-in-None-clause-reads : goal.returns-in-None-clause-reads
returns-in-None-clause-reads c = λ k numbers s operands front place follows counted.
    let one : nat_eq c.args.code 1 ≡ false = ne_eqb c.args.code 1 c.if-code-eq-PARAMETERS.false in
    let two : nat_eq c.args.code 2 ≡ false = ne_eqb c.args.code 2 c.if-code-eq-BLOCK.false in
    let is = sym c.opcode_of-found.ensures ∙ c.in-None.is in
    as_opcode _ (texts_of c.args.texts.now) k c.args.parameters s c.args.code operands _ None one two is refl
