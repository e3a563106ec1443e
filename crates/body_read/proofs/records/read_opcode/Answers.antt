use Rattle.std.proofs.Common.{◌≡◌, true, false, sym, ◌∙◌}
use Rattle.record_table.specs.Lines.{is_end}
use Rattle.record_read.specs.Fields.{texts_of}
use Rattle.body_read.proofs.Told.{as_end, as_instruction}
use Rattle.body_read.proofs.records.read_opcode.Goals as goal

pub returns-then-is_end-clause-reads : goal.returns-then-is_end-clause-reads
returns-then-is_end-clause-reads c = λ k count numbers s code operands front place follows counted.
    let end : is_end c.args.opcode ≡ true = sym c.is_end.ensures ∙ c.if-is_end.true in
    as_end _ (texts_of c.args.texts.now) k count s code operands c.read_end.result c.args.opcode end (c.read_end.ensures.reads k count numbers s operands front place follows)

pub returns-else-is_end-clause-reads : goal.returns-else-is_end-clause-reads
returns-else-is_end-clause-reads c = λ k count numbers s code operands front place follows counted.
    let line : is_end c.args.opcode ≡ false = sym c.is_end.ensures ∙ c.if-is_end.false in
    as_instruction _ (texts_of c.args.texts.now) k count s code operands c.read_line.result c.args.opcode line (c.read_line.ensures.reads k count numbers s operands front place follows (counted line))
