use Rattle.std.proofs.Common.{◌∙◌, ap, subst}
use Rattle.std.proofs.lemmas.Result.{err_from_is_err_and}
use Rattle.record_table.specs.Bodies as bodies
use Rattle.record_table.specs.Layout.{judged}
use Rattle.record_table.specs.Lines.{instruction}
use Rattle.record_read.specs.Fields.{texts_of}
use Rattle.record_read.specs.Reader.{Reader}
use Rattle.type_read.specs.declared.arena.module_reader.ModuleReader.{ModuleReader}
use Rattle.body_read.specs.Calls.Calls.{ReadsLine}
use Rattle.record_law.proofs.OnLabels.Kept.{due_line}
use Rattle.body_read.proofs.OnBlocks.Closing.{closes, out_of_memory, when_ok}
use Rattle.body_read.proofs.OnBlocks.Ended.{passes_by}
use Rattle.body_read.proofs.OnBlocks.Lined.{line_added, line_same, line_told}
use Rattle.body_read.proofs.blocks.records.read_line.Goals as goal

pub returns-in_err-line-clause-reads : goal.returns-in_err-line-clause-reads
returns-in_err-line-clause-reads c = λ k count numbers s operands front place follows counted.
    let p = err_from_is_err_and c.from_residual.result c.from_residual.ensures.1 in
    rw p.1 (out_of_memory _ _ p.0 p.2)

pub returns-in_err-is_new-clause-reads : goal.returns-in_err-is_new-clause-reads
returns-in_err-is_new-clause-reads c = λ k count numbers s operands front place follows counted.
    let p = err_from_is_err_and c.from_residual-in_err-is_new.result c.from_residual-in_err-is_new.ensures.1 in
    rw p.1 (out_of_memory _ _ p.0 p.2)

pub returns-in_err-add-clause-reads : goal.returns-in_err-add-clause-reads
returns-in_err-add-clause-reads c = λ k count numbers s operands front place follows counted.
    let p = err_from_is_err_and c.from_residual-in_err-add.result c.from_residual-in_err-add.ensures.1 in
    rw p.1 (out_of_memory _ _ p.0 p.2)

pub returns-clause-reads : goal.returns-clause-reads
returns-clause-reads c = λ k count numbers s operands front place follows counted.
    let a = c.args.m.now in
    let b = c.read_instruction.new.m in
    let x = c.args.texts.now in
    let o = c.args.opcode in
    let before = c.args.body.now in
    let named = c.call_kept.new.names in
    let line = c.in_ok-line.line in
    let is_new = c.in_ok-is_new.is_new in
    let reads = subst (λ d. ReadsLine (texts_of x) d before.names.own o a b line) c.new-defined.ensures c.in_ok-line.ensures in
    let read = judged (instruction (texts_of x) k s.own o) operands in
    let four = line_told x k count a b before named o line.name line.instruction is_new s operands front follows numbers reads c.in_ok-is_new.ensures in
    let told_is = line_same x k count a b before named o line.name line.instruction is_new s operands front follows numbers reads c.in_ok-is_new.ensures in
    let five = c.is_line.ensures ∙ ap bodies.is_line follows.due_is in
    closes _ s.at b.reader c.also.new.self c.also-2.new.self is_new (bodies.are_new s.taken (bodies.results read.0.result)) c.is_line.result (bodies.is_line s.due) read.1 _ c.finish.result
    (ap (λ (y : ModuleReader). y.reader.at) reads.reads.goes.rest ∙ place) c.also.ensures c.also-2.ensures five four told_is c.finish.ensures.told
    (λ unbroken new may.
    line_added x k count a b before named o line.name line.instruction is_new s operands front follows numbers reads c.in_ok-is_new.ensures (due_line s.due may) unbroken c.add.new.self c.in_ok-add.ensures.line counted
    c.finish.new.self (c.finish.ensures.spent ∙ (ap (λ (r : Reader). r.spent) c.also-2.ensures ∙ ap (λ (r : Reader). r.spent) c.also.ensures))
    (c.finish.ensures.left ∙ (ap (λ (r : Reader). r.left) c.also-2.ensures ∙ ap (λ (r : Reader). r.left) c.also.ensures)) (c.finish.ensures.at ∙ (ap (λ (r : Reader). r.at) c.also-2.ensures ∙ ap (λ (r : Reader). r.at) c.also.ensures)))

pub returns-clause-passes : goal.returns-clause-passes
returns-clause-passes c =
    when_ok c.finish.result (passes_by c.args.m.now c.read_instruction.new.m c.finish.new.self c.in_ok-line.ensures.reads.goes
    (c.finish.ensures.spent ∙ (ap (λ (r : Reader). r.spent) c.also-2.ensures ∙ ap (λ (r : Reader). r.spent) c.also.ensures))
    (c.finish.ensures.left ∙ (ap (λ (r : Reader). r.left) c.also-2.ensures ∙ ap (λ (r : Reader). r.left) c.also.ensures))
    (c.finish.ensures.at ∙ (ap (λ (r : Reader). r.at) c.also-2.ensures ∙ ap (λ (r : Reader). r.at) c.also.ensures)))
