use Rattle.std.proofs.Common.{◌∙◌, Some, None, true, refl, ap, subst}
use Rattle.std.proofs.lemmas.Result.{err_from_is_err_and}
use Rattle.record_table.specs.Bodies as bodies
use Rattle.record_table.specs.Layout.{judged}
use Rattle.record_table.specs.Lines.{ending}
use Rattle.record_table.specs.Walk.{told}
use Rattle.record_read.specs.Reader.{Reader, IsBroken}
use Rattle.type_read.specs.declared.arena.module_reader.ModuleReader.{ModuleReader}
use Rattle.type_read.proofs.OnArena.Kept.{grows_self}
use Rattle.body_read.specs.Endings.Ends.{ReadsEnding}
use Rattle.record_law.proofs.OnLabels.Kept.{due_line}
use Rattle.body_read.proofs.OnBlocks.Closing.{closes, out_of_memory, told_broken, told_unbroken, when_ok}
use Rattle.body_read.proofs.OnBlocks.Ended.{ended_body, passes_by}
use Rattle.body_read.proofs.blocks.records.read_end.Goals as goal

pub returns-in_err-ending-clause-reads : goal.returns-in_err-ending-clause-reads
returns-in_err-ending-clause-reads c = λ k count numbers s operands front place follows.
    let p = err_from_is_err_and c.from_residual.result c.from_residual.ensures.1 in
    rw p.1 (out_of_memory _ _ p.0 p.2)

pub returns-in_ok-end-in-Some-clause-reads : goal.returns-in_ok-end-in-Some-clause-reads
returns-in_ok-end-in-Some-clause-reads c = λ k count numbers s operands front place follows.
    let old = c.args.m.now in
    let new = c.read_ending.new.m in
    let o = c.args.opcode in
    let reads : ReadsEnding o old new (Some c.in-Some.ending) = subst (ReadsEnding o old new) c.in-Some.is c.in_ok-ending.ensures in
    let told_is = ap told (reads.reads.walk k numbers ∙ ap (λ w. ((ending k o).read w).1) front) in
    let five = c.is_line.ensures ∙ ap bodies.is_line follows.due_is in
    closes _ s.at new.reader new.reader c.also.new.self true true c.is_line.result (bodies.is_line s.due) (judged (ending k o) operands).1 _ c.finish.result
    (ap (λ (x : ModuleReader). x.reader.at) reads.reads.goes.rest ∙ place) refl c.also.ensures five refl told_is c.finish.ensures.told
    (λ unbroken four may.
    ended_body k count old new c.args.body.now c.end.new.self o c.in-Some.ending s operands front follows reads (due_line s.due may) c.in_ok-end-in-Some.ensures c.finish.new.self
    (c.finish.ensures.spent ∙ ap (λ (r : Reader). r.spent) c.also.ensures) (c.finish.ensures.left ∙ ap (λ (r : Reader). r.left) c.also.ensures) (c.finish.ensures.at ∙ ap (λ (r : Reader). r.at) c.also.ensures)
    numbers (told_unbroken new.reader.walk (told_is ∙ unbroken)))

pub returns-in-None-clause-reads : goal.returns-in-None-clause-reads
returns-in-None-clause-reads c = λ k count numbers s operands front place follows.
    let old = c.args.m.now in
    let new = c.read_ending.new.m in
    let o = c.args.opcode in
    let reads : ReadsEnding o old new None = subst (ReadsEnding o old new) c.in-None.is c.in_ok-ending.ensures in
    let told_is = ap told (reads.reads.walk k numbers ∙ ap (λ w. ((ending k o).read w).1) front) in
    let five = c.is_line.ensures ∙ ap bodies.is_line follows.due_is in
    let broken : IsBroken new.reader.walk = reads.reads.there new.growing (grows_self new.growing) in
    closes _ s.at new.reader new.reader c.also.new.self true true c.is_line.result (bodies.is_line s.due) (judged (ending k o) operands).1 _ c.finish-in-None.result
    (ap (λ (x : ModuleReader). x.reader.at) reads.reads.goes.rest ∙ place) refl c.also.ensures five refl told_is c.finish-in-None.ensures.told
    (λ unbroken four may. absurd (told_broken new.reader.walk broken (told_is ∙ unbroken)))

pub returns-in_ok-end-in-Some-clause-passes : goal.returns-in_ok-end-in-Some-clause-passes
returns-in_ok-end-in-Some-clause-passes c =
    when_ok c.finish.result (passes_by c.args.m.now c.read_ending.new.m c.finish.new.self c.in_ok-ending.ensures.reads.goes
    (c.finish.ensures.spent ∙ ap (λ (r : Reader). r.spent) c.also.ensures)
    (c.finish.ensures.left ∙ ap (λ (r : Reader). r.left) c.also.ensures)
    (c.finish.ensures.at ∙ ap (λ (r : Reader). r.at) c.also.ensures))

pub returns-in-None-clause-passes : goal.returns-in-None-clause-passes
returns-in-None-clause-passes c =
    when_ok c.finish-in-None.result (passes_by c.args.m.now c.read_ending.new.m c.finish-in-None.new.self c.in_ok-ending.ensures.reads.goes
    (c.finish-in-None.ensures.spent ∙ ap (λ (r : Reader). r.spent) c.also.ensures)
    (c.finish-in-None.ensures.left ∙ ap (λ (r : Reader). r.left) c.also.ensures)
    (c.finish-in-None.ensures.at ∙ ap (λ (r : Reader). r.at) c.also.ensures))
