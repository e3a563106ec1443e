use Rattle.std.proofs.Common.{◌∙◌, [], ◌∷◌, ap, subst}
use Rattle.std.proofs.lemmas.Result.{err_from_is_err_and}
use Rattle.record_table.specs.Bodies as bodies
use Rattle.record_table.specs.Fields.{label}
use Rattle.record_table.specs.Layout.{judged}
use Rattle.record_read.specs.Fields.{IsLocal, texts_of}
use Rattle.record_read.specs.Reader.{Reader, IsBroken, IsKept}
use Rattle.body_read.proofs.OnBlocks.Closing.{closes, out_of_memory, told_broken, when_ok}
use Rattle.body_read.proofs.OnBlocks.Blocked.{block_body, name_told, passes_here, told_same}
use Rattle.body_read.proofs.blocks.records.read_block.Goals as goal

pub returns-in_err-name-clause-reads : goal.returns-in_err-name-clause-reads
returns-in_err-name-clause-reads c = λ k count numbers s operands front place follows.
    let p = err_from_is_err_and c.from_residual.result c.from_residual.ensures.1 in
    rw p.1 (out_of_memory _ _ p.0 p.2)

pub returns-in-Some-clause-reads : goal.returns-in-Some-clause-reads
returns-in-Some-clause-reads c = λ k count numbers s operands front place follows.
    let a = c.args.m.now in
    let x = c.args.texts.now in
    let q = c.read_called.new.reader in
    let read = judged (label (texts_of x) s.own) operands in
    let four = name_told x a q c.args.body.now _ c.in_ok-name.name _ c.in_ok-is_new.is_new s count operands front follows c.in_ok-name.ensures c.as_ref.ensures.value c.in_ok-is_new.ensures in
    let told_is = told_same x a q c.args.body.now _ c.in_ok-name.name _ c.in_ok-is_new.is_new s count operands front follows c.in_ok-name.ensures c.as_ref.ensures.value c.in_ok-is_new.ensures in
    let five = c.is_block.ensures ∙ ap bodies.is_block follows.due_is in
    closes _ s.at q c.also.new.self c.also-2.new.self c.in_ok-is_new.is_new (bodies.are_new s.taken (read.0 ∷ [])) c.is_block.result (bodies.is_block s.due) read.1 _ c.finish.result
    (ap (λ (r : Reader). r.at) c.in_ok-name.ensures.reads.reader ∙ place) c.also.ensures c.also-2.ensures five four told_is c.finish.ensures.told
    (λ unbroken new may.
    block_body x a q c.args.body.now _ c.in_ok-name.name _ c.in_ok-is_new.is_new s count operands front follows c.in_ok-name.ensures c.as_ref.ensures.value c.in_ok-is_new.ensures c.in-Some.name c.in-Some.is may _ c.begin.ensures k
    c.finish.new.self (c.finish.ensures.spent ∙ (ap (λ (r : Reader). r.spent) c.also-2.ensures ∙ ap (λ (r : Reader). r.spent) c.also.ensures))
    (c.finish.ensures.left ∙ (ap (λ (r : Reader). r.left) c.also-2.ensures ∙ ap (λ (r : Reader). r.left) c.also.ensures)) (c.finish.ensures.at ∙ (ap (λ (r : Reader). r.at) c.also-2.ensures ∙ ap (λ (r : Reader). r.at) c.also.ensures)))

pub returns-in-None-clause-reads : goal.returns-in-None-clause-reads
returns-in-None-clause-reads c = λ k count numbers s operands front place follows.
    let a = c.args.m.now in
    let x = c.args.texts.now in
    let q = c.read_called.new.reader in
    let read = judged (label (texts_of x) s.own) operands in
    let four = name_told x a q c.args.body.now _ c.in_ok-name.name _ c.in_ok-is_new.is_new s count operands front follows c.in_ok-name.ensures c.as_ref.ensures.value c.in_ok-is_new.ensures in
    let told_is = told_same x a q c.args.body.now _ c.in_ok-name.name _ c.in_ok-is_new.is_new s count operands front follows c.in_ok-name.ensures c.as_ref.ensures.value c.in_ok-is_new.ensures in
    let five = c.is_block.ensures ∙ ap bodies.is_block follows.due_is in
    let broken : IsBroken q.walk = subst (λ n. IsKept IsLocal n ((label (texts_of x) c.args.body.now.names.own).read a.reader.walk).0 q.walk) c.in-None.is c.in_ok-name.ensures.reads.kept in
    closes _ s.at q c.also.new.self c.also-2.new.self c.in_ok-is_new.is_new (bodies.are_new s.taken (read.0 ∷ [])) c.is_block.result (bodies.is_block s.due) read.1 _ c.finish-in-None.result
    (ap (λ (r : Reader). r.at) c.in_ok-name.ensures.reads.reader ∙ place) c.also.ensures c.also-2.ensures five four told_is c.finish-in-None.ensures.told
    (λ unbroken new may. absurd (told_broken q.walk broken (told_is ∙ unbroken)))

pub returns-in-Some-clause-passes : goal.returns-in-Some-clause-passes
returns-in-Some-clause-passes c =
    when_ok c.finish.result (passes_here c.args.m.now c.read_called.new.reader c.finish.new.self _ c.in_ok-name.ensures.reads.reader
    (c.finish.ensures.spent ∙ (ap (λ (r : Reader). r.spent) c.also-2.ensures ∙ ap (λ (r : Reader). r.spent) c.also.ensures))
    (c.finish.ensures.left ∙ (ap (λ (r : Reader). r.left) c.also-2.ensures ∙ ap (λ (r : Reader). r.left) c.also.ensures))
    (c.finish.ensures.at ∙ (ap (λ (r : Reader). r.at) c.also-2.ensures ∙ ap (λ (r : Reader). r.at) c.also.ensures)))

pub returns-in-None-clause-passes : goal.returns-in-None-clause-passes
returns-in-None-clause-passes c =
    when_ok c.finish-in-None.result (passes_here c.args.m.now c.read_called.new.reader c.finish-in-None.new.self _ c.in_ok-name.ensures.reads.reader
    (c.finish-in-None.ensures.spent ∙ (ap (λ (r : Reader). r.spent) c.also-2.ensures ∙ ap (λ (r : Reader). r.spent) c.also.ensures))
    (c.finish-in-None.ensures.left ∙ (ap (λ (r : Reader). r.left) c.also-2.ensures ∙ ap (λ (r : Reader). r.left) c.also.ensures))
    (c.finish-in-None.ensures.at ∙ (ap (λ (r : Reader). r.at) c.also-2.ensures ∙ ap (λ (r : Reader). r.at) c.also.ensures)))
