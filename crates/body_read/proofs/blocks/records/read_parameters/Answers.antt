use Rattle.std.proofs.Common.{◌∙◌, ap}
use Rattle.std.proofs.lemmas.Result.{err_from_is_err_and}
use Rattle.record_table.specs.Bodies as bodies
use Rattle.record_table.specs.Layout.{judged}
use Rattle.record_read.specs.Fields.{texts_of}
use Rattle.record_read.specs.Reader.{Reader}
use Rattle.body_read.proofs.OnBlocks.Closing.{closes, out_of_memory, when_ok}
use Rattle.body_read.proofs.OnBlocks.Blocked.{passes_here}
use Rattle.body_read.proofs.OnBlocks.Parametered.{parameters_body, parameters_rules, parameters_told}
use Rattle.body_read.proofs.blocks.records.read_parameters.Goals as goal

pub returns-in_err-all_new-clause-reads : goal.returns-in_err-all_new-clause-reads
returns-in_err-all_new-clause-reads c = λ k numbers s operands front place follows.
    let p = err_from_is_err_and c.from_residual.result c.from_residual.ensures.1 in
    rw p.1 (out_of_memory _ _ p.0 p.2)

pub returns-clause-reads : goal.returns-clause-reads
returns-clause-reads c = λ k numbers s operands front place follows.
    let a = c.args.m.now in
    let x = c.args.texts.now in
    let q = c.read_names.new.reader in
    let read = judged (bodies.parameters (texts_of x) c.args.count) operands in
    let named = c.read_names.new.names in
    let reads = c.in_ok-all_new.ensures in
    let four = parameters_told x c.args.count a q c.args.body.now named c.in_ok-all_new.all_new s operands front follows reads in
    let told_is = parameters_rules x c.args.count a q c.args.body.now named c.in_ok-all_new.all_new s operands front follows reads in
    let five = c.is_parameters.ensures ∙ ap bodies.is_parameters follows.due_is in
    closes _ s.at q c.also.new.self c.also-2.new.self c.in_ok-all_new.all_new (bodies.are_new s.taken read.0) c.is_parameters.result (bodies.is_parameters s.due) read.1 _ c.finish.result
    (ap (λ (r : Reader). r.at) reads.reader ∙ place) c.also.ensures c.also-2.ensures five four told_is c.finish.ensures.told
    (λ unbroken new may.
    parameters_body x c.args.count a q c.args.body.now named c.in_ok-all_new.all_new s operands front follows reads may unbroken k
    c.finish.new.self (c.finish.ensures.spent ∙ (ap (λ (r : Reader). r.spent) c.also-2.ensures ∙ ap (λ (r : Reader). r.spent) c.also.ensures))
    (c.finish.ensures.left ∙ (ap (λ (r : Reader). r.left) c.also-2.ensures ∙ ap (λ (r : Reader). r.left) c.also.ensures)) (c.finish.ensures.at ∙ (ap (λ (r : Reader). r.at) c.also-2.ensures ∙ ap (λ (r : Reader). r.at) c.also.ensures)))

pub returns-clause-passes : goal.returns-clause-passes
returns-clause-passes c =
    when_ok c.finish.result (passes_here c.args.m.now c.read_names.new.reader c.finish.new.self _ c.in_ok-all_new.ensures.reader
    (c.finish.ensures.spent ∙ (ap (λ (r : Reader). r.spent) c.also-2.ensures ∙ ap (λ (r : Reader). r.spent) c.also.ensures))
    (c.finish.ensures.left ∙ (ap (λ (r : Reader). r.left) c.also-2.ensures ∙ ap (λ (r : Reader). r.left) c.also.ensures))
    (c.finish.ensures.at ∙ (ap (λ (r : Reader). r.at) c.also-2.ensures ∙ ap (λ (r : Reader). r.at) c.also.ensures)))
