use Rattle.std.proofs.Common.{◌≡◌, length, slice_get, sym, ap, subst, ◌∙◌, arith}
use Rattle.record_read.specs.Faults.{IsMisplaced}
use Rattle.record_read.specs.Order.Due.{due_at}
use Rattle.bitcode_read.proofs.BodyBlocks.{none_due}
use Rattle.bitcode_read.proofs.Numbers.{due_there}
use Rattle.bitcode_read.proofs.blocks.read_body_block.Goals as goal

pub read_next_body-requires-clause-due : goal.read_next_body-requires-clause-due
read_next_body-requires-clause-due c =
    let many : c.len.result ≡ length c.args.sofar.now.bodies.items = omega (arith, c.len.ensures, c.args.sofar.now.bodies.ok.0) in
    let there : slice_get c.deref.result.now c.len.result ≡ due_at c.args.sofar.now.defined.items (length c.args.sofar.now.bodies.items) 0 =
    (λ j. slice_get (c.deref.ensures.value j) (many j))
    ∙ (ap (λ l. slice_get l (length c.args.sofar.now.bodies.items)) c.requires.room.numbers ∙ due_there c.args.sofar.now.defined.items (length c.args.sofar.now.bodies.items) 0) in
    sym there ∙ sym c.in-Some.ensures

pub returns-in-None-clause-reads : goal.returns-in-None-clause-reads
returns-in-None-clause-reads c = λ all known may s inside behind others h before at.
    let many : c.len.result ≡ length c.args.sofar.now.bodies.items = omega (arith, c.len.ensures, c.args.sofar.now.bodies.ok.0) in
    let there : slice_get c.deref.result.now c.len.result ≡ due_at c.args.sofar.now.defined.items (length c.args.sofar.now.bodies.items) 0 =
    (λ j. slice_get (c.deref.ensures.value j) (many j))
    ∙ (ap (λ l. slice_get l (length c.args.sofar.now.bodies.items)) c.requires.room.numbers ∙ due_there c.args.sofar.now.defined.items (length c.args.sofar.now.bodies.items) 0) in
    none_due _ all known c.args.m.now c.args.sofar.now s inside behind h may _ _ (sym there ∙ sym c.in-None.ensures) (subst (λ n. IsMisplaced 12 n c.misplaced.result) at (subst (λ n. IsMisplaced 12 n c.misplaced.result) c.at.ensures c.misplaced.ensures))
