use Rattle.std.proofs.Common.{ap, subst, sym, ◌∙◌, arith}
use Rattle.record_read.specs.declared.entry.NextEntry.TheVariants.{Block, Record, End}
use Rattle.record_read.specs.Reader.{Reader}
use Rattle.record_read.proofs.OnOpening.Answering.{gone}
use Rattle.record_read.proofs.OnOpening.Fronts.{IsGoing, front_found, front_missing, goes_begin, goes_on}
use Rattle.record_read.proofs.opening.producer.read_front.Goals as goal

pub entries-init : goal.entries-init
entries-init c = (c.requires, λ inside others before. goes_begin inside others c.args.reader.now before)

pub entries-preserved : goal.entries-preserved
entries-preserved c =
    let next = gone c.entries.reader c.next.new.self c.in_ok-code.field-0 (Block c.in-Block.id) c.in_ok-code.ensures c.in-Block.is in
    let over = c.in_ok-pass_block-in-Block.ensures in (
      over.0,
      λ inside others before.
          subst (λ b. IsGoing inside others c.args.reader.now b c.pass_block.new.self) (sym c.first_of-block.ensures)
          (goes_on inside others c.args.reader.now c.entries.reader c.next.new.self c.pass_block.new.self c.entries.block c.in-Block.id (c.entries.invariant.1 inside others before) next.2 over.3 over.1),
    )

pub entries-smaller : goal.entries-smaller
entries-smaller c =
    let next = gone c.entries.reader c.next.new.self c.in_ok-code.field-0 (Block c.in-Block.id) c.in_ok-code.ensures c.in-Block.is in
    let over = c.in_ok-pass_block-in-Block.ensures in
    omega (arith, next.1, over.2)

pub returns-in-Record-clause-unspent : goal.returns-in-Record-clause-unspent
returns-in-Record-clause-unspent c =
    let next = gone c.entries.reader c.next.new.self c.in_ok-code.field-0 (Record c.in-Record.code) c.in_ok-code.ensures c.in-Record.is in
    ap (λ (r : Reader). r.spent) c.is_naming-is_ours.ensures.rest ∙ next.0

pub returns-in-Record-clause-finds : goal.returns-in-Record-clause-finds
returns-in-Record-clause-finds c = λ inside others before.
    let next = gone c.entries.reader c.next.new.self c.in_ok-code.field-0 (Record c.in-Record.code) c.in_ok-code.ensures c.in-Record.is in
    front_found inside others c.args.reader.now c.entries.reader c.next.new.self _ c.entries.block c.in-Record.code _ (c.entries.invariant.1 inside others before) next.2 c.is_naming-is_ours.ensures.is c.is_naming-is_ours.ensures.rest

pub returns-in-End-clause-finds : goal.returns-in-End-clause-finds
returns-in-End-clause-finds c = λ inside others before.
    let next = gone c.entries.reader c.next.new.self c.in_ok-code.field-0 End c.in_ok-code.ensures c.in-End.is in
    front_missing inside others c.args.reader.now c.entries.reader c.next.new.self c.entries.block (c.entries.invariant.1 inside others before) next.2
