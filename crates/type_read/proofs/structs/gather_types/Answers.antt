use Rattle.std.proofs.Common.{None, refl, ◌∙◌}
use Rattle.record_read.specs.declared.entry.NextEntry.TheVariants.{Block, Record, End}
use Rattle.type_read.proofs.GatheredAhead.{gone, gathers_none, passed, gathered_one, gathers_all}
use Rattle.type_read.proofs.structs.gather_types.Goals as goal

pub records-init : goal.records-init
records-init c = (
  c.requires.unspent,
  λ inside others before. gathers_none _ inside others (record { structs = record { count = 0; first_bad = None }; voids = c.new.result }) c.args.arena.now c.args.reader.now c.requires.empty refl refl c.new.ensures.items before,
)

-- behind a record
pub records-preserved-in-Continue-branch-3 : goal.records-preserved-in-Continue-branch-3
records-preserved-in-Continue-branch-3 c =
    let next = gone c.records.reader c.next.new.self c.in_ok-code.field-0 (Record c.in-Record.code) c.in_ok-code.ensures c.in-Record.is in
    let kept = c.in_ok-gather_record-in-Record.ensures.kept in (
      kept.0 ∙ next.0,
      λ inside others before.
          gathered_one _ inside others _ _ _ _ c.records.reader _ _ c.in-Record.code (c.records.invariant.1 inside others before) next.2 c.in_ok-gather_record-in-Record.ensures.gathers kept.1,
    )

-- behind a block that was passed over
pub records-preserved : goal.records-preserved
records-preserved c =
    let next = gone c.records.reader c.next.new.self c.in_ok-code.field-0 (Block c.in-Block.field-0) c.in_ok-code.ensures c.in-Block.is in
    let over = c.in_ok-pass_block-in-Block.ensures in (
      over.0,
      λ inside others before.
          passed _ inside others _ _ c.records.reader _ _ c.in-Block.field-0 (c.records.invariant.1 inside others before) next.2 over.3,
    )

pub returns-in-End-clause-gathered : goal.returns-in-End-clause-gathered
returns-in-End-clause-gathered c =
    let next = gone c.records.reader c.next.new.self c.in_ok-code.field-0 End c.in_ok-code.ensures c.in-End.is in
    λ inside others before. gathers_all _ inside others _ _ c.records.reader _ (c.records.invariant.1 inside others before) next.2
