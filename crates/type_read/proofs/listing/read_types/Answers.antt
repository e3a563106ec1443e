use Rattle.std.proofs.Common.{◌≡◌, ◌-◌, ◌∙◌, length, ap, subst, refl, arith}
use Rattle.std.specs.Prelude.{Result, Ok, Err, OnOk}
use Rattle.std.proofs.lemmas.Result.{err_from_is_err_and}
use Rattle.record_read.specs.declared.entry.NextEntry.TheVariants.{Block, Record, End}
use Rattle.record_read.specs.Faults.{IsMisplaced}
use Rattle.type_read.specs.Pending.{IsCounted}
use Rattle.type_read.proofs.Walks.{out_of_memory}
use Rattle.type_read.proofs.GatheredAhead.{gone}
use Rattle.type_read.proofs.Reading.{later_so_far, step, step_given, step_place, step_room, step_undefined}
use Rattle.type_read.proofs.Waiting.{held_refused, waiting_block, waiting_ends, waiting_goes, waiting_refused, waiting_starts}
use Rattle.type_read.proofs.listing.read_types.Goals as goal

pub records-init : goal.records-init
records-init c = (
  c.requires.unspent,
  λ inside others before are named.
      waiting_starts c.args.texts.now inside others c.args.names c.args.arena.now (record { first = 0; at = c.at-start.result; bodies = c.new.result }) c.args.reader.now refl c.at-start.ensures c.new.ensures.items before are named,
)

-- what one record asks holds by the block that was begun
pub read_record-requires-clause-given : goal.read_record-requires-clause-given
read_record-requires-clause-given c =
    let next = gone c.records.reader c.next.new.self c.in_ok-code.field-0 (Record c.in-Record.code) c.in_ok-code.ensures c.in-Record.is in
    let b = c.requires.begun in
    let h = c.records.invariant.1 b.inside b.others b.before b.names_are b.named in
    step_given c.args.texts.now _ b.inside b.others _ _ _ _ c.in-Record.code (step _ _ b.inside b.others _ _ c.records.reader _ _ c.in-Record.code h.reading next.2)

pub read_record-requires-clause-undefined : goal.read_record-requires-clause-undefined
read_record-requires-clause-undefined c = λ is.
    let next = gone c.records.reader c.next.new.self c.in_ok-code.field-0 (Record c.in-Record.code) c.in_ok-code.ensures c.in-Record.is in
    let b = c.requires.begun in
    let h = c.records.invariant.1 b.inside b.others b.before b.names_are b.named in
    step_undefined c.args.texts.now _ b.inside b.others _ _ _ _ c.in-Record.code (step _ _ b.inside b.others _ _ c.records.reader _ _ c.in-Record.code h.reading next.2) is

pub read_record-requires-clause-room : goal.read_record-requires-clause-room
read_record-requires-clause-room c = λ is.
    let next = gone c.records.reader c.next.new.self c.in_ok-code.field-0 (Record c.in-Record.code) c.in_ok-code.ensures c.in-Record.is in
    let b = c.requires.begun in
    let h = c.records.invariant.1 b.inside b.others b.before b.names_are b.named in
    step_room c.args.texts.now _ b.inside b.others _ _ _ _ c.in-Record.code (step _ _ b.inside b.others _ _ c.records.reader _ _ c.in-Record.code h.reading next.2) is

pub read_record-requires-clause-pending : goal.read_record-requires-clause-pending
read_record-requires-clause-pending c =
    let b = c.requires.begun in
    (c.records.invariant.1 b.inside b.others b.before b.names_are b.named).pending

pub read_record-requires-clause-counted : goal.read_record-requires-clause-counted
read_record-requires-clause-counted c =
    let next = gone c.records.reader c.next.new.self c.in_ok-code.field-0 (Record c.in-Record.code) c.in_ok-code.ensures c.in-Record.is in
    let b = c.requires.begun in
    let h = c.records.invariant.1 b.inside b.others b.before b.names_are b.named in
    let place = step_place _ _ b.inside b.others _ _ c.records.reader _ _ c.in-Record.code h.reading next.2 in
    let before : c.records.reader.at ≡ c.next.new.self.at - 1 = omega (arith, place) in
    subst (IsCounted c.records.pending c.records.defined) before h.counted

pub records-preserved : goal.records-preserved
records-preserved c =
    let next = gone c.records.reader c.next.new.self c.in_ok-code.field-0 (Record c.in-Record.code) c.in_ok-code.ensures c.in-Record.is in
    let reads = c.in_ok-defined-in-Record.ensures.reads in (
      reads.0 ∙ next.0,
      λ inside others before are named.
          let h = c.records.invariant.1 inside others before are named in
          let s = step _ _ inside others _ _ c.records.reader _ _ c.in-Record.code h.reading next.2 in
          let puts = c.in_ok-defined-in-Record.ensures.answers _ s.s s.operands s.on s.number s.texts _ (later_so_far c.args.texts.now _ inside others _ _ _ _ c.in-Record.code s) in
          waiting_goes _ _ inside others _ _ _ c.records.reader _ h c.in-Record.code c.next.new.self s _ _ _ _ puts reads.1 reads.2,
    )

pub records-smaller : goal.records-smaller
records-smaller c =
    let next = gone c.records.reader c.next.new.self c.in_ok-code.field-0 (Record c.in-Record.code) c.in_ok-code.ensures c.in-Record.is in
    let size = ap length c.in_ok-defined-in-Record.ensures.reads.1 in
    omega (arith, next.1, size)

pub returns-in_err-defined-in-Record-clause-answers : goal.returns-in_err-defined-in-Record-clause-answers
returns-in_err-defined-in-Record-clause-answers c = λ inside others before are named.
    let p = err_from_is_err_and c.from_residual-in_err-defined-in-Record.result c.from_residual-in_err-defined-in-Record.ensures.1 in
    let next = gone c.records.reader c.next.new.self c.in_ok-code.field-0 (Record c.in-Record.code) c.in_ok-code.ensures c.in-Record.is in
    let h = c.records.invariant.1 inside others before are named in
    let s = step _ _ inside others _ _ c.records.reader _ _ c.in-Record.code h.reading next.2 in
    let refuses = c.in_err-defined-in-Record.ensures.answers _ s.s s.operands s.on s.number s.texts _ (later_so_far c.args.texts.now _ inside others _ _ _ _ c.in-Record.code s) in
    rw (p.1, p.2) (waiting_refused _ _ inside others _ _ _ c.records.reader _ h c.in-Record.code c.next.new.self s _ _ refuses)

pub returns-in_err-code-clause-answers : goal.returns-in_err-code-clause-answers
returns-in_err-code-clause-answers c = λ inside others before are named.
    let p = err_from_is_err_and c.from_residual.result c.from_residual.ensures.1 in
    rw p.1 (out_of_memory _ _ p.0 p.2)

-- the end of the block, or another block: what pends is given
pub give-requires-clause-pending : goal.give-requires-clause-pending
give-requires-clause-pending c =
    let b = c.requires.begun in
    (c.records.invariant.1 b.inside b.others b.before b.names_are b.named).pending

pub give-requires-clause-few : goal.give-requires-clause-few
give-requires-clause-few c =
    let b = c.requires.begun in
    let place = (c.records.invariant.1 b.inside b.others b.before b.names_are b.named).counted.place in
    omega (arith, place, c.is_counted.ensures)

pub give-requires-in-End-clause-pending : goal.give-requires-in-End-clause-pending
give-requires-in-End-clause-pending c =
    let b = c.requires.begun in
    (c.records.invariant.1 b.inside b.others b.before b.names_are b.named).pending

pub give-requires-in-End-clause-few : goal.give-requires-in-End-clause-few
give-requires-in-End-clause-few c =
    let b = c.requires.begun in
    let place = (c.records.invariant.1 b.inside b.others b.before b.names_are b.named).counted.place in
    omega (arith, place, c.is_counted.ensures)

pub returns-in_err-give-in-Block-clause-answers : goal.returns-in_err-give-in-Block-clause-answers
returns-in_err-give-in-Block-clause-answers c = λ inside others before are named.
    let p = err_from_is_err_and c.from_residual-in_err-give-in-Block.result c.from_residual-in_err-give-in-Block.ensures.1 in
    let h = c.records.invariant.1 inside others before are named in
    rw (p.1, p.2) (held_refused _ _ inside others _ _ _ c.records.reader _ h _ _ c.in_err-give-in-Block.ensures)

pub returns-in-Block-clause-answers : goal.returns-in-Block-clause-answers
returns-in-Block-clause-answers c = λ inside others before are named.
    let next = gone c.records.reader c.next.new.self c.in_ok-code.field-0 (Block c.in-Block.id) c.in_ok-code.ensures c.in-Block.is in
    let h = c.records.invariant.1 inside others before are named in
    waiting_block _ _ inside others _ _ _ c.records.reader _ h _ c.next.new.self c.in-Block.id _ next.2 c.in_ok-give-in-Block.ensures.1
    (subst (λ n. IsMisplaced c.in-Block.id n c.misplaced.result) c.at.ensures c.misplaced.ensures)

pub returns-in-End-clause-answers : goal.returns-in-End-clause-answers
returns-in-End-clause-answers c = λ inside others before are named.
    let next = gone c.records.reader c.next.new.self c.in_ok-code.field-0 End c.in_ok-code.ensures c.in-End.is in
    let h = c.records.invariant.1 inside others before are named in
    waiting_ends _ _ inside others _ _ _ c.records.reader _ h c.give-in-End.new.arena c.next.new.self c.give-in-End.result next.2 c.give-in-End.ensures

on_ok : {A E : Type 0} (r : Result A E) (P : Type 0) → P → OnOk r P
on_ok (Ok done) P p = p
on_ok (Err given) P p = tt

pub returns-in-End-clause-unspent : goal.returns-in-End-clause-unspent
returns-in-End-clause-unspent c =
    let next = gone c.records.reader c.next.new.self c.in_ok-code.field-0 End c.in_ok-code.ensures c.in-End.is in
    on_ok c.give-in-End.result _ next.0
