use Rattle.std.proofs.Common.{ap, subst, arith}
use Rattle.std.specs.Prelude.{Ok}
use Rattle.std.proofs.lemmas.Result.{err_from_is_err_and}
use Rattle.record_table.specs.Faults.{records}
use Rattle.record_read.specs.Fields.{texts_of}
use Rattle.bitcode_read.specs.Head.Ahead.{first_module}
use Rattle.bitcode_read.specs.Sofar.{GoesOn}
use Rattle.bitcode_read.proofs.module.read_entries.Goals as goal

pub entries-init : goal.entries-init
entries-init c = (c.requires.room, c.requires.unspent, λ tree others first stream going. going)

pub read_entry-requires-clause-unspent : goal.read_entry-requires-clause-unspent
read_entry-requires-clause-unspent c = c.entries.invariant.1

pub read_entry-requires-clause-room : goal.read_entry-requires-clause-room
read_entry-requires-clause-room c = c.entries.invariant.0

pub read_entry-requires-clause-going : goal.read_entry-requires-clause-going
read_entry-requires-clause-going c =
    let w = c.requires.going in
    record { tree = w.tree; is_tree = w.is_tree; others = w.others; first = w.first; going = c.entries.invariant.2 w.tree w.others w.first w.is_tree w.going }

pub entries-preserved : goal.entries-preserved
entries-preserved c =
    let more = c.if-not-is_more.false in (
      c.in_ok-is_more.ensures.room,
      c.in_ok-is_more.ensures.unspent,
      λ tree others first stream going.
          subst (λ b. GoesOn (texts_of c.args.texts.now) (first_module (records tree)) others first (Ok b) c.read_entry.new.m c.read_entry.new.sofar c.read_entry.new.known) more
          (c.in_ok-is_more.ensures.goes tree others first stream (c.entries.invariant.2 tree others first stream going)),
    )

pub entries-smaller : goal.entries-smaller
entries-smaller c =
    let more = c.if-not-is_more.false in
    let nearer = c.in_ok-is_more.ensures.nearer (ap (λ b. Ok b) more) in
    omega (arith, nearer)

pub returns-then-not-is_more-clause-room : goal.returns-then-not-is_more-clause-room
returns-then-not-is_more-clause-room c = c.in_ok-is_more.ensures.room

pub returns-then-not-is_more-clause-unspent : goal.returns-then-not-is_more-clause-unspent
returns-then-not-is_more-clause-unspent c = c.in_ok-is_more.ensures.unspent

pub returns-then-not-is_more-clause-goes : goal.returns-then-not-is_more-clause-goes
returns-then-not-is_more-clause-goes c = λ tree others first stream going.
    let end = c.if-not-is_more.true in
    subst (λ b. GoesOn (texts_of c.args.texts.now) (first_module (records tree)) others first (Ok b) c.read_entry.new.m c.read_entry.new.sofar c.read_entry.new.known) end
    (c.in_ok-is_more.ensures.goes tree others first stream (c.entries.invariant.2 tree others first stream going))

pub returns-in_err-is_more-clause-goes : goal.returns-in_err-is_more-clause-goes
returns-in_err-is_more-clause-goes c = λ tree others first stream going.
    let p = err_from_is_err_and c.from_residual.result c.from_residual.ensures.1 in
    rw (p.1, p.2) (c.in_err-is_more.ensures.goes tree others first stream (c.entries.invariant.2 tree others first stream going))
