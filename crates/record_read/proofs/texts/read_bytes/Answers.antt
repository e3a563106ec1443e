use Rattle.std.proofs.Common.{rules, ◌≡◌, ◌+◌, ◌-◌, false, true, sym, arith}
use Rattle.std.proofs.lemmas.Bool.{not-true, not-false}
use Rattle.record_read.proofs.Gathering.{numbered, byte_kept, byte_lost, bytes_are, loop_goes, loop_ends}
use Rattle.record_read.proofs.texts.read_bytes.Goals as goal

pub bytes-preserved-then-not-branch : goal.bytes-preserved-then-not-branch
bytes-preserved-then-not-branch c =
    let test = sym c.bytes-test.ensures in
    let on = loop_goes c.bytes.place c.args.count _ test in
    let r = numbered _ _ _ _ _ _ _ c.number-number.ensures c.in_ok-push_byte.ensures in
    let bad : c.in_ok-push_byte.field-0 ≡ false = first_of (assumption (c.if-not-branch), search (rules, not-true, c.if-not-branch)) in
    (byte_lost _ _ _ c.args.count (c.args.count - c.bytes.place) (c.args.count - (c.bytes.place + 1)) _ _ _ _ _ (omega (arith, on.0)) on.1 c.bytes.invariant.0 r bad, omega (arith, on.0))

pub bytes-preserved : goal.bytes-preserved
bytes-preserved c =
    let test = sym c.bytes-test.ensures in
    let on = loop_goes c.bytes.place c.args.count _ test in
    let r = numbered _ _ _ _ _ _ _ c.number-number.ensures c.in_ok-push_byte.ensures in
    let good : c.in_ok-push_byte.field-0 ≡ true = first_of (assumption (c.if-not-branch), search (rules, not-false, c.if-not-branch)) in
    (byte_kept _ _ _ c.args.count (c.args.count - c.bytes.place) (c.args.count - (c.bytes.place + 1)) _ _ _ _ (omega (arith, on.0)) on.1 c.bytes.invariant.0 r good, omega (arith, on.0))

pub returns : goal.returns
returns c = bytes_are _ _ c.args.count (c.args.count - c.bytes.place) _ _ _ c.bytes.invariant.0 (loop_ends c.bytes.place c.args.count _ (sym c.bytes-test.ensures)) c.whole_text.ensures
