use Rattle.std.proofs.Common.{rules, ◌≡◌, ◌+◌, false, true, sym, ap, ◌∙◌}
use Rattle.std.proofs.lemmas.Bool.{not-true, not-false}
use Rattle.record_read.proofs.Gathering.{numbered, taken, pushed_left, byte_kept, byte_lost, rest_are}
use Rattle.record_read.proofs.texts.read_rest.Goals as goal

pub bytes-preserved-then-not-branch : goal.bytes-preserved-then-not-branch
bytes-preserved-then-not-branch c =
    let t = taken _ _ _ c.in-Some.ensures in
    let r = numbered _ _ _ _ _ _ _ t.reads c.in_ok-push_byte-in-Some.ensures in
    let count = t.fewer ∙ ap (λ n. n + 1) (sym (pushed_left _ _ _ _ _ _ c.in_ok-push_byte-in-Some.ensures)) in
    let bad : c.in_ok-push_byte-in-Some.field-0 ≡ false = first_of (assumption (c.if-not-branch), search (rules, not-true, c.if-not-branch)) in
    byte_lost _ _ _ _ _ _ _ _ _ _ _ count t.goes c.bytes.invariant r bad

pub bytes-preserved : goal.bytes-preserved
bytes-preserved c =
    let t = taken _ _ _ c.in-Some.ensures in
    let r = numbered _ _ _ _ _ _ _ t.reads c.in_ok-push_byte-in-Some.ensures in
    let count = t.fewer ∙ ap (λ n. n + 1) (sym (pushed_left _ _ _ _ _ _ c.in_ok-push_byte-in-Some.ensures)) in
    let good : c.in_ok-push_byte-in-Some.field-0 ≡ true = first_of (assumption (c.if-not-branch), search (rules, not-false, c.if-not-branch)) in
    byte_kept _ _ _ _ _ _ _ _ _ _ count t.goes c.bytes.invariant r good

pub returns-in-None : goal.returns-in-None
returns-in-None c = rest_are _ _ _ _ _ _ c.bytes.invariant c.in-None.ensures c.whole_text.ensures
