use Rattle.std.proofs.Common.{inl}
use Rattle.ir_syntax.proofs.Refusals.{too_deep, left_out, no_item}
use Rattle.ir_syntax.proofs.read.token_refusal.Goals as goal

pub returns-in-Ok-true : goal.returns-in-Ok-true
returns-in-Ok-true c =
    inl (too_deep c.args.cursor.now c.args.text.now c.requires.text c.requires.token c.requires.first_bad c.place-place.result c.place-place.ensures (rw c.in-Ok-true.field-0-test at c.in-Ok-true.ensures))

pub returns-in-Ok-true-is_bad_left_out : goal.returns-in-Ok-true-is_bad_left_out
returns-in-Ok-true-is_bad_left_out c =
    left_out c.args.cursor.now c.args.text.now c.requires.text c.requires.token c.requires.first_bad c.place-place.result c.place-place.ensures c.left_out.result c.spelling.result.now (rw c.in-Ok-false.field-0-test at c.in-Ok-false.ensures) (rw c.in-Ok-true-is_bad_left_out.field-0-test at c.in-Ok-true-is_bad_left_out.ensures) c.spelling.ensures.bytes c.left_out.ensures

pub returns-in-Ok-false-is_bad_left_out : goal.returns-in-Ok-false-is_bad_left_out
returns-in-Ok-false-is_bad_left_out c =
    inl (no_item c.args.cursor.now c.args.text.now c.requires.text c.requires.token c.requires.first_bad c.place-place.result c.place-place.ensures (rw c.in-Ok-false.field-0-test at c.in-Ok-false.ensures) (rw c.in-Ok-false-is_bad_left_out.field-0-test at c.in-Ok-false-is_bad_left_out.ensures))
