use Rattle.std.proofs.Common.{◌-◌, ◌<◌, ◌≤◌, length, take, get_or, refl, arith}
use Rattle.std.proofs.lemmas.List.{get_or_default, length-take-le}
use Rattle.bit_tree.specs.declared.starts.row.GivenDefinition.{GivenDefinition}
use Rattle.bit_tree.specs.Starts.Rows.{row_id}
use Rattle.bit_tree.proofs.OnStarts.Rising.{no_row}
use Rattle.bit_tree.proofs.OnStarts.Joining.{merge_none, merge_all, last_of, front_step, later_step}
use Rattle.bit_tree.proofs.starts.merging.merge.Goals as goal

pub loop-back-init : goal.loop-back-init
loop-back-init c = merge_none c.args.later.now c.args.rows.now c.args.count c.requires.room c.requires.rows c.requires.later

pub loop-back-preserved-then-ends_above : goal.loop-back-preserved-then-ends_above
loop-back-preserved-then-ends_above c =
    let m = c.loop-back.invariant in
    let rows = c.loop-back.rows in
    let front = c.loop-back.front in
    let back = c.loop-back.back in
    let later = c.args.later.now in
    let long : front ≤ length rows = omega (arith, m.room) in
    let size = length-take-le front rows long in
    let least = c.if-ends_above.ensures.some refl in
    let some : 0 < front = omega (arith, least, size) in
    let less : front - 1 < length rows = omega arith in
    let near : back - 1 < length later = omega (arith, m.behind) in
    let above = c.if-ends_above.ensures.above refl no_row in
    let at = last_of rows front no_row long some in
    let row = get_or rows (front - 1) no_row in
    let last = get_or later (back - 1) no_row in
    front_step _ later rows front back (front - 1) row last m (omega arith) c.loop-back-test.true (get_or_default rows (front - 1) no_row row less) (get_or_default later (back - 1) no_row last near) (omega (arith, c.id.ensures, above, at))

pub loop-back-preserved : goal.loop-back-preserved
loop-back-preserved c =
    let m = c.loop-back.invariant in
    let rows = c.loop-back.rows in
    let front = c.loop-back.front in
    let back = c.loop-back.back in
    let later = c.args.later.now in
    let long : front ≤ length rows = omega (arith, m.room) in
    let size = length-take-le front rows long in
    let near : back - 1 < length later = omega (arith, m.behind, c.loop-back-test.true) in
    let row = get_or later (back - 1) no_row in
    let small : 0 < front → (d : GivenDefinition) → row_id (get_or rows (front - 1) d) ≤ row_id row =
    λ some d.
    let some_taken : 0 < length (take front rows) = omega (arith, size) in
    let within = c.if-ends_above.ensures.within refl some_taken d in
    let at = last_of rows front d long some in
    omega (arith, c.id.ensures, within, at) in
    later_step _ later rows front back (back - 1) row m (omega (arith, c.loop-back-test.true)) (get_or_default later (back - 1) no_row row near) small

pub returns-clause-ascending : goal.returns-clause-ascending
returns-clause-ascending c = (merge_all _ c.args.later.now c.loop-back.rows c.loop-back.front c.loop-back.back c.loop-back.invariant (omega arith)).0
