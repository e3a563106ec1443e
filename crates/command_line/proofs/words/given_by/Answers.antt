use Rattle.std.proofs.Common.{sym, ◌∙◌, arith}
use Rattle.std.proofs.lemmas.Result.{err_from_is_err_and}
use Rattle.command_line.proofs.Scanning.{turn_stands, turn_moves, turn_refuses, no_file, all_read}
use Rattle.command_line.proofs.words.given_by.Goals as goal

pub overflow_add-at-in-reading : goal.overflow_add-at-in-reading
overflow_add-at-in-reading c =
    let moves = turn_moves _ _ _ _ _ _ _ _ c.reading-test.true c.index-words-at.is c.word_at.ensures c.reading.invariant.stands c.in_ok-at.ensures in
    omega (arith, moves.1)

pub reading-smaller : goal.reading-smaller
reading-smaller c =
    let moves = turn_moves _ _ _ _ _ _ _ _ c.reading-test.true c.index-words-at.is c.word_at.ensures c.reading.invariant.stands c.in_ok-at.ensures in
    omega (arith, moves.0, moves.1)

pub reading-preserved : goal.reading-preserved
reading-preserved c =
    let h = c.reading-test.true in
    let i = c.index-words-at.is in
    let n = c.word_at.ensures in
    let s = c.reading.invariant.stands in
    let turn = c.in_ok-at.ensures in
    record { within = (turn_moves _ _ _ _ _ _ _ _ h i n s turn).1; stands = turn_stands _ _ _ _ _ _ _ _ h i n s turn }

pub returns-in_err-at : goal.returns-in_err-at
returns-in_err-at c =
    let p = err_from_is_err_and c.from_residual.result c.from_residual.ensures.1 in
    rw (p.1, p.2) (turn_refuses _ _ _ _ _ _ _ c.reading-test.true c.index-words-at.is c.word_at.ensures c.reading.invariant.stands c.in_err-at.ensures)

pub returns-then-lacks_file : goal.returns-then-lacks_file
returns-then-lacks_file c =
    no_file _ _ _ _ c.reading-test.false c.reading.invariant.within c.reading.invariant.stands (sym c.lacks_file.ensures ∙ c.if-lacks_file.true)

pub returns : goal.returns
returns c =
    all_read _ _ _ _ c.reading-test.false c.reading.invariant.within c.reading.invariant.stands (sym c.lacks_file.ensures ∙ c.if-lacks_file.false)
