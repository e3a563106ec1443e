use Rattle.std.proofs.Common.{◌<◌, length, ap, arith}
use Rattle.std.proofs.lemmas.List.Sums.{sum_by_more, sum_by_more_le, sum_by-take-le}
use Rattle.std.proofs.lemmas.Option.{get_or_from_slice_get, slice_get_within}
use Rattle.std.proofs.lemmas.Result.{err_from_is_err_and}
use Rattle.module_arena.specs.Changes.{function_in}
use Rattle.module_arena.specs.Valid.{function_demands}
use Rattle.module_arena.specs.View.{module_of}
use Rattle.entry_verify.proofs.OnTypes.Judging.{leads_next, fails_next, leads_end}
use Rattle.path_verify.specs.Bodies.{turns_of}
use Rattle.entry_verify.proofs.OnEntries.EntriesFound.{function_at}
use Rattle.path_verify.proofs.Counted.{some_at, so_many_functions}
use Rattle.path_verify.proofs.functions.judge_functions.Goals as goal

pub functions-init : goal.functions-init
functions-init g c = ((λ r j. j), omega arith, tt)

pub functions-preserved : goal.functions-preserved
functions-preserved g c =
    let a = c.args.judge.now in
    let m = module_of a in
    let lt : c.functions.number < length a.functions = omega (arith, c.functions-test.true, c.function_count-count.ensures, ap (λ d. length d.functions) c.arena.ensures) in
    let here = some_at a.functions c.functions.number lt in
    let at = function_at a c.functions.number here.0 here.1 in
    let judged = rw c.new.ensures at c.in_ok-judge_one.ensures.judged in
    let turns = rw c.new.ensures at c.in_ok-judge_one.ensures.turns in
    let f = function_in a here.0 in
    let more = sum_by_more turns_of m.functions c.functions.number f (slice_get_within m.functions c.functions.number f at) in
    let same = get_or_from_slice_get m.functions c.functions.number f f at in
    (leads_next (function_demands m) m.functions c.functions.number f at (judged here.0 here.1) c.functions.invariant.0, omega (arith, c.functions.invariant.1, turns here.0 here.1, more, ap turns_of same), c.in_ok-judge_one.ensures.kept)

pub returns-in_err-judge_one-clause-judged : goal.returns-in_err-judge_one-clause-judged
returns-in_err-judge_one-clause-judged g c =
    let a = c.args.judge.now in
    let m = module_of a in
    let lt : c.functions.number < length a.functions = omega (arith, c.functions-test.true, c.function_count-count.ensures, ap (λ d. length d.functions) c.arena.ensures) in
    let here = some_at a.functions c.functions.number lt in
    let at = function_at a c.functions.number here.0 here.1 in
    let judged = rw c.new.ensures at c.in_err-judge_one.ensures.judged in
    let p = err_from_is_err_and c.from_residual.result c.from_residual.ensures.1 in
    rw (p.1, p.2) (fails_next (function_demands m) m.functions c.functions.number (function_in a here.0) _ at (judged here.0 here.1) c.functions.invariant.0)

pub returns-in_err-judge_one-clause-turns : goal.returns-in_err-judge_one-clause-turns
returns-in_err-judge_one-clause-turns g c =
    let a = c.args.judge.now in
    let m = module_of a in
    let lt : c.functions.number < length a.functions = omega (arith, c.functions-test.true, c.function_count-count.ensures, ap (λ d. length d.functions) c.arena.ensures) in
    let here = some_at a.functions c.functions.number lt in
    let at = function_at a c.functions.number here.0 here.1 in
    let turns = rw c.new.ensures at c.in_err-judge_one.ensures.turns in
    let f = function_in a here.0 in
    let more = sum_by_more_le turns_of m.functions c.functions.number f (slice_get_within m.functions c.functions.number f at) in
    let same = get_or_from_slice_get m.functions c.functions.number f f at in
    omega (arith, c.functions.invariant.1, turns here.0 here.1, more, ap turns_of same)

pub returns-clause-judged : goal.returns-clause-judged
returns-clause-judged g c =
    let a = c.args.judge.now in
    leads_end (function_demands (module_of a)) (module_of a).functions c.functions.number (omega (arith, c.functions-test.false, so_many_functions a, c.function_count-count.ensures, ap (λ d. length d.functions) c.arena.ensures)) c.functions.invariant.0

pub returns-clause-turns : goal.returns-clause-turns
returns-clause-turns g c = let m = module_of c.args.judge.now in omega (arith, c.functions.invariant.1, sum_by-take-le turns_of m.functions c.functions.number)
