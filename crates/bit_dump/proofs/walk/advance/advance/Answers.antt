use Rattle.std.proofs.Common.{[], false}
use Rattle.bit_dump.specs.Walk.Values.{left_by, list_of}
use Rattle.bit_dump.proofs.OnWalk.Operands.{over}
use Rattle.bit_dump.proofs.OnWalk.Walked.{read_list}
use Rattle.bit_dump.proofs.OnWalk.Advancing.{step_begun, step_ended, step_defined, step_over, step_held, operands_there}
use Rattle.bit_dump.proofs.walk.advance.advance.Goals as goal

pub held-requires : goal.held-requires
held-requires c =
    let passed = rw (c.in-Some.is, c.in-Record.is) at c.in_ok-item.ensures.read in
    let by = rw (c.in-Some.is, c.in-Record.is) at c.in_ok-item.ensures.by in
    rw (c.width-width.ensures, c.copy-place.ensures, c.admitted.ensures) (operands_there c.args.scope.now.scope c.pass_judged.new.scope.scope c.args.cursor.now c.pass_judged.new.cursor c.in-Record.code c.in_ok-item.item.blob.now c.pass_judged.new.kept.abbreviation passed by)

pub returns-in-None-clause-read : goal.returns-in-None-clause-read
returns-in-None-clause-read c = rw c.plain.ensures.stage ([], over c.pass_judged.new.kept.abbreviation c.plain.result.inner)

pub returns-in-None-clause-bare : goal.returns-in-None-clause-bare
returns-in-None-clause-bare c = rw (c.plain.ensures.event, c.plain.ensures.stage) (read_list _ [] (over c.pass_judged.new.kept.abbreviation c.plain.result.inner), c.plain.ensures.has_blob, c.plain.ensures.blob)

pub returns-in-None-clause-gave : goal.returns-in-None-clause-gave
returns-in-None-clause-gave c = λ ps h. (
    let passed = rw c.in-None.is at c.in_ok-item.ensures.read in
    let by = rw c.in-None.is at c.in_ok-item.ensures.by in
    rw (c.plain.ensures.event, c.in_force.ensures.value) (step_defined c.args.scope.now.scope c.pass_judged.new.scope.scope c.args.cursor.now c.pass_judged.new.cursor c.in_ok-item.item.blob.now ps (record { spent = false; left = []; operands = list_of (left_by c.plain.result.stage c.pass_judged.new.kept.abbreviation c.plain.result.inner); has_blob = c.plain.result.has_blob; blob = c.plain.result.blob.now; abbreviation = c.pass_judged.new.kept.abbreviation }) h passed by))

pub returns-in-Block-clause-read : goal.returns-in-Block-clause-read
returns-in-Block-clause-read c = rw c.plain-in-Block.ensures.stage ([], over c.pass_judged.new.kept.abbreviation c.plain-in-Block.result.inner)

pub returns-in-Block-clause-bare : goal.returns-in-Block-clause-bare
returns-in-Block-clause-bare c = rw (c.plain-in-Block.ensures.event, c.block.ensures, c.plain-in-Block.ensures.stage) (read_list _ [] (over c.pass_judged.new.kept.abbreviation c.plain-in-Block.result.inner), c.plain-in-Block.ensures.has_blob, c.plain-in-Block.ensures.blob)

pub returns-in-Block-clause-gave : goal.returns-in-Block-clause-gave
returns-in-Block-clause-gave c = λ ps h. (
    let passed = rw (c.in-Some.is, c.in-Block.is) at c.in_ok-item.ensures.read in
    rw (c.plain-in-Block.ensures.event, c.block.ensures) (step_begun c.args.scope.now.scope c.pass_judged.new.scope.scope c.args.cursor.now c.pass_judged.new.cursor c.in-Block.id c.in_ok-item.item.blob.now ps (record { spent = false; left = []; operands = list_of (left_by c.plain-in-Block.result.stage c.pass_judged.new.kept.abbreviation c.plain-in-Block.result.inner); has_blob = c.plain-in-Block.result.has_blob; blob = c.plain-in-Block.result.blob.now; abbreviation = c.pass_judged.new.kept.abbreviation }) h passed))

pub returns-in-EndBlock-clause-read : goal.returns-in-EndBlock-clause-read
returns-in-EndBlock-clause-read c = rw c.plain-in-EndBlock.ensures.stage ([], over c.pass_judged.new.kept.abbreviation c.plain-in-EndBlock.result.inner)

pub returns-in-EndBlock-clause-bare : goal.returns-in-EndBlock-clause-bare
returns-in-EndBlock-clause-bare c = rw (c.plain-in-EndBlock.ensures.event, c.plain-in-EndBlock.ensures.stage) (read_list _ [] (over c.pass_judged.new.kept.abbreviation c.plain-in-EndBlock.result.inner), c.plain-in-EndBlock.ensures.has_blob, c.plain-in-EndBlock.ensures.blob)

pub returns-in-EndBlock-clause-gave : goal.returns-in-EndBlock-clause-gave
returns-in-EndBlock-clause-gave c = λ ps h. (
    let passed = rw (c.in-Some.is, c.in-EndBlock.is) at c.in_ok-item.ensures.read in
    rw c.plain-in-EndBlock.ensures.event (step_ended c.args.scope.now.scope c.pass_judged.new.scope.scope c.args.cursor.now c.pass_judged.new.cursor c.in_ok-item.item.blob.now ps (record { spent = false; left = []; operands = list_of (left_by c.plain-in-EndBlock.result.stage c.pass_judged.new.kept.abbreviation c.plain-in-EndBlock.result.inner); has_blob = c.plain-in-EndBlock.result.has_blob; blob = c.plain-in-EndBlock.result.blob.now; abbreviation = c.pass_judged.new.kept.abbreviation }) h passed))

pub returns-in-End-clause-read : goal.returns-in-End-clause-read
returns-in-End-clause-read c = rw c.plain-in-End.ensures.stage ([], over c.pass_judged.new.kept.abbreviation c.plain-in-End.result.inner)

pub returns-in-End-clause-bare : goal.returns-in-End-clause-bare
returns-in-End-clause-bare c = rw (c.plain-in-End.ensures.event, c.plain-in-End.ensures.stage) (read_list _ [] (over c.pass_judged.new.kept.abbreviation c.plain-in-End.result.inner), c.plain-in-End.ensures.has_blob, c.plain-in-End.ensures.blob)

pub returns-in-End-clause-gave : goal.returns-in-End-clause-gave
returns-in-End-clause-gave c = λ ps h. (
    let passed = rw (c.in-Some.is, c.in-End.is) at c.in_ok-item.ensures.read in
    rw c.plain-in-End.ensures.event (step_over c.args.scope.now.scope c.pass_judged.new.scope.scope c.args.cursor.now c.pass_judged.new.cursor c.in_ok-item.item.blob.now ps (record { spent = false; left = []; operands = list_of (left_by c.plain-in-End.result.stage c.pass_judged.new.kept.abbreviation c.plain-in-End.result.inner); has_blob = c.plain-in-End.result.has_blob; blob = c.plain-in-End.result.blob.now; abbreviation = c.pass_judged.new.kept.abbreviation }) h passed))

pub returns-in-Record-clause-read : goal.returns-in-Record-clause-read
returns-in-Record-clause-read c =
    let passed = rw (c.in-Some.is, c.in-Record.is) at c.in_ok-item.ensures.read in
    let by = rw (c.in-Some.is, c.in-Record.is) at c.in_ok-item.ensures.by in
    let there = operands_there c.args.scope.now.scope c.pass_judged.new.scope.scope c.args.cursor.now c.pass_judged.new.cursor c.in-Record.code c.in_ok-item.item.blob.now c.pass_judged.new.kept.abbreviation passed by in
    let left = rw (c.width-width.ensures, c.copy-place.ensures, c.admitted.ensures) at c.held.ensures.left in
    (there.0, left there.0 there.1)

pub returns-in-Record-clause-bare : goal.returns-in-Record-clause-bare
returns-in-Record-clause-bare c = rw c.held.ensures.event tt

pub returns-in-Record-clause-gave : goal.returns-in-Record-clause-gave
returns-in-Record-clause-gave c = λ ps h. (
    let passed = rw (c.in-Some.is, c.in-Record.is) at c.in_ok-item.ensures.read in
    let by = rw (c.in-Some.is, c.in-Record.is) at c.in_ok-item.ensures.by in
    let has_blob = rw (c.width-width.ensures, c.copy-place.ensures, c.admitted.ensures) at c.held.ensures.has_blob in
    let left = rw (c.width-width.ensures, c.copy-place.ensures, c.admitted.ensures) at c.held.ensures.left in
    rw (c.held.ensures.event, c.width-width.ensures, c.copy-place.ensures) (step_held c.args.scope.now.scope c.pass_judged.new.scope.scope c.args.cursor.now c.pass_judged.new.cursor c.in-Record.code c.in_ok-item.item.blob.now c.pass_judged.new.kept.abbreviation ps (record { spent = false; left = []; operands = list_of (left_by c.held.result.stage c.pass_judged.new.kept.abbreviation c.held.result.inner); has_blob = c.held.result.has_blob; blob = c.held.result.blob.now; abbreviation = c.pass_judged.new.kept.abbreviation }) h passed by (λ ns k. read_list _ ns (left ns k)) has_blob c.held.ensures.blob))
