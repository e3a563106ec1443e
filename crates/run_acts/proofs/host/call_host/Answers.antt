use Rattle.std.proofs.Common.{map, ap, ◌∙◌}
use Rattle.run_actions.specs.Carried.{core_of}
use Rattle.run_rules.specs.Calls.{answered}
use Rattle.run_rules.specs.Host.{host}
use Rattle.run_names.specs.Shapes.Shapes.{shape_in}
use Rattle.run_acts.proofs.Hosts.{asked_are, takes_result, told_by}
use Rattle.run_acts.proofs.host.call_host.Goals as goal

pub call-requires-clause-made : goal.call-requires-clause-made
call-requires-clause-made c =
    let may = c.requires.may in
    let shapes = map (shape_in c.args.types.now) c.args.call.now.shapes.now in
    record { used = may.used; shapes = shapes; typed = may.typed; fit = may.fit; leaves = may.leaves; told = λ is. c.new-kinds.ensures ∙ asked_are c.args.types.now c.args.call.now.shapes.now }

pub take_answer-requires-clause-place : goal.take_answer-requires-clause-place
take_answer-requires-clause-place c =
    let k = c.args.call.now in
    let shapes = map (shape_in c.args.types.now) k.shapes.now in
    takes_result c.args.stack.now k.row shapes k.arguments.now k.to c.args.memory.now c.requires.may c.requires.row c.requires.memory c.call.new.memory c.args.written.now.items c.call.new.written.items c.in_ok-answer.answer
    c.requires.none (c.in_ok-answer.ensures.answer shapes (λ is. c.new-kinds.ensures ∙ asked_are c.args.types.now c.args.call.now.shapes.now))

pub returns-clause-called : goal.returns-clause-called
returns-clause-called c = λ due.
    let k = c.args.call.now in
    let s = c.args.stack.now in
    let m = c.args.memory.now in
    let n = c.call.new.memory in
    let shapes = map (shape_in c.args.types.now) k.shapes.now in
    ap (answered k.to (core_of s.frames due m))
    (told_by (host k.row shapes k.arguments.now m) n c.args.written.now.items c.call.new.written.items c.in_ok-answer.answer c.requires.none
    (c.in_ok-answer.ensures.answer shapes (λ is. c.new-kinds.ensures ∙ asked_are c.args.types.now c.args.call.now.shapes.now)))
    ∙ c.take_answer.ensures.answered due m n c.call.new.written.items c.in_ok-answer.ensures.kept
