use Rattle.std.proofs.Common.{◌≡◌, ap, ◌∙◌, subst, sym}
use Rattle.run_actions.specs.Hosts.Made.{EndsOrReads}
use Rattle.run_actions.specs.Carried.{core_of}
use Rattle.run_names.specs.Host.Answers.{answer_of, leaves_of}
use Rattle.run_names.specs.declared.host.answer.HostAnswer.{HostAnswer}
use Rattle.run_rules.specs.Calls.{answered}
use Rattle.run_rules.specs.State as states
use Rattle.run_acts.specs.declared.next.Next.{Next}
use Rattle.run_acts.specs.Made.{TakesResult}
use Rattle.run_acts.specs.Said.{next_of}
use Rattle.run_acts.proofs.Hosts.{asks_for, gives_value}
use Rattle.run_acts.proofs.Readiness.{ready_valued}
use Rattle.run_acts.proofs.host.take_answer.Goals as goal

pub give-requires : goal.give-requires
give-requires c = subst (TakesResult c.args.stack.now c.args.to) c.in-Gives.is c.requires.place

pub returns-in-Gives-clause-answered : goal.returns-in-Gives-clause-answered
returns-in-Gives-clause-answered c = λ due m n output kept.
    let s = c.args.stack.now in
    let t = c.give.new.stack in
    subst (λ (a : HostAnswer). answered c.args.to (core_of s.frames due m) (answer_of a n output) ≡ states.Goes (core_of t.frames due n) output) (sym c.in-Gives.is)
    (gives_value s c.args.to due m n output (leaves_of c.in-Gives.given) t c.give.ensures)

pub returns-in-Gives-clause-ready : goal.returns-in-Gives-clause-ready
returns-in-Gives-clause-ready c = λ p. ready_valued p c.args.stack.now c.give.new.stack c.args.to (leaves_of c.in-Gives.given) c.give.ensures

pub returns-in-Reads-clause-answered : goal.returns-in-Reads-clause-answered
returns-in-Reads-clause-answered c = λ due m n output kept.
    let s = c.args.stack.now in
    subst (λ (a : HostAnswer). answered c.args.to (core_of s.frames due m) (answer_of a n output) ≡ states.Gets c.args.to (core_of s.frames due n)) (sym c.in-Reads.is)
    (asks_for s c.args.to due m n output (kept (subst EndsOrReads (sym c.in-Reads.is) tt)))

pub returns-in-Reads-clause-ready : goal.returns-in-Reads-clause-ready
returns-in-Reads-clause-ready c = λ p h. h

pub returns-in-Exits-clause-answered : goal.returns-in-Exits-clause-answered
returns-in-Exits-clause-answered c = λ due m n output kept. ap (λ (a : HostAnswer). answered c.args.to (core_of c.args.stack.now.frames due m) (answer_of a n output)) c.in-Exits.is

pub returns-in-Exits-clause-ready : goal.returns-in-Exits-clause-ready
returns-in-Exits-clause-ready c = λ p h. h

pub returns-in-Fails-clause-answered : goal.returns-in-Fails-clause-answered
returns-in-Fails-clause-answered c = λ due m n output kept.
    let s = c.args.stack.now in
    ap (λ (a : HostAnswer). answered c.args.to (core_of s.frames due m) (answer_of a n output)) c.in-Fails.is ∙ ap (λ (x : Next). next_of x (core_of s.frames due n) output) (sym c.fails.ensures)

pub returns-in-Fails-clause-ready : goal.returns-in-Fails-clause-ready
returns-in-Fails-clause-ready c = λ p h. h

pub returns-in-MemoryLimit-clause-answered : goal.returns-in-MemoryLimit-clause-answered
returns-in-MemoryLimit-clause-answered c = λ due m n output kept. ap (λ (a : HostAnswer). answered c.args.to (core_of c.args.stack.now.frames due m) (answer_of a n output)) c.in-MemoryLimit.is

pub returns-in-MemoryLimit-clause-ready : goal.returns-in-MemoryLimit-clause-ready
returns-in-MemoryLimit-clause-ready c = λ p h. h
