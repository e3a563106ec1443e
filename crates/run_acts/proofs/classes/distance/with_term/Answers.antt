use Rattle.std.proofs.Common.{◌+◌, ◌*◌, ◌^◌, Option, ℤ, length, sym, ap, ◌∙◌, subst, arith}
use Rattle.std.specs.Prelude.{IfSome}
use Rattle.ir_eval.specs.declared.value.Scalar.{Scalar}
use Rattle.ir_eval.specs.Value.{IsInteger}
use Rattle.run_rules.specs.Displace.{reach, sum_of}
use Rattle.run_rules.specs.Frame.{read}
use Rattle.run_actions.specs.Stack.UnderWay.{newest}
use Rattle.run_actions.specs.Accesses.Near.{IsNear}
use Rattle.run_acts.proofs.OnClasses.Reached.{is_gathered, near_more, not_gathered, sum_near, there_from}
use Rattle.run_acts.proofs.classes.distance.with_term.Goals as goal

pub read-index-requires : goal.read-index-requires
read-index-requires c =
    there_from c.args.pools.now (length (newest c.args.stack.now.frames).leaves) c.origin.result c.args.term.now.index c.origin.ensures c.requires.index.there

pub reach-requires-clause-index : goal.reach-requires-clause-index
reach-requires-clause-index c =
    subst (IsInteger c.args.term.now.width) (sym (c.read-index.ensures ∙ ap (read (newest c.args.stack.now.frames)) c.origin.ensures)) c.requires.index.index

pub sum-requires-clause-second : goal.sum-requires-clause-second
sum-requires-clause-second c = near_more c.reach.result (2 ^ 63 * 2 ^ 40) (2 ^ 125) (omega arith) c.reach.ensures.near

pub returns-clause-value : goal.returns-clause-value
returns-clause-value c =
    let t = c.args.term.now in
    c.sum.ensures
    ∙ ap (sum_of c.args.before) (c.reach.ensures.value ∙ ap (λ (v : Scalar). reach v t.width t.size) (c.read-index.ensures ∙ ap (read (newest c.args.stack.now.frames)) c.origin.ensures))
    ∙ not_gathered t.gathered c.args.before _ c.if-term.false

pub returns-clause-near : goal.returns-clause-near
returns-clause-near c = λ most h. subst (λ (o : Option ℤ). IfSome o (IsNear (most + 2 ^ 103))) (sym c.sum.ensures) (sum_near c.args.before c.reach.result most (2 ^ 103) h c.reach.ensures.near)

pub returns-then-term-clause-value : goal.returns-then-term-clause-value
returns-then-term-clause-value c = is_gathered c.args.term.now.gathered c.args.before _ c.if-term.true

pub returns-then-term-clause-near : goal.returns-then-term-clause-near
returns-then-term-clause-near c = λ most h. near_more c.args.before most (most + 2 ^ 103) (omega arith) h
