use Rattle.std.proofs.Common.{◌+◌, ◌*◌, ◌^◌, ◌≤◌, All, List, drop, length, refl, sym, ap, ◌∙◌, subst, arith}
use Rattle.std.specs.Int.{w128}
use Rattle.std.proofs.lemmas.Int.{to_z-of_z}
use Rattle.std.proofs.lemmas.List.{length-take}
use Rattle.std.proofs.lemmas.Option.{same_Some, slice_get_within}
use Rattle.run_rules.specs.Frame.{read}
use Rattle.run_actions.specs.Stack.UnderWay.{newest}
use Rattle.run_actions.specs.Accesses.Near.{IsNear}
use Rattle.run_decode.specs.declared.flat.action.Term.{Term}
use Rattle.run_decode.specs.Flat.Flat.{IsTermIn}
use Rattle.run_decode.specs.Flat.Spans.{spanned}
use Rattle.run_acts.specs.Classes.May.{IsIndexed}
use Rattle.run_acts.proofs.OnClasses.Reached.{near_enough, near_fits, near_still, reached_all, reached_more}
use Rattle.run_acts.proofs.classes.distance.reach_of_terms.Goals as goal

pub at-requires : goal.at-requires
at-requires c = slice_get_within c.args.pools.now.sums c.args.sum c.requires.summed.total c.requires.summed.total_there

pub terms-init : goal.terms-init
terms-init c =
    let near = c.requires.summed.near in
    let same = same_Some c.requires.summed.total c.at.result.now (sym c.requires.summed.total_there ∙ c.at.ensures) in
    let here = subst (IsNear (2 ^ 124)) same near in
    let passed = to_z-of_z w128 c.at.result.now (near_fits c.at.result.now here) in
    record { reached = refl; near = subst (IsNear (2 ^ 124 + 0 * 2 ^ 103)) (sym passed) (omega (arith, here)) }

pub with_term-all-requires : goal.with_term-all-requires
with_term-all-requires c =
    let p = c.args.pools.now in
    let here = c.in_span-listed.ensures in
    let lt = c.terms-test.true in
    let count = length-take c.args.terms.count (drop c.args.terms.first p.terms) in
    let long = ap (λ (xs : List Term). length xs) here in
    let few = c.requires.summed.few in
    record {
      leaf = (subst (All (IsTermIn p)) (sym here) c.requires.summed.leaves) c.terms.term-index _ lt;
      index = (subst (All (IsIndexed c.args.stack.now p)) (sym here) c.requires.indexed) c.terms.term-index _ lt;
      size = (subst (All (λ (t : Term). t.size ≤ 2 ^ 40)) (sym here) c.requires.summed.sizes) c.terms.term-index _ lt;
      near = near_enough c.terms.all c.terms.term-index (length c.in_span-listed.result.now) lt (omega (arith, long, count, few)) c.terms.invariant.near;
    }

pub terms-preserved : goal.terms-preserved
terms-preserved c =
    let p = c.args.pools.now in
    let after = c.with_term-all.result in
    let k = c.terms.term-index in
    record {
      reached =
          reached_more p (read (newest c.args.stack.now.frames)) c.in_span-listed.result.now k _ c.terms.all after c.terms-test.true c.with_term-all.ensures.value ∙ c.terms.invariant.reached;
      near = near_still after k (c.with_term-all.ensures.near (2 ^ 124 + k * 2 ^ 103) c.terms.invariant.near);
    }

pub returns : goal.returns
returns c =
    let p = c.args.pools.now in
    let read_here = read (newest c.args.stack.now.frames) in
    let same = same_Some c.at.result.now c.requires.summed.total (sym c.at.ensures ∙ c.requires.summed.total_there) in
    let passed = to_z-of_z w128 c.at.result.now (near_fits c.at.result.now (subst (IsNear (2 ^ 124)) (sym same) c.requires.summed.near)) in
    reached_all p read_here c.in_span-listed.result.now (spanned p.terms c.args.terms) c.terms.term-index c.terms.all _ c.requires.summed.total (omega arith) c.in_span-listed.ensures (passed ∙ same) c.terms.invariant.reached
    (c.requires.summed.gathered read_here (λ leaf. refl))
