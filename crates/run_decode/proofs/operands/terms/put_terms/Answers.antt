use Rattle.std.proofs.Common.{◌+◌, List, refl, sym, subst, arith}
use Rattle.std.proofs.lemmas.List.{take_all}
use Rattle.run_decode.specs.declared.operands.steps.Step.{Step}
use Rattle.run_decode.proofs.OnFlat.Growth.{adds_none, adds_then}
use Rattle.run_decode.specs.Operands.Open.{AreOpen}
use Rattle.run_decode.proofs.OnOperands.Summed.{open_more, open_none}
use Rattle.std.proofs.Common.{take}
use Rattle.run_decode.proofs.operands.terms.put_terms.Goals as goal

pub steps-init : goal.steps-init
steps-init c = record {
  grows = adds_none c.args.pools.now;
  terms = subst (AreOpen c.args.pools.now (take 0 c.args.steps.now)) (sym c.new-terms.ensures.items) (open_none c.args.pools.now c.args.steps.now);
}

pub steps-preserved : goal.steps-preserved
steps-preserved c = record {
  grows = adds_then c.args.pools.now c.steps.pools c.put_term.new.pools c.steps.invariant.grows c.in_ok-term.ensures.grows;
  terms =
      subst (AreOpen c.put_term.new.pools (take (c.steps.step-index + 1) c.args.steps.now)) (sym c.in_ok-push.ensures.items)
      (open_more c.steps.pools c.put_term.new.pools c.args.steps.now c.steps.step-index _ _ c.steps.terms.items c.in_ok-term.term c.in_ok-term.ensures.grows.grows c.steps-test.true refl c.in_ok-term.ensures.term c.steps.invariant.terms);
}

pub returns-clause-terms : goal.returns-clause-terms
returns-clause-terms c = subst (λ (ss : List Step). AreOpen c.steps.pools ss c.steps.terms.items) (take_all c.steps.step-index c.args.steps.now (omega arith)) c.steps.invariant.terms
