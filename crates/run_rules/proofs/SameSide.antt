-- Parts in which look-up, table and plan are the same have the same runs.
use Rattle.run_rules.specs.Same.{EqualLookUpsGiveEqualRuns}
use Rattle.run_rules.specs.Side.{run_of}

pub same_side : EqualLookUpsGiveEqualRuns
same_side ps qs alike arguments input bound =
    λ i. run_of (λ f b p. alike.same_actions f b p i) (λ a. alike.same_callees a i) (alike.same_plan i) arguments input bound
