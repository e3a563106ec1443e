use Rattle.std.proofs.Common.{sym, ◌∙◌}
use Rattle.std.proofs.lemmas.Bool.{and_parts}
use Rattle.instruction_verify.proofs.passing.ending_passes.Goals as goal

pub returns-clause-first : goal.returns-clause-first
returns-clause-first c values blocks number e =
    let fact = c.ending_fact-fact.ensures values blocks in
    let first = and_parts _ _ (and_parts _ _ e).0 in
    (sym (λ j. (fact j).takes_no_intrinsic) ∙ first.0, (sym (λ j. (fact j).types_suit) ∙ first.1, tt))

pub returns-clause-types : goal.returns-clause-types
returns-clause-types c f values blocks number same e =
    let fact = c.ending_fact-fact.ensures values blocks in
    let second = and_parts _ _ (and_parts _ _ e).1 in
    (c.plain_ending_suits-suits.ensures f values blocks same second.0, (sym (λ j. (fact j).fits) ∙ second.1, tt))
