use Rattle.run_decode.proofs.operands.terms.put_term.Goals as goal

pub returns-clause-term : goal.returns-clause-term
returns-clause-term c = record {
  within = c.in_ok-index.ensures.leaf.within;
  means = λ j. record { index = c.in_ok-index.ensures.leaf.means j; width = c.args.step.width; size = c.args.step.size };
  apart = c.is_counted.ensures;
  small = c.requires;
}
