use Rattle.std.proofs.Common.{subst, sym, refl, List, ℕ}
use Rattle.type_judge.specs.Order.Order.{mention_lists}
use Rattle.type_judge.specs.Ends.Reach.{IsRising}
use Rattle.type_judge.proofs.OnEnds.Rising.{none_rise}
use Rattle.type_judge.proofs.ends.ranks.ranks_of.Goals as goal

pub returns-then-are_rising : goal.returns-then-are_rising
returns-then-are_rising c = subst (λ (ranks : List ℕ). IsRising (mention_lists c.args.mentions.now) ranks) c.deref.ensures.value (c.if-are_rising.ensures refl)

pub returns : goal.returns
returns c = subst (λ (ranks : List ℕ). IsRising (mention_lists c.args.mentions.now) ranks) (sym c.new.ensures.items) (none_rise (mention_lists c.args.mentions.now))
