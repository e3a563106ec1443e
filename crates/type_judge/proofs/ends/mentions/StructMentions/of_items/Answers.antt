use Rattle.std.proofs.Common.{subst, List, ℕ}
use Rattle.std.specs.Global.{Vec}
use Rattle.type_judge.specs.Order.Order.{mention_lists}
use Rattle.type_judge.specs.Ends.Mentioning.{AreMentions}
use Rattle.type_judge.specs.Ends.Reach.{IsRising}
use Rattle.type_judge.proofs.ends.mentions.StructMentions.of_items.Goals as goal

pub returns-clause-mentions : goal.returns-clause-mentions
unfolding AreMentions
returns-clause-mentions c = record {
  numbers = c.in_ok-numbers.ensures;
  lists = c.in_ok-lists.ensures;
  ranks = subst (λ (vs : List (Vec ℕ)). IsRising (mention_lists vs) c.in_ok-ranks.ranks.items) c.deref.ensures.value c.in_ok-ranks.ensures;
}
