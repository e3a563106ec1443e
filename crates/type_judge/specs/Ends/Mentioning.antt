-- For `of_items` and `contains_itself` of `StructMentions`: what the structs of a text hold by value.
use Rattle.std.specs.Prelude.{◌≡◌}
use Rattle.ir_syntax.specs.View.{items_view}
use Rattle.type_table.specs.Tree.{Structs}
use Rattle.name_rules.specs.ModuleOf.{structs_in}
use Rattle.type_judge.specs.Order.Mentions.{AreNumbers, lists_from}
use Rattle.type_judge.specs.Order.Order.{mention_lists}
use Rattle.type_judge.specs.Ends.Reach.{IsRising}
use Rattle.type_judge.specs.declared.ends.mentions.StructMentions.{StructMentions}

-- the structs whose mentions these are
abbrev pub structs_of : StructMentions → Structs
structs_of all = structs_in (items_view all.items.now)

-- the numbers of these structs, the numbers of those that each of them holds, and ranks of them
pub record MentionFacts (all : StructMentions) : Type 0 where
  pub numbers : AreNumbers all.numbers (structs_of all)
  pub lists : mention_lists all.lists.items ≡ lists_from all.numbers 0 (structs_of all)
  pub ranks : IsRising (mention_lists all.lists.items) all.ranks.items

-- the same, in which no search looks
unfoldable pub AreMentions : StructMentions → Type 0
AreMentions all = MentionFacts all
