use Rattle.std.proofs.Common.{arith, refl, below_more, ℕ}
use Rattle.std.proofs.lemmas.List.{length-map}
use Rattle.std.specs.Global.{Vec}
use Rattle.type_judge.specs.Order.Order.{mention_lists}
use Rattle.type_judge.proofs.OnEnds.Rising.{rise_all}
use Rattle.type_judge.proofs.ends.ranks.are_rising.Goals as goal

pub users-preserved : goal.users-preserved
users-preserved c = below_more _ _ c.users.invariant (c.if-not-is_rising_at.ensures refl)

pub returns : goal.returns
returns c told =
    let count = length-map c.args.mentions.now (λ (v : Vec ℕ). v.items) in
    rise_all (mention_lists c.args.mentions.now) c.args.ranks.now (λ last h. c.users.invariant last (omega (arith, count, h)))
