use Rattle.std.proofs.Common.{arith, ap, sym, subst, ◌∙◌, List, ℕ, length, get_or}
use Rattle.std.proofs.lemmas.List.{length-map}
use Rattle.std.specs.Global.{Vec}
use Rattle.type_judge.specs.Order.Order.{mentioned, mention_lists}
use Rattle.type_judge.proofs.OnOrder.Gathered.{number_below, length-lists}
use Rattle.type_judge.specs.Ends.Mentioning.{AreMentions, structs_of}
use Rattle.type_judge.specs.Ends.Reach.{AreAbove, IsRising}
use Rattle.type_judge.proofs.OnEnds.Rising.{rises_away}
use Rattle.type_judge.proofs.ends.mentions.StructMentions.rises.Goals as goal

pub leads_up-requires : goal.leads_up-requires
unfolding AreMentions
leads_up-requires c =
    let all = c.args.self.now in
    let structs = structs_of all in
    let below = number_below 0 structs c.args.name.now c.in-Some.number (sym (c.requires.numbers.each c.args.name.now) ∙ sym c.in-Some.ensures) in
    let lists = ap length c.requires.lists in
    let count = length-lists all.numbers 0 structs in
    let plain = length-map all.lists.items (λ (v : Vec ℕ). v.items) in
    let same = ap (λ (vs : List (Vec ℕ)). length vs) c.deref-2.ensures.value in
    omega (arith, below, lists, count, plain, same)

pub returns : goal.returns
unfolding AreMentions
returns c up =
    let all = c.args.self.now in
    let ranks = all.ranks.items in
    let number = c.in-Some.number in
    let here = subst (λ (rs : List ℕ). AreAbove rs (get_or rs number 0) (mentioned (mention_lists c.deref-2.result.now) number)) c.deref.ensures.value (c.leads_up.ensures up) in
    let there = subst (λ (vs : List (Vec ℕ)). AreAbove ranks (get_or ranks number 0) (mentioned (mention_lists vs) number)) c.deref-2.ensures.value here in
    let those = subst (λ (ls : List (List ℕ)). AreAbove ranks (get_or ranks number 0) (mentioned ls number)) c.requires.lists there in
    let rising = subst (λ (ls : List (List ℕ)). IsRising ls ranks) c.requires.lists c.requires.ranks in
    rises_away (structs_of all) all.numbers c.requires.numbers ranks c.args.name.now number (sym c.in-Some.ensures) rising those
