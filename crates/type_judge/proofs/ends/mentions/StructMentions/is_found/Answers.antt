use Rattle.std.proofs.Common.{arith, ap, sym, subst, ◌∙◌, List, ℕ, length, false}
use Rattle.std.proofs.lemmas.List.{length-map, get_or_default}
use Rattle.std.specs.Global.{Vec}
use Rattle.type_judge.specs.Order.Order.{AreWithin, mention_lists}
use Rattle.type_judge.proofs.OnOrder.Gathered.{number_below, length-lists}
use Rattle.type_judge.proofs.OnOrder.Named.{are_within}
use Rattle.type_judge.specs.Ends.Mentioning.{AreMentions, structs_of}
use Rattle.type_judge.specs.Ends.Reach.{AreReached}
use Rattle.type_judge.proofs.OnEnds.Bridge.{not_there, answered}
use Rattle.type_judge.proofs.ends.mentions.StructMentions.is_found.Goals as goal

pub returns-in_default : goal.returns-in_default
unfolding AreMentions
returns-in_default c = sym (not_there (structs_of c.args.self.now) c.args.self.now.numbers c.requires.numbers c.args.name.now (sym c.in_default.ensures))

pub search_from-requires-clause-start : goal.search_from-requires-clause-start
unfolding AreMentions
search_from-requires-clause-start c =
    let all = c.args.self.now in
    let structs = structs_of all in
    let below = number_below 0 structs c.args.name.now c.in-Some.number (sym (c.requires.numbers.each c.args.name.now) ∙ sym c.in-Some.ensures) in
    let lists = ap length c.requires.lists in
    let count = length-lists all.numbers 0 structs in
    let plain = length-map all.lists.items (λ (v : Vec ℕ). v.items) in
    let same = ap (λ (vs : List (Vec ℕ)). length vs) c.deref.ensures.value in
    omega (arith, below, lists, count, plain, same)

pub search_from-requires-clause-within : goal.search_from-requires-clause-within
unfolding AreMentions
search_from-requires-clause-within c =
    let all = c.args.self.now in
    subst AreWithin (sym c.deref.ensures.value) (are_within (structs_of all) all.numbers all.lists.items c.requires.numbers c.requires.lists)

pub index-requires : goal.index-requires
unfolding AreMentions
index-requires c =
    let all = c.args.self.now in
    let structs = structs_of all in
    let below = number_below 0 structs c.args.name.now c.in-Some.number (sym (c.requires.numbers.each c.args.name.now) ∙ sym c.in-Some.ensures) in
    let lists = ap length c.requires.lists in
    let count = length-lists all.numbers 0 structs in
    let plain = length-map all.lists.items (λ (v : Vec ℕ). v.items) in
    let same = ap (λ (vs : List (Vec ℕ)). length vs) c.deref.ensures.value in
    omega (arith, below, lists, count, plain, same, c.in_ok-marks.ensures.count)

pub returns : goal.returns
unfolding AreMentions
returns c =
    let all = c.args.self.now in
    let structs = structs_of all in
    let below = number_below 0 structs c.args.name.now c.in-Some.number (sym (c.requires.numbers.each c.args.name.now) ∙ sym c.in-Some.ensures) in
    let lists = ap length c.requires.lists in
    let count = length-lists all.numbers 0 structs in
    let plain = length-map all.lists.items (λ (v : Vec ℕ). v.items) in
    let same = ap (λ (vs : List (Vec ℕ)). length vs) c.deref.ensures.value in
    let marks = c.in_ok-marks.marks.items in
    let reached = subst (λ (vs : List (Vec ℕ)). AreReached (mention_lists vs) c.in-Some.number marks) c.deref.ensures.value c.in_ok-marks.ensures.reached in
    let those = subst (λ (lists : List (List ℕ)). AreReached lists c.in-Some.number marks) c.requires.lists reached in
    c.index.ensures ∙ get_or_default marks c.in-Some.number c.index.result.now false (omega (arith, below, lists, count, plain, same, c.in_ok-marks.ensures.count))
    ∙ answered (structs_of all) all.numbers c.requires.numbers c.args.name.now c.in-Some.number marks (sym c.in-Some.ensures) those
