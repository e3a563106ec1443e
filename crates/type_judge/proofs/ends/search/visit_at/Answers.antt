use Rattle.std.proofs.Common.{◌≡◌, ◌<◌, arith, sym, subst, ◌∙◌, length, get_or}
use Rattle.std.proofs.lemmas.Result.{on_ok_weaker}
use Rattle.std.proofs.lemmas.List.{get_or_default}
use Rattle.type_judge.specs.Order.Order.{mentioned, mention_lists}
use Rattle.type_judge.proofs.OnOrder.Placed.{mentioned_at}
use Rattle.type_judge.proofs.OnEnds.Searching.{in_queue, within_at, searched_next}
use Rattle.type_judge.proofs.ends.search.visit_at.Goals as goal

pub bounds-mentions-number : goal.bounds-mentions-number
bounds-mentions-number c =
    let mentions = c.args.mentions.now in
    let queue = c.args.search.now.queue.items in
    let less : c.args.place < length queue = omega (arith, c.len.ensures) in
    let at : c.index-number.result.now ≡ get_or queue c.args.place 0 = c.index-number.ensures ∙ get_or_default queue c.args.place c.index-number.result.now 0 less in
    let low = in_queue c.args.search.now.marks.items queue c.args.place c.requires.marks less in
    let inside : c.index-number.result.now < length mentions = omega (arith, at, low, c.requires.count) in
    inside

pub visit-requires-clause-within : goal.visit-requires-clause-within
visit-requires-clause-within c =
    let mentions = c.args.mentions.now in
    let queue = c.args.search.now.queue.items in
    let less : c.args.place < length queue = omega (arith, c.len.ensures) in
    let at : c.index-number.result.now ≡ get_or queue c.args.place 0 = c.index-number.ensures ∙ get_or_default queue c.args.place c.index-number.result.now 0 less in
    let low = in_queue c.args.search.now.marks.items queue c.args.place c.requires.marks less in
    let inside : c.index-number.result.now < length mentions = omega (arith, at, low, c.requires.count) in
    within_at mentions c.index-number.result.now c.index-mentions-number.result c.deref.result.now (length c.args.search.now.marks.items) c.requires.within inside c.index-mentions-number.is c.deref.ensures.value c.requires.count

pub returns-clause-searched : goal.returns-clause-searched
returns-clause-searched c start was =
    let mentions = c.args.mentions.now in
    let queue = c.args.search.now.queue.items in
    let less : c.args.place < length queue = omega (arith, c.len.ensures) in
    let at : c.index-number.result.now ≡ get_or queue c.args.place 0 = c.index-number.ensures ∙ get_or_default queue c.args.place c.index-number.result.now 0 less in
    let low = in_queue c.args.search.now.marks.items queue c.args.place c.requires.marks less in
    let inside : c.index-number.result.now < length mentions = omega (arith, at, low, c.requires.count) in
    let list = mentioned_at mentions c.index-number.result.now c.index-mentions-number.result inside c.index-mentions-number.is ∙ sym c.deref.ensures.value in
    let there = subst (λ k. mentioned (mention_lists mentions) k ≡ c.deref.result.now) at list in
    on_ok_weaker c.visit.result (λ grown. searched_next (mention_lists mentions) start c.args.place queue c.visit.new.search.queue.items c.deref.result.now less there was grown) c.visit.ensures.grown
