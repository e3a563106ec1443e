use Rattle.std.proofs.Common.{◌≡◌, ℕ, ◌+◌, ◌<◌, ◌≤◌, ◌++◌, length, sym, ap, ◌∙◌, subst}
use Rattle.run_actions.specs.Stack.UnderWay.{newest}
use Rattle.run_actions.proofs.OnAccesses.Loading.{value_long}
use Rattle.run_actions.proofs.accesses.loads.load_any.Goals as goal

pub give_all-requires-clause-places : goal.give_all-requires-clause-places
give_all-requires-clause-places c =
    let a = c.args in
    let read = c.in-Ok.ensures.value in
    let long : length c.deref.result.now ≡ length a.slots.now =
    ap length (c.deref.ensures.value ∙ read.2 ∙ ap (λ l. l ++ read.0) c.clear.ensures.items) ∙ value_long a.memory.now c.read-place.result a.align a.slots.now read.0 read.1 in
    subst (λ (n : ℕ). 0 < n → a.to + n ≤ length (newest a.stack.now.frames).leaves) (sym long) c.requires.places
