use Rattle.std.proofs.Common.{arith, subst, refl, ap, sym, ◌∙◌, ◌<◌, ◌≤◌, ◌+◌, ◌^◌, ◌++◌, ◌∷◌, [], length}
use Rattle.std.proofs.lemmas.List.{length-append}
use Rattle.ir_memory.specs.MemoryBlock.{new_block}
use Rattle.ir_memory.specs.Seen.{at, all_seen}
use Rattle.ir_memory.proofs.Placed.{IsPlaced-push, live_bytes-push}
use Rattle.ir_memory.proofs.Known.{AreKnown-added}
use Rattle.ir_memory.specs.Find.{AreBefore, AreStarts, noted}
use Rattle.ir_memory.proofs.Search.{AreBefore-added, AreStarts-added}
use Rattle.ir_memory.proofs.Changed.{length-all, seen-added, sound-added}
use Rattle.ir_memory.proofs.memory.Memory.add_block.Goals as goal

pub invariant_of-self-2 : goal.invariant_of-self-2
invariant_of-self-2 c =
    let low : c.self.inside.next ≤ 2 ^ 61 = rw (← c.self.view_is) at c.requires.next in
    let p = at c.self.inside.pieces in
    let kept = c.self.inside.kept in
    let start = c.round_up-start.result in
    let small : start + c.args.size + 16 < 2 ^ 62 = omega arith in
    let new = seen-added p kept c.self.inside.next start c.args.size c.args.kind c.self.invariant.2 c.round_up-start.ensures.above small in
    let there = c.in_default.ensures.pushed ∙ ap (λ b. kept ++ b ∷ []) c.new-block.ensures in
    let starts = c.self.inside.starts.items in
    let block = new_block start c.args.size c.args.kind in
    let now = c.in_ok-note.ensures.noted ∙ ap (λ n. noted n start starts) (c.len-index.ensures ∙ sym (length-all p kept)) in
    rw (there, new, now) (
      (
        IsPlaced-push (all_seen p kept) _ 65536 c.self.inside.next c.self.invariant.0.0 (omega arith),
        rw live_bytes-push (omega arith),
        omega arith,
        omega arith,
        AreKnown-added (all_seen p kept) _ _ _ (length (all_seen p kept)) _ (rw length-append (omega arith)) c.self.invariant.0.4,
      ),
      AreStarts-added starts (all_seen p kept) block c.self.inside.next c.self.invariant.1 c.self.invariant.3 c.self.invariant.0.0 c.round_up-start.ensures.above,
      sound-added p kept c.self.inside.next start c.args.size c.args.kind c.self.invariant.2 c.round_up-start.ensures.above small,
      AreBefore-added starts (all_seen p kept) block c.self.inside.next c.self.invariant.1 c.self.invariant.3 c.self.invariant.0.0 c.round_up-start.ensures.above _ (omega arith),
    )

pub invariant_of-self : goal.invariant_of-self
invariant_of-self c = c.self.invariant

pub invariant_of-self-in_err-note : goal.invariant_of-self-in_err-note
invariant_of-self-in_err-note c =
    let same = sym c.in_err-note.ensures.err in (
      c.self.invariant.0,
      subst (λ s. AreStarts s (all_seen (at c.self.inside.pieces) c.self.inside.kept)) same c.self.invariant.1,
      c.self.invariant.2,
      subst (λ s. AreBefore s c.self.inside.next) same c.self.invariant.3,
    )

pub invariant_of-self-in-Err : goal.invariant_of-self-in-Err
invariant_of-self-in-Err c =
    let same = sym (c.forget.ensures c.self.inside.starts.items c.round_up-start.result c.in_ok-note.ensures.noted) in
    rw c.in-Err.ensures.err (
      c.self.invariant.0,
      subst (λ s. AreStarts s (all_seen (at c.self.inside.pieces) c.self.inside.kept)) same c.self.invariant.1,
      c.self.invariant.2,
      subst (λ s. AreBefore s c.self.inside.next) same c.self.invariant.3,
    )

pub returns-clause-added : goal.returns-clause-added
returns-clause-added c =
    let low : c.self.inside.next ≤ 2 ^ 61 = rw (← c.self.view_is) at c.requires.next in
    let p = at c.self.inside.pieces in
    let kept = c.self.inside.kept in
    let start = c.round_up-start.result in
    let small : start + c.args.size + 16 < 2 ^ 62 = omega arith in
    let new = seen-added p kept c.self.inside.next start c.args.size c.args.kind c.self.invariant.2 c.round_up-start.ensures.above small in
    let there = c.in_default.ensures.pushed ∙ ap (λ b. kept ++ b ∷ []) c.new-block.ensures in
    rw (← c.self.view_is, there, new, ← c.round_up-start.ensures.value) refl
