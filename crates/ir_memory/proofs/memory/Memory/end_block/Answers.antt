use Rattle.std.proofs.Common.{◌∙◌, arith, ap, refl, sym, subst, ◌<◌, length}
use Rattle.ir_memory.proofs.Placed.{IsPlaced-ended, live_bytes-ended, changed-ended}
use Rattle.ir_memory.proofs.Known.{AreKnown-ended}
use Rattle.ir_memory.proofs.Search.{AreStarts-ended}
use Rattle.ir_memory.specs.Kept.{IsPlaced}
use Rattle.ir_memory.specs.Seen.{at, seen, all_seen}
use Rattle.ir_memory.proofs.Changed.{length-all}
use Rattle.ir_memory.proofs.Places.{read}
use Rattle.ir_memory.proofs.memory.Memory.end_block.Goals as goal

pub overflow_sub-self : goal.overflow_sub-self
overflow_sub-self c =
    let found = c.in-Some.ensures in
    let p = at c.self.inside.pieces in
    let kept = c.self.inside.kept in
    let b = seen p c.get-block.result.now in
    let is = read p kept c.in-Some.index c.get-block.result.now found.within c.get-block.ensures in
    let within : c.in-Some.index < length (all_seen p kept) = omega (arith, found.within, length-all p kept) in
    let lives = ap (λ x. x.live) c.get-block.ensures ∙ found.live _ in
    let live = live_bytes-ended (all_seen p kept) c.in-Some.index b within is (ap (λ x. x.live) (sym is) ∙ lives) in
    omega (arith, live)

pub invariant_of-self : goal.invariant_of-self
invariant_of-self c =
    let found = c.in-Some.ensures in
    let p = at c.self.inside.pieces in
    let kept = c.self.inside.kept in
    let b = seen p c.get-block.result.now in
    let is = read p kept c.in-Some.index c.get-block.result.now found.within c.get-block.ensures in
    let within : c.in-Some.index < length (all_seen p kept) = omega (arith, found.within, length-all p kept) in
    let lives = ap (λ x. x.live) c.get-block.ensures ∙ found.live _ in
    let live = live_bytes-ended (all_seen p kept) c.in-Some.index b within is (ap (λ x. x.live) (sym is) ∙ lives) in
    rw c.end-bytes.ensures.value (
      (
        subst (λ bs. IsPlaced 65536 bs c.self.inside.next) (sym (changed-ended (all_seen p kept) c.in-Some.index b within is)) (IsPlaced-ended c.in-Some.index (all_seen p kept) 65536 c.self.inside.next c.self.invariant.0.0),
        omega (arith, live),
        omega arith,
        c.self.invariant.0.3,
        AreKnown-ended (all_seen p kept) c.in-Some.index c.self.invariant.0.4,
      ),
      AreStarts-ended _ (all_seen p kept) c.in-Some.index within c.self.invariant.1,
      c.end-bytes.ensures.sound _ c.self.invariant.2,
      c.self.invariant.3,
    )

pub returns-clause-answer : goal.returns-clause-answer
returns-clause-answer c =
    let found = c.in-Some.ensures in
    let p = at c.self.inside.pieces in
    let kept = c.self.inside.kept in
    let b = seen p c.get-block.result.now in
    let is = read p kept c.in-Some.index c.get-block.result.now found.within c.get-block.ensures in
    let within : c.in-Some.index < length (all_seen p kept) = omega (arith, found.within, length-all p kept) in
    let e = changed-ended (all_seen p kept) c.in-Some.index b within is in
    rw (← c.self.view_is, ← found.value, c.end-bytes.ensures.value, e) refl
