use Rattle.std.proofs.Common.{◌∙◌, refl}
use Rattle.ir_memory.proofs.Finds.{access-none}
use Rattle.ir_memory.proofs.Places.{access-kept}
use Rattle.ir_memory.specs.Seen.{at, all_seen}
use Rattle.ir_memory.proofs.access.access.Goals as goal

pub returns-in_default-candidate-clause-value : goal.returns-in_default-candidate-clause-value
returns-in_default-candidate-clause-value c next =
    rw c.in-Ptr.is (access-none (record { list = all_seen (at c.args._pieces.now) c.args.kept.now; next = next; sealed = c.args.sealed }) c.args.asked.count c.args.asked.align c.args.asked.writes c.in-Ptr.pointer c.requires.some c.in_default-candidate.ensures.only)

pub returns-then-has_ended-clause-value : goal.returns-then-has_ended-clause-value
returns-then-has_ended-clause-value c next =
    let e = access-kept (at c.args._pieces.now) c.args.kept.now next c.args.sealed c.args.asked.count c.args.asked.align c.args.asked.writes c.in-Ptr.pointer c.in-Some.index c.get-block.result.now c.requires.some c.in-Some.ensures.only c.in-Some.ensures.within c.get-block.ensures in
    rw c.in-Ptr.is (e ∙ rw (← c.if-has_ended.ensures) refl)

pub returns-then-not-is_home-clause-value : goal.returns-then-not-is_home-clause-value
returns-then-not-is_home-clause-value c next =
    let e = access-kept (at c.args._pieces.now) c.args.kept.now next c.args.sealed c.args.asked.count c.args.asked.align c.args.asked.writes c.in-Ptr.pointer c.in-Some.index c.get-block.result.now c.requires.some c.in-Some.ensures.only c.in-Some.ensures.within c.get-block.ensures in
    rw c.in-Ptr.is (e ∙ rw (← c.if-has_ended.ensures, ← c.if-not-is_home.ensures) refl)

pub returns-then-is_fixed-clause-value : goal.returns-then-is_fixed-clause-value
returns-then-is_fixed-clause-value c next =
    let e = access-kept (at c.args._pieces.now) c.args.kept.now next c.args.sealed c.args.asked.count c.args.asked.align c.args.asked.writes c.in-Ptr.pointer c.in-Some.index c.get-block.result.now c.requires.some c.in-Some.ensures.only c.in-Some.ensures.within c.get-block.ensures in
    rw c.in-Ptr.is (e ∙ rw (← c.if-has_ended.ensures, ← c.if-not-is_home.ensures, ← c.if-is_fixed.ensures) refl)

pub returns-then-not-is_aligned-clause-value : goal.returns-then-not-is_aligned-clause-value
returns-then-not-is_aligned-clause-value c next =
    let e = access-kept (at c.args._pieces.now) c.args.kept.now next c.args.sealed c.args.asked.count c.args.asked.align c.args.asked.writes c.in-Ptr.pointer c.in-Some.index c.get-block.result.now c.requires.some c.in-Some.ensures.only c.in-Some.ensures.within c.get-block.ensures in
    rw c.in-Ptr.is (e ∙ rw (← c.if-has_ended.ensures, ← c.if-not-is_home.ensures, ← c.if-is_fixed.ensures, ← c.if-not-is_aligned.ensures) refl)

pub returns-clause-value : goal.returns-clause-value
returns-clause-value c next =
    let e = access-kept (at c.args._pieces.now) c.args.kept.now next c.args.sealed c.args.asked.count c.args.asked.align c.args.asked.writes c.in-Ptr.pointer c.in-Some.index c.get-block.result.now c.requires.some c.in-Some.ensures.only c.in-Some.ensures.within c.get-block.ensures in
    rw c.in-Ptr.is (e ∙ rw (← c.if-has_ended.ensures, ← c.if-not-is_home.ensures, ← c.if-is_fixed.ensures, ← c.if-not-is_aligned.ensures) refl)
