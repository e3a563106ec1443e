use Rattle.std.proofs.Common.{◌≡◌, ◌+◌, ℕ, List, length, Some, slice_get, ap, sym, ◌∙◌, subst, arith}
use Rattle.instruction_verify.specs.Uses.Keys.{AreSlots, key_of}
use Rattle.instruction_verify.proofs.OnUses.ClassesTold.{slots_next, classes_told}
use Rattle.instruction_verify.proofs.uses.classes.classes_of.Goals as goal

pub loop-number-preserved : goal.loop-number-preserved
loop-number-preserved c =
    let a = c.args.arena.now in
    let types = c.args.types.now in
    let classes = c.loop-number.classes.items in
    let more = c.insert_full.new.self.keys in
    let constant = c.constant.result.now in
    let at : slice_get a.constants c.loop-number.number ≡ Some constant = ap (λ k. slice_get a.constants k) (sym c.new.ensures) ∙ c.constant.ensures in
    let key = c.in_ok-key.ensures ∙ ap (λ cs. key_of types cs constant) c.deref.ensures.value in
    subst (λ (cs : List ℕ). AreSlots a types cs more (c.loop-number.number + 1)) (sym c.in_ok-push.ensures.items)
    (slots_next a c.variable_count-count.ensures.good types classes c.loop-number.keys.keys more c.loop-number.number c.in_ok-class.class constant c.in_ok-key.key
    c.in_ok-class.ensures.stored.0 c.loop-number.invariant at key c.in_ok-class.ensures.keys c.in_ok-class.ensures.stored.1 c.in_ok-class.ensures.stored.2 c.in_ok-class.ensures.unique)

pub returns-clause-classes : goal.returns-clause-classes
returns-clause-classes c =
    let a = c.args.arena.now in
    let types = c.args.types.now in
    let whole : c.loop-number.number ≡ length a.constants = omega (arith, c.const_count-count.ensures) in
    classes_told a c.variable_count-count.ensures.good c.variable_count-count.ensures.distinct types c.loop-number.classes.items c.loop-number.keys.keys c.requires
    (subst (λ (n : ℕ). AreSlots a types c.loop-number.classes.items c.loop-number.keys.keys n) whole c.loop-number.invariant)
