use Rattle.std.proofs.Common.{◌≡◌, ◌+◌, ℕ, List, [], ◌∷◌, ◌++◌, length, Some, slice_get, ap, sym, ◌∙◌, subst, arith}
use Rattle.entry_verify.specs.Types.Classes.{AreSlots, key_of}
use Rattle.entry_verify.proofs.OnTypes.ClassesTold.{slots_next, classes_told}
use Rattle.entry_verify.proofs.types.classes.classes_of.Goals as goal

pub loop-number-preserved : goal.loop-number-preserved
loop-number-preserved c =
    let t = c.args.types.now in
    let classes = c.loop-number.classes.items in
    let more = c.insert_full.new.self.keys in
    let ty = c.get.result.now in
    let at : slice_get t.types c.loop-number.number ≡ Some ty = ap (λ k. slice_get t.types k) (sym c.new.ensures) ∙ c.get.ensures in
    let key = c.in_ok-key.ensures ∙ ap (λ cs. key_of cs ty) c.deref.ensures.value in
    let pushed = c.in_ok-push.ensures.items ∙ ap (λ k. classes ++ k ∷ []) c.new-in-loop-number.ensures in
    subst (λ (cs : List ℕ). AreSlots t cs more (c.loop-number.number + 1)) (sym pushed)
    (slots_next t c.type_count-number-end.ensures.good classes c.loop-number.keys.keys more c.loop-number.number c.in_ok-class.class ty c.in_ok-key.key
    c.in_ok-class.ensures.stored.0 c.loop-number.invariant at key c.in_ok-class.ensures.keys c.in_ok-class.ensures.stored.1 c.in_ok-class.ensures.stored.2 c.in_ok-class.ensures.unique)

pub returns : goal.returns
returns c =
    let t = c.args.types.now in
    let whole : c.loop-number.number ≡ length t.types = omega (arith, c.type_count-number-end.ensures.count) in
    classes_told t c.type_count-number-end.ensures.good c.loop-number.classes.items c.loop-number.keys.keys
    (subst (λ (n : ℕ). AreSlots t c.loop-number.classes.items c.loop-number.keys.keys n) whole c.loop-number.invariant)
