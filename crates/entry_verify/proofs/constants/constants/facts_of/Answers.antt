use Rattle.std.proofs.Common.{◌≡◌, ◌≤◌, ℕ, List, [], ◌∷◌, ◌++◌, Some, length, map, slice_get, sym, ap, ◌∙◌, subst, arith}
use Rattle.std.proofs.lemmas.List.{take_all}
use Rattle.module_arena.specs.Changes.{constant_in}
use Rattle.module_arena.specs.Known.{KnowsConst, counts}
use Rattle.module_arena.specs.Module.{Constant}
use Rattle.module_arena.specs.View.{constants_of, module_of}
use Rattle.module_arena.proofs.ModuleOf.{length-constants_of}
use Rattle.entry_verify.specs.Constants.ConstantParts.{const_fact}
use Rattle.entry_verify.specs.declared.constants.constants.ConstFact.{ConstFact}
use Rattle.module_arena.proofs.ConstantsTold.{const_known, constant_got}
use Rattle.entry_verify.proofs.OnConstants.WholeTold.{mapped_next, so_many}
use Rattle.entry_verify.proofs.constants.constants.facts_of.Goals as goal

pub fact_of-fact-requires-clause-known : goal.fact_of-fact-requires-clause-known
fact_of-fact-requires-clause-known c =
    let a = c.args.arena.now in
    let k = c.constant.result.now in
    let number = c.loop-number.number in
    let few : number ≤ length (constants_of a) = omega (arith, length-constants_of a) in
    let seen : length c.deref.result.now ≡ number =
    ap (λ (fs : List ConstFact). length fs) (c.deref.ensures.value ∙ c.loop-number.invariant) ∙ so_many (const_fact (module_of a)) (constants_of a) number few in
    subst (λ (n : ℕ). KnowsConst (length a.table.types) (counts a) n k) (c.new.ensures ∙ sym seen) (const_known a c.variable_count-count.ensures.good c.new.result k c.constant.ensures)

pub loop-number-preserved : goal.loop-number-preserved
loop-number-preserved c =
    let a = c.args.arena.now in
    let k = c.constant.result.now in
    let number = c.loop-number.number in
    let at : slice_get a.constants number ≡ Some k = ap (λ (n : ℕ). slice_get a.constants n) (sym c.new.ensures) ∙ c.constant.ensures in
    c.in_ok-push.ensures.items
    ∙ (λ j. c.loop-number.invariant j ++ c.fact_of-fact.ensures j ∷ [])
    ∙ mapped_next (const_fact (module_of a)) (constants_of a) number (constant_in a k) (constant_got a c.variable_count-count.ensures.good number k at)

pub returns : goal.returns
returns c =
    let a = c.args.arena.now in
    c.loop-number.invariant
    ∙ ap (λ (cs : List Constant). map (const_fact (module_of a)) cs) (take_all c.loop-number.number (constants_of a) (omega (arith, length-constants_of a)))
