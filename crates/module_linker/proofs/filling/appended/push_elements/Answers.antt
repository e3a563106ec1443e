use Rattle.std.proofs.Common.{◌≡◌, ◌++◌, List, [], ◌∷◌, Some, map, slice_get, sym, ap, ◌∙◌, subst}
use Rattle.std.proofs.lemmas.Result.{on_ok_weaker}
use Rattle.linkage_rules.specs.Ids.{modules, seen}
use Rattle.linkage_rules.proofs.Seen.{get_within}
use Rattle.module_arena.specs.declared.constant.TypedConst.{TypedConst}
use Rattle.item_build.specs.Types.Stands.{AreTyped}
use Rattle.entry_copy.specs.Moved.{moved_typed}
use Rattle.module_linker.specs.Filling.Elements.{elements_of_all}
use Rattle.module_linker.proofs.OnFilling.Joined.{elements_added, initialiser_there, no_initialiser_adds}
use Rattle.module_linker.proofs.filling.appended.push_elements.Goals as goal

pub elements_of-requires : goal.elements_of-requires
elements_of-requires c =
    let a = c.arena_of-arena.result.now in
    let v = c.variable.result.now in
    let at = subst (λ n. slice_get a.variables n ≡ Some v) c.new.ensures c.variable.ensures in
    initialiser_there c.args.parts.now c.args.id a c.arena_of-arena.ensures.arena c.requires.variable v at c.variable_count-good.ensures.good c.in-Some.initialiser c.in-Some.is

pub returns-in-Some : goal.returns-in-Some
returns-in-Some c = λ b before copied ids typed.
    let parts = c.args.parts.now in
    let id = c.args.id in
    let a = c.arena_of-arena.result.now in
    let there = c.arena_of-arena.ensures.arena in
    let v = c.variable.result.now in
    let t = c.copier_of.result.now in
    let k = c.in-Some.initialiser in
    let good = c.variable_count-good.ensures.good in
    let at = subst (λ n. slice_get a.variables n ≡ Some v) c.new.ensures c.variable.ensures in
    let x = get_within a.constants k (initialiser_there parts id a there c.requires.variable v at good k c.in-Some.is) in
    let more = before ++ elements_of_all (modules parts) (seen (modules parts) id ∷ []) in
    let made = elements_added parts id a there c.requires.variable v at good k c.in-Some.is x.0 x.1 b c.args.copiers.now t copied ids c.copier_of.ensures c.args.elements.now.items before typed in
    on_ok_weaker c.push_moved.result
    (λ pushed. subst (λ xs. AreTyped b xs more) (sym (pushed ∙ ap (λ (es : List TypedConst). c.args.elements.now.items ++ map (moved_typed t) es) (c.elements_of.ensures x.0 x.1))) made)
    c.push_moved.ensures

pub returns-in-None : goal.returns-in-None
returns-in-None c = λ b before copied ids typed.
    let a = c.arena_of-arena.result.now in
    let v = c.variable.result.now in
    let at = subst (λ n. slice_get a.variables n ≡ Some v) c.new.ensures c.variable.ensures in
    no_initialiser_adds c.args.parts.now c.args.id a c.arena_of-arena.ensures.arena c.requires.variable v at b c.args.elements.now.items before c.in-None.is typed
