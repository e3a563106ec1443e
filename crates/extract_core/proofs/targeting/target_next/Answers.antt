use Rattle.std.proofs.Common.{◌≡◌, ◌+◌, ◌<◌, length, refl, sym, subst}
use Rattle.module_arena.specs.View.{module_of}
use Rattle.item_build.specs.Types.Declarations.{AreUntargeted}
use Rattle.extract_core.specs.declared.fates.fates.Fate.TheVariants.{Kept}
use Rattle.extract_core.specs.Fates.Fates.{alias_as}
use Rattle.extract_core.specs.Defining.Filling.{targeted_as, behind_made}
use Rattle.extract_core.specs.Naming.{NamesOfAlias}
use Rattle.extract_core.proofs.targeting.target_next.Goals as goal

pub target_kept-requires-clause-here : goal.target_kept-requires-clause-here
target_kept-requires-clause-here c = subst (λ k. k < length c.args.into.now.arena.aliases) (sym c.new.ensures) (c.requires.here c.in-Kept.is)

pub target_kept-requires-clause-untargeted : goal.target_kept-requires-clause-untargeted
target_kept-requires-clause-untargeted c = subst (λ k. AreUntargeted k c.args.into.now.arena) (sym c.new.ensures) c.requires.untargeted

pub target_kept-requires-clause-target : goal.target_kept-requires-clause-target
target_kept-requires-clause-target c = λ x at. subst (λ f. NamesOfAlias c.args.copier.now f x) c.in-Kept.is (c.requires.target x at)

pub returns-in-Kept-clause-module : goal.returns-in-Kept-clause-module
returns-in-Kept-clause-module c = λ x at.
    let m = module_of c.args.into.now.arena in
    let new = module_of c.target_kept.new.into.arena in
    subst (λ f. new ≡ targeted_as m c.args.next (alias_as f x)) (sym c.in-Kept.is)
    (subst (λ k. new ≡ targeted_as m k (alias_as Kept x)) c.new.ensures (c.target_kept.ensures.module x at))

pub returns-in-Kept-clause-behind : goal.returns-in-Kept-clause-behind
returns-in-Kept-clause-behind c = λ x at. subst (λ f. c.args.next + 1 ≡ behind_made c.args.next (alias_as f x)) (sym c.in-Kept.is) refl

pub returns-in-Kept-clause-untargeted : goal.returns-in-Kept-clause-untargeted
returns-in-Kept-clause-untargeted c = subst (λ k. AreUntargeted (k + 1) c.target_kept.new.into.arena) c.new.ensures c.target_kept.ensures.untargeted

pub returns-in-Declared-clause-module : goal.returns-in-Declared-clause-module
returns-in-Declared-clause-module c = λ x at.
    let m = module_of c.args.into.now.arena in
    subst (λ f. m ≡ targeted_as m c.args.next (alias_as f x)) (sym c.in-Declared.is) refl

pub returns-in-Declared-clause-behind : goal.returns-in-Declared-clause-behind
returns-in-Declared-clause-behind c = λ x at. subst (λ f. c.args.next ≡ behind_made c.args.next (alias_as f x)) (sym c.in-Declared.is) refl

pub returns-in-LeftOut-clause-module : goal.returns-in-LeftOut-clause-module
returns-in-LeftOut-clause-module c = λ x at.
    let m = module_of c.args.into.now.arena in
    subst (λ f. m ≡ targeted_as m c.args.next (alias_as f x)) (sym c.in-LeftOut.is) refl

pub returns-in-LeftOut-clause-behind : goal.returns-in-LeftOut-clause-behind
returns-in-LeftOut-clause-behind c = λ x at. subst (λ f. c.args.next ≡ behind_made c.args.next (alias_as f x)) (sym c.in-LeftOut.is) refl
