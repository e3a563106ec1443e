use Rattle.std.proofs.Common.{◌≡◌, ◌+◌, ◌<◌, length, slice_get, refl, sym, subst, ap, ◌∙◌}
use Rattle.module_arena.specs.View.{module_of}
use Rattle.extract_core.specs.declared.fates.fates.Fate.TheVariants.{Kept}
use Rattle.extract_core.specs.Fates.Fates.{function_as}
use Rattle.extract_core.specs.Defining.Filling.{defined_as, behind_made}
use Rattle.extract_core.specs.Defining.Naming.{NamesOfFunction}
use Rattle.extract_core.proofs.OnDefining.Changed.{keeps_all_same}
use Rattle.extract_core.proofs.defining.defining.define_next.Goals as goal

pub returns-in-LeftOut-clause-module : goal.returns-in-LeftOut-clause-module
returns-in-LeftOut-clause-module c = λ f at.
    let m = module_of c.args.into.now.arena in
    subst (λ y. m ≡ defined_as m c.args.next (function_as y f)) (sym c.in-LeftOut.is) refl

pub returns-in-LeftOut-clause-behind : goal.returns-in-LeftOut-clause-behind
returns-in-LeftOut-clause-behind c = λ f at. subst (λ y. c.args.next ≡ behind_made c.args.next (function_as y f)) (sym c.in-LeftOut.is) refl

pub returns-in-LeftOut-clause-keeps : goal.returns-in-LeftOut-clause-keeps
returns-in-LeftOut-clause-keeps c = keeps_all_same c.args.into.now.arena

pub returns-in-Declared-clause-module : goal.returns-in-Declared-clause-module
returns-in-Declared-clause-module c = λ f at.
    let m = module_of c.args.into.now.arena in
    subst (λ y. m ≡ defined_as m c.args.next (function_as y f)) (sym c.in-Declared.is) refl

pub returns-in-Declared-clause-behind : goal.returns-in-Declared-clause-behind
returns-in-Declared-clause-behind c = λ f at. subst (λ y. c.args.next + 1 ≡ behind_made c.args.next (function_as y f)) (sym c.in-Declared.is) refl

pub returns-in-Declared-clause-keeps : goal.returns-in-Declared-clause-keeps
returns-in-Declared-clause-keeps c = keeps_all_same c.args.into.now.arena

pub define_kept-requires-clause-here : goal.define_kept-requires-clause-here
define_kept-requires-clause-here c = subst (λ k. k < length c.args.into.now.arena.functions) (sym c.new.ensures) (c.requires.here c.in-Kept.is)

pub define_kept-requires-clause-undefined : goal.define_kept-requires-clause-undefined
define_kept-requires-clause-undefined c = λ f e. c.requires.undefined c.in-Kept.is f (ap (slice_get c.args.into.now.arena.functions) (sym c.new.ensures) ∙ e)

pub define_kept-requires-clause-parameters : goal.define_kept-requires-clause-parameters
define_kept-requires-clause-parameters c = λ f g at there. c.requires.parameters c.in-Kept.is f g at (ap (slice_get (module_of c.args.into.now.arena).functions) (sym c.new.ensures) ∙ there)

pub define_kept-requires-clause-names : goal.define_kept-requires-clause-names
define_kept-requires-clause-names c = λ f at. subst (λ y. NamesOfFunction c.args.from.now c.args.copier.now y f) c.in-Kept.is (c.requires.names f at)

pub returns-in_ok-define_kept-in-Kept-clause-module : goal.returns-in_ok-define_kept-in-Kept-clause-module
returns-in_ok-define_kept-in-Kept-clause-module c = λ f at.
    let m = module_of c.args.into.now.arena in
    let new = module_of c.define_kept.new.into.arena in
    subst (λ y. new ≡ defined_as m c.args.next (function_as y f)) (sym c.in-Kept.is)
    (subst (λ k. new ≡ defined_as m k (function_as Kept f)) c.new.ensures (c.in_ok-define_kept-in-Kept.ensures.module f at))

pub returns-in_ok-define_kept-in-Kept-clause-behind : goal.returns-in_ok-define_kept-in-Kept-clause-behind
returns-in_ok-define_kept-in-Kept-clause-behind c = λ f at. subst (λ y. c.args.next + 1 ≡ behind_made c.args.next (function_as y f)) (sym c.in-Kept.is) refl
