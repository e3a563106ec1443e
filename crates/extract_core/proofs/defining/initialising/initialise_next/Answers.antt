use Rattle.std.proofs.Common.{◌≡◌, ◌+◌, ◌<◌, length, slice_get, refl, sym, subst, ap, ◌∙◌}
use Rattle.module_arena.specs.View.{module_of}
use Rattle.extract_core.specs.Fates.Fates.{variable_as}
use Rattle.extract_core.specs.Defining.Filling.{initialised_by, initialised_as, behind_made}
use Rattle.extract_core.proofs.OnDefining.Changed.{keeps_all_same}
use Rattle.extract_core.proofs.OnDefining.Initialisers.{variable_made}
use Rattle.extract_core.proofs.defining.initialising.initialise_next.Goals as goal

pub returns-in-LeftOut-clause-module : goal.returns-in-LeftOut-clause-module
returns-in-LeftOut-clause-module c = λ v at.
    let m = module_of c.args.into.now.arena in
    subst (λ f. m ≡ initialised_as m c.args.next (variable_as f v)) (sym c.in-LeftOut.is) refl

pub returns-in-LeftOut-clause-behind : goal.returns-in-LeftOut-clause-behind
returns-in-LeftOut-clause-behind c = λ v at. subst (λ f. c.args.next ≡ behind_made c.args.next (variable_as f v)) (sym c.in-LeftOut.is) refl

pub returns-in-LeftOut-clause-keeps : goal.returns-in-LeftOut-clause-keeps
returns-in-LeftOut-clause-keeps c = keeps_all_same c.args.into.now.arena

pub initialise_there-requires-clause-there : goal.initialise_there-requires-clause-there
initialise_there-requires-clause-there c = c.in_default.not-LeftOut

pub initialise_there-requires-clause-here : goal.initialise_there-requires-clause-here
initialise_there-requires-clause-here c = subst (λ k. k < length c.args.into.now.arena.variables) (sym c.new.ensures) (c.requires.here c.in_default.not-LeftOut)

pub initialise_there-requires-clause-undefined : goal.initialise_there-requires-clause-undefined
initialise_there-requires-clause-undefined c = λ v e. c.requires.undefined c.in_default.not-LeftOut v (ap (slice_get c.args.into.now.arena.variables) (sym c.new.ensures) ∙ e)

pub returns-in_ok-initialise_there-in_default-clause-module : goal.returns-in_ok-initialise_there-in_default-clause-module
returns-in_ok-initialise_there-in_default-clause-module c = λ v at.
    let m = module_of c.args.into.now.arena in
    let new = module_of c.initialise_there.new.into.arena in
    let w = variable_made c.args.fate v c.in_default.not-LeftOut in
    subst (λ o. new ≡ initialised_as m c.args.next o) (sym w.1)
    (subst (λ k. new ≡ initialised_by m k w.0.initialiser) c.new.ensures (c.in_ok-initialise_there-in_default.ensures.module v w.0 at w.1))

pub returns-in_ok-initialise_there-in_default-clause-behind : goal.returns-in_ok-initialise_there-in_default-clause-behind
returns-in_ok-initialise_there-in_default-clause-behind c = λ v at.
    let w = variable_made c.args.fate v c.in_default.not-LeftOut in
    subst (λ o. c.args.next + 1 ≡ behind_made c.args.next o) (sym w.1) refl
