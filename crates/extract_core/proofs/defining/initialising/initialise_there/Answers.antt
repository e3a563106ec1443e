use Rattle.std.proofs.Common.{◌<◌, length, slice_get, sym, subst, ap, ◌∙◌}
use Rattle.module_arena.specs.Changes.{variable_in}
use Rattle.module_arena.specs.View.{module_of}
use Rattle.extract_rules.proofs.Entries.{get_within}
use Rattle.extract_rules.proofs.Keeping.{variable_at}
use Rattle.entry_copy.specs.Initialisers.{IsInitialiser}
use Rattle.extract_core.specs.Defining.Filling.{initialised_by}
use Rattle.extract_core.proofs.OnDefining.Changed.{keeps_all_on, grown_keeps_all, initialised_keeps_all}
use Rattle.extract_core.proofs.OnDefining.Initialisers.{set_as, none_as, initialiser_known, variable_made}
use Rattle.extract_core.proofs.defining.initialising.initialise_there.Goals as goal

pub set_initialiser-requires-clause-known : goal.set_initialiser-requires-clause-known
set_initialiser-requires-clause-known c = subst (λ l. c.args.new < length l) (sym c.in_ok-value.ensures.grows.variables) c.requires.here

pub set_initialiser-requires-clause-undefined : goal.set_initialiser-requires-clause-undefined
set_initialiser-requires-clause-undefined c = λ v e. c.requires.undefined v (ap (λ l. slice_get l c.args.new) (sym c.in_ok-value.ensures.grows.variables) ∙ e)

pub set_initialiser-requires-clause-constant : goal.set_initialiser-requires-clause-constant
set_initialiser-requires-clause-constant c =
    let a = c.args.from.now in
    let b1 = c.initialiser_of.new.into.arena in
    let x = get_within a.variables c.args.id c.requires.known in
    let v = variable_in a x.0 in
    let w = variable_made c.args.fate v c.requires.there in
    initialiser_known b1 w.0.initialiser c.in-Some.value
    (subst (IsInitialiser b1 w.0.initialiser) c.in-Some.is (c.in_ok-value.ensures.is v w.0 (variable_at a c.args.id x.0 x.1) w.1))

pub returns-in-Some-clause-module : goal.returns-in-Some-clause-module
returns-in-Some-clause-module c = λ v w at makes.
    let b1 = c.initialiser_of.new.into.arena in
    c.set_initialiser.ensures.module
    ∙ set_as b1 (module_of b1) c.args.new w.initialiser c.in-Some.value (subst (IsInitialiser b1 w.initialiser) c.in-Some.is (c.in_ok-value.ensures.is v w at makes))
    ∙ ap (λ m. initialised_by m c.args.new w.initialiser) c.in_ok-value.ensures.grows.same

pub returns-in-Some-clause-keeps : goal.returns-in-Some-clause-keeps
returns-in-Some-clause-keeps c =
    let b = c.args.into.now.arena in
    let b1 = c.initialiser_of.new.into.arena in
    keeps_all_on b b1 c.set_initialiser.new.self (grown_keeps_all b b1 c.in_ok-value.ensures.grows) (initialised_keeps_all b1 c.set_initialiser.new.self c.args.new c.in-Some.value c.set_initialiser.ensures.set)

pub returns-in-None-clause-module : goal.returns-in-None-clause-module
returns-in-None-clause-module c = λ v w at makes.
    let b = c.args.into.now.arena in
    let b1 = c.initialiser_of.new.into.arena in
    c.in_ok-value.ensures.grows.same ∙ none_as b1 (module_of b) c.args.new w.initialiser (subst (IsInitialiser b1 w.initialiser) c.in-None.is (c.in_ok-value.ensures.is v w at makes))

pub returns-in-None-clause-keeps : goal.returns-in-None-clause-keeps
returns-in-None-clause-keeps c = grown_keeps_all c.args.into.now.arena c.initialiser_of.new.into.arena c.in_ok-value.ensures.grows
