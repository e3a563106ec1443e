use Rattle.std.proofs.Common.{◌<◌, length, slice_get, sym, subst, ap, ◌∙◌}
use Rattle.std.proofs.lemmas.Option.{same_Some, slice_get_within}
use Rattle.linkage_rules.specs.Globals.{initialiser_of}
use Rattle.linkage_rules.specs.Ids.{modules, seen}
use Rattle.module_arena.specs.Lists.{Lists}
use Rattle.module_arena.specs.View.{module_of}
use Rattle.module_arena.specs.declared.entry.GlobalId.TheVariants as global
use Rattle.module_arena.specs.declared.entry.Variable.{Variable}
use Rattle.link_rules.specs.Linked.{joined_initialiser}
use Rattle.module_linker.specs.Stages.Filled.{with_initialiser}
use Rattle.module_linker.specs.Stages.Definitions.{entries_defined}
use Rattle.entry_copy.specs.Initialisers.{IsInitialiser}
use Rattle.module_linker.specs.Filling.Filling.{IsBare}
use Rattle.module_linker.proofs.OnFilling.Bare.{variable_bare}
use Rattle.module_linker.proofs.OnFilling.Initialising.{definition_is, initialiser_known, none_as, set_as, variable_here, variable_linked, variable_written}
use Rattle.module_linker.proofs.OnFilling.Keeping.{grown_keeps, initialised_keeps, keeps_on}
use Rattle.module_linker.proofs.filling.initialisers.initialise.Goals as goal

pub set_initialiser-requires-clause-known : goal.set_initialiser-requires-clause-known
set_initialiser-requires-clause-known c =
    let parts = c.args.parts.now in
    let b = c.args.into.now.arena in
    let name = c.requires.declared.0 in
    let v = variable_bare b c.args.id (variable_linked (modules parts) name (seen (modules parts) c.args.home) (entries_defined parts c.args.ids.now) (variable_here parts c.args.home c.requires.home c.requires.variable))
    (subst (IsBare b (global.Variable c.args.id)) (definition_is parts c.args.home c.requires.home c.requires.variable c.args.ids.now name) c.requires.declared.1) in
    subst (λ l. c.args.id < length l) (sym c.in_ok-value.ensures.grows.variables) (slice_get_within b.variables c.args.id v.0 v.1)

pub set_initialiser-requires-clause-undefined : goal.set_initialiser-requires-clause-undefined
set_initialiser-requires-clause-undefined c = λ x at.
    let parts = c.args.parts.now in
    let b = c.args.into.now.arena in
    let name = c.requires.declared.0 in
    let v = variable_bare b c.args.id (variable_linked (modules parts) name (seen (modules parts) c.args.home) (entries_defined parts c.args.ids.now) (variable_here parts c.args.home c.requires.home c.requires.variable))
    (subst (IsBare b (global.Variable c.args.id)) (definition_is parts c.args.home c.requires.home c.requires.variable c.args.ids.now name) c.requires.declared.1) in
    ap (λ (y : Variable). y.initialiser) (same_Some x v.0 (sym at ∙ ap (λ l. slice_get l c.args.id) c.in_ok-value.ensures.grows.variables ∙ v.1)) ∙ v.2

pub set_initialiser-requires-clause-constant : goal.set_initialiser-requires-clause-constant
set_initialiser-requires-clause-constant c =
    let parts = c.args.parts.now in
    let e = seen (modules parts) c.args.home in
    let b1 = c.initialiser_of.new.into.arena in
    let o = joined_initialiser (modules parts) e (entries_defined parts c.args.ids.now) (initialiser_of e.global) in
    initialiser_known b1 o c.in-Some.value (subst (IsInitialiser b1 o) c.in-Some.is c.in_ok-value.ensures.is)

pub returns-in-Some-clause-module : goal.returns-in-Some-clause-module
returns-in-Some-clause-module c = λ name.
    let parts = c.args.parts.now in
    let e = seen (modules parts) c.args.home in
    let b = c.args.into.now.arena in
    let b1 = c.initialiser_of.new.into.arena in
    let o = joined_initialiser (modules parts) e (entries_defined parts c.args.ids.now) (initialiser_of e.global) in
    c.set_initialiser.ensures.module
    ∙ set_as b1 (module_of b1) c.args.id o c.in-Some.value (subst (IsInitialiser b1 o) c.in-Some.is c.in_ok-value.ensures.is)
    ∙ ap (λ m. with_initialiser m c.args.id o) c.in_ok-value.ensures.grows.same
    ∙ sym (variable_written parts c.args.home c.requires.home c.requires.variable (module_of b) c.args.id c.args.ids.now name)

pub returns-in-Some-clause-keeps : goal.returns-in-Some-clause-keeps
returns-in-Some-clause-keeps c =
    let b = c.args.into.now.arena in
    let b1 = c.initialiser_of.new.into.arena in
    let new = c.set_initialiser.new.self in
    keeps_on b b1 new (grown_keeps b b1 c.in_ok-value.ensures.grows) (initialised_keeps b1 new c.args.id c.in-Some.value c.set_initialiser.ensures.set)

pub returns-in-Some-clause-aliases : goal.returns-in-Some-clause-aliases
returns-in-Some-clause-aliases c = ap (λ (l : Lists). l.aliases) c.set_initialiser.ensures.set ∙ c.in_ok-value.ensures.grows.aliases

pub returns-in-None-clause-module : goal.returns-in-None-clause-module
returns-in-None-clause-module c = λ name.
    let parts = c.args.parts.now in
    let e = seen (modules parts) c.args.home in
    let b = c.args.into.now.arena in
    let b1 = c.initialiser_of.new.into.arena in
    let o = joined_initialiser (modules parts) e (entries_defined parts c.args.ids.now) (initialiser_of e.global) in
    c.in_ok-value.ensures.grows.same
    ∙ none_as b1 (module_of b) c.args.id o (subst (IsInitialiser b1 o) c.in-None.is c.in_ok-value.ensures.is)
    ∙ sym (variable_written parts c.args.home c.requires.home c.requires.variable (module_of b) c.args.id c.args.ids.now name)

pub returns-in-None-clause-keeps : goal.returns-in-None-clause-keeps
returns-in-None-clause-keeps c = grown_keeps c.args.into.now.arena c.initialiser_of.new.into.arena c.in_ok-value.ensures.grows
