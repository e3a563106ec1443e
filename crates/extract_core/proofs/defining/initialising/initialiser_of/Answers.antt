use Rattle.std.proofs.Common.{◌≡◌, Some, sym, subst, ap, ◌∙◌}
use Rattle.std.proofs.lemmas.Option.{same_Some}
use Rattle.module_arena.specs.Changes.{variable_in}
use Rattle.module_arena.specs.Known.{KnowsVariable}
use Rattle.module_arena.specs.Module.{Variable}
use Rattle.extract_rules.specs.Extracted.{declared_variable}
use Rattle.extract_rules.proofs.Entries.{all_get}
use Rattle.extract_rules.proofs.Keeping.{variable_at}
use Rattle.extract_core.specs.Fates.Fates.{variable_as}
use Rattle.entry_copy.specs.Initialisers.{IsInitialiser}
use Rattle.extract_core.proofs.OnDefining.Initialisers.{kept_initialiser, declared_initialiser_is}
use Rattle.extract_core.proofs.defining.initialising.initialiser_of.Goals as goal

pub returns-in-Kept-clause-is : goal.returns-in-Kept-clause-is
returns-in-Kept-clause-is c = λ v w at makes.
    let a = c.args.from.now in
    let x = c.variable-variable.result.now in
    let seen : variable_in a x ≡ v = same_Some (variable_in a x) v (sym (variable_at a c.args.id x c.variable-variable.ensures) ∙ at) in
    let known = all_get (KnowsVariable _ _) a.variables c.args.id x c.variable_count-good.ensures.good.variables c.variable-variable.ensures in
    kept_initialiser a c.args.into.now.arena c.args.copier.now c.requires.copies x v w c.copied_initialiser.result known.initialiser_known seen
    (subst (λ f. variable_as f v ≡ Some w) c.in-Kept.is makes) (c.requires.names v at c.in-Kept.is) c.copied_initialiser.ensures

pub returns-in_ok-declared-in_default-clause-is : goal.returns-in_ok-declared-in_default-clause-is
returns-in_ok-declared-in_default-clause-is c = λ v w at makes.
    let a = c.args.from.now in
    let b = c.declared_initialiser.new.into.arena in
    let x = c.variable-variable.result.now in
    let o = c.in_ok-declared-in_default.declared in
    let seen : variable_in a x ≡ v = same_Some (variable_in a x) v (sym (variable_at a c.args.id x c.variable-variable.ensures) ∙ at) in
    declared_initialiser_is b c.args.fate v w o c.in_default.not-Kept makes
    (subst (λ l. IsInitialiser b (declared_variable l v).initialiser o) (ap (λ (u : Variable). u.linkage) seen) (c.in_ok-declared-in_default.ensures.is v))
