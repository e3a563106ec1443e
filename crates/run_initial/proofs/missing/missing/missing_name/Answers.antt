use Rattle.std.proofs.Common.{◌≡◌, None, Some, map, ap, sym, ◌∙◌, subst}
use Rattle.std.specs.List.{find}
use Rattle.std.specs.Option.{option_map, option_or}
use Rattle.module_arena.specs.Lists.{Lists, name_at}
use Rattle.module_arena.specs.Module.{Function, Variable}
use Rattle.module_arena.specs.Valid.{IsValid}
use Rattle.module_arena.specs.View.{module_of}
use Rattle.module_arena.specs.WellFormed.{IsWellFormed}
use Rattle.run_initial.specs.Missing.Used.{is_lacking}
use Rattle.run_initial.proofs.OnMissing.Lacking.{first_missing_is}
use Rattle.run_initial.proofs.missing.missing.missing_name.Goals as goal

pub returns-in-Some-clause-first : goal.returns-in-Some-clause-first
returns-in-Some-clause-first c =
    let a = c.args.names.now in
    let m = module_of a in
    let well_formed : IsWellFormed m = subst (λ (b : Lists). IsWellFormed (module_of b)) c.program-program.ensures c.arena-arena.ensures.well_formed in
    let valid : IsValid m = subst (λ (b : Lists). IsValid (module_of b)) c.program-program.ensures c.arena-arena.ensures.valid in
    let some : find (is_lacking m) (map (λ (v : Variable). v.name) m.variables) ≡ Some (name_at a c.in-Some.global) = sym c.lacking_variable.ensures.first ∙ ap (option_map (name_at a)) c.in-Some.is in
    sym (first_missing_is m well_formed valid ∙ ap (λ o. option_or o (find (is_lacking m) (map (λ (f : Function). f.name) m.functions))) some)

pub returns-clause-first : goal.returns-clause-first
returns-clause-first c =
    let a = c.args.names.now in
    let m = module_of a in
    let well_formed : IsWellFormed m = subst (λ (b : Lists). IsWellFormed (module_of b)) c.program-program.ensures c.arena-arena.ensures.well_formed in
    let valid : IsValid m = subst (λ (b : Lists). IsValid (module_of b)) c.program-program.ensures c.arena-arena.ensures.valid in
    let none : find (is_lacking m) (map (λ (v : Variable). v.name) m.variables) ≡ None = sym c.lacking_variable.ensures.first ∙ ap (option_map (name_at a)) c.in-None.is in
    c.lacking_function.ensures.first ∙ sym (first_missing_is m well_formed valid ∙ ap (λ o. option_or o (find (is_lacking m) (map (λ (f : Function). f.name) m.functions))) none)
