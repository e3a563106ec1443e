use Rattle.std.proofs.Common.{◌≡◌, Some, sym, ap, ◌∙◌, subst}
use Rattle.module_arena.specs.declared.entry.GlobalId.{GlobalId}
use Rattle.module_arena.specs.Lists.{Lists, global_name}
use Rattle.module_arena.specs.Module.{Bytes}
use Rattle.module_arena.specs.Valid.{IsValid}
use Rattle.module_arena.specs.View.{module_of}
use Rattle.module_arena.specs.WellFormed.{IsWellFormed}
use Rattle.ir_run.proofs.Elements.{by_alias, by_function, by_none, list_name}
use Rattle.ir_run.proofs.list.elements.Goals as goal

pub returns-in_default : goal.returns-in_default
returns-in_default c =
    let a = c.args.names.now in
    let same = c.arena-arena.ensures.arena ∙ c.program.ensures in
    let well_formed : IsWellFormed (module_of a) = subst (λ (b : Lists). IsWellFormed (module_of b)) c.program.ensures c.arena-arena.ensures.well_formed in
    let valid : IsValid (module_of a) = subst (λ (b : Lists). IsValid (module_of b)) c.program.ensures c.arena-arena.ensures.valid in
    by_none a well_formed valid (λ g h. c.in_default.not-Some g ((c.lookup.ensures g).1 (ap (λ (b : Lists). global_name b g) same ∙ h ∙ ap (λ (n : Bytes). Some n) (sym c.requires))))

pub elements_in-requires : goal.elements_in-requires
elements_in-requires c =
    let same = c.arena-arena.ensures.arena ∙ c.program.ensures in
    subst (λ (g : GlobalId). global_name c.args.names.now g ≡ Some list_name) c.in-Variable.is
    (ap (λ (b : Lists). global_name b c.in-Some.global) (sym same) ∙ (c.lookup.ensures c.in-Some.global).0 c.in-Some.is ∙ ap (λ (n : Bytes). Some n) c.requires)

pub returns-in-Function : goal.returns-in-Function
returns-in-Function c =
    let a = c.args.names.now in
    let same = c.arena-arena.ensures.arena ∙ c.program.ensures in
    let well_formed : IsWellFormed (module_of a) = subst (λ (b : Lists). IsWellFormed (module_of b)) c.program.ensures c.arena-arena.ensures.well_formed in
    let valid : IsValid (module_of a) = subst (λ (b : Lists). IsValid (module_of b)) c.program.ensures c.arena-arena.ensures.valid in
    by_function a well_formed valid c.in-Function.field-0
    (subst (λ (g : GlobalId). global_name a g ≡ Some list_name) c.in-Function.is
    (ap (λ (b : Lists). global_name b c.in-Some.global) (sym same) ∙ (c.lookup.ensures c.in-Some.global).0 c.in-Some.is ∙ ap (λ (n : Bytes). Some n) c.requires))

pub returns-in-Alias : goal.returns-in-Alias
returns-in-Alias c =
    let a = c.args.names.now in
    let same = c.arena-arena.ensures.arena ∙ c.program.ensures in
    let well_formed : IsWellFormed (module_of a) = subst (λ (b : Lists). IsWellFormed (module_of b)) c.program.ensures c.arena-arena.ensures.well_formed in
    let valid : IsValid (module_of a) = subst (λ (b : Lists). IsValid (module_of b)) c.program.ensures c.arena-arena.ensures.valid in
    by_alias a well_formed valid c.in-Alias.field-0
    (subst (λ (g : GlobalId). global_name a g ≡ Some list_name) c.in-Alias.is
    (ap (λ (b : Lists). global_name b c.in-Some.global) (sym same) ∙ (c.lookup.ensures c.in-Some.global).0 c.in-Some.is ∙ ap (λ (n : Bytes). Some n) c.requires))
