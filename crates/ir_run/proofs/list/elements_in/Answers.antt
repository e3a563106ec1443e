use Rattle.std.proofs.Common.{◌≡◌, ◌<◌, length, Some, sym, ◌∙◌, subst}
use Rattle.module_arena.specs.Known.{IsGood}
use Rattle.module_arena.specs.Lists.{Lists}
use Rattle.module_arena.specs.Valid.{IsValid}
use Rattle.module_arena.specs.View.{module_of}
use Rattle.module_arena.specs.WellFormed.{IsWellFormed}
use Rattle.std.specs.Prelude.{slice_get}
use Rattle.ir_run.specs.Constructors.{AreElements}
use Rattle.ir_run.proofs.Elements.{by_declaration, by_variable, initialiser_within, list_name, variable_within}
use Rattle.ir_run.proofs.list.elements_in.Goals as goal

pub variable-variable-requires : goal.variable-variable-requires
variable-variable-requires c =
    let same = c.arena-arena.ensures.arena ∙ c.program.ensures in
    subst (λ (b : Lists). c.args.id < length b.variables) (sym same) (variable_within c.args.names.now c.args.id list_name c.requires)

pub constant-requires : goal.constant-requires
constant-requires c = initialiser_within c.arena-arena.result.now c.args.id c.in-Some.initialiser c.variable-variable.result.now c.variable_count-count.ensures.good c.variable-variable.ensures c.in-Some.is

pub returns-in_default : goal.returns-in_default
returns-in_default c =
    let a = c.args.names.now in
    let same = c.arena-arena.ensures.arena ∙ c.program.ensures in
    let well_formed : IsWellFormed (module_of a) = subst (λ (b : Lists). IsWellFormed (module_of b)) c.program.ensures c.arena-arena.ensures.well_formed in
    let valid : IsValid (module_of a) = subst (λ (b : Lists). IsValid (module_of b)) c.program.ensures c.arena-arena.ensures.valid in
    let at = subst (λ (b : Lists). slice_get b.variables c.args.id ≡ Some c.variable-variable.result.now) same c.variable-variable.ensures in
    by_declaration a well_formed valid c.args.id c.variable-variable.result.now c.requires at c.in_default.is

pub returns : goal.returns
returns c =
    let a = c.args.names.now in
    let same = c.arena-arena.ensures.arena ∙ c.program.ensures in
    let well_formed : IsWellFormed (module_of a) = subst (λ (b : Lists). IsWellFormed (module_of b)) c.program.ensures c.arena-arena.ensures.well_formed in
    let valid : IsValid (module_of a) = subst (λ (b : Lists). IsValid (module_of b)) c.program.ensures c.arena-arena.ensures.valid in
    let good : IsGood a = subst IsGood same c.variable_count-count.ensures.good in
    let v = c.variable-variable.result.now in
    let at = subst (λ (b : Lists). slice_get b.variables c.args.id ≡ Some v) same c.variable-variable.ensures in
    let there = subst (λ (b : Lists). slice_get b.constants c.in-Some.initialiser ≡ Some c.constant.result.now) same c.constant.ensures in
    subst (AreElements a) (sym c.elements_of.ensures) (by_variable a well_formed valid good c.args.id c.in-Some.initialiser v c.constant.result.now c.requires at c.in-Some.is there)
