use Rattle.std.proofs.Common.{◌+◌, Some, None, sym, subst, ap, ◌∙◌}
use Rattle.module_arena.specs.declared.entry.Variable as the_variable
use Rattle.module_arena.specs.Changes.{with_variable, variable_in, more_variables}
use Rattle.module_arena.specs.Known.{KnowsVariable}
use Rattle.module_arena.specs.Lists.{Lists, global_name}
use Rattle.module_arena.specs.Module.{Module}
use Rattle.module_arena.specs.View.{module_of}
use Rattle.item_build.specs.Types.Declarations.{IsFree}
use Rattle.extract_rules.proofs.Entries.{all_get}
use Rattle.extract_core.specs.Declaring.Declaring.{variables_through, IsDeclaring, KeepsNames}
use Rattle.extract_core.proofs.OnDeclaring.Declared.{with_variable_keeps, variable_called}
use Rattle.extract_core.proofs.OnDeclaring.NewIds.{keeps_on}
use Rattle.extract_core.proofs.OnDeclaring.StaysDeclared.{grown_keeps, declaring_still, types_grown, types_there}
use Rattle.extract_core.proofs.OnDeclaring.VariablesDeclared.{variable_called_so, variable_free, variable_few, variable_more, variable_is, variable_joined}
use Rattle.extract_core.proofs.declaring.variables.declare_there.Goals as goal

pub variable_type-requires-clause-known : goal.variable_type-requires-clause-known
variable_type-requires-clause-known c = (all_get (KnowsVariable _ _) _ c.args.id c.variable-variable.result.now c.variable_count-good.ensures.good.variables c.variable-variable.ensures).ty_known

pub add_variable-requires-clause-free : goal.add_variable-requires-clause-free
add_variable-requires-clause-free c =
    let a = c.args.from.now in
    let b = c.args.into.now.arena in
    let b1 = c.variable_type.new.into.arena in
    let grows = c.in_ok-ty.ensures.grows in
    let v = c.variable-variable.result.now in
    subst (IsFree b1) (sym c.in_ok-name.ensures)
    (variable_free a b1 c.args.id (declaring_still b b1 grows a (variables_through c.args.id) c.requires.declaring) v.name c.variable_count-good.ensures.distinct (variable_called_so a c.args.id v c.variable-variable.ensures))

pub add_variable-requires-clause-few : goal.add_variable-requires-clause-few
add_variable-requires-clause-few c =
    let a = c.args.from.now in
    let b = c.args.into.now.arena in
    let b1 = c.variable_type.new.into.arena in
    let grows = c.in_ok-ty.ensures.grows in
    variable_few a b1 c.args.id (declaring_still b b1 grows a (variables_through c.args.id) c.requires.declaring) c.variable_count-good.ensures.good c.requires.known

pub returns-clause-module : goal.returns-clause-module
returns-clause-module c = λ w e.
    let a = c.args.from.now in
    let b = c.args.into.now.arena in
    let b1 = c.variable_type.new.into.arena in
    let grows = c.in_ok-ty.ensures.grows in
    let v = c.variable-variable.result.now in
    let d : the_variable.Variable = record { name = c.in_ok-name.name; linkage = c.variable_linkage.result; constant = v.constant; ty = c.in_ok-ty.ty; alignment = v.alignment; initialiser = None } in
    let is = variable_is a b1 v c.args.fate c.in_ok-name.name c.variable_linkage.result c.in_ok-ty.ty c.is_emptied-emptied.result c.in_ok-name.ensures c.variable_linkage.ensures c.is_emptied-emptied.ensures c.in_ok-ty.ensures.is in
    c.in_ok-new.ensures.module ∙ ap (λ (m : Module). more_variables m (variable_in b1 d)) grows.same
    ∙ variable_joined a b1 (module_of b) c.args.id v d c.args.fate c.requires.there c.variable-variable.ensures is w e

pub returns-clause-types : goal.returns-clause-types
returns-clause-types c =
    let a = c.args.from.now in
    let b = c.args.into.now.arena in
    let b1 = c.variable_type.new.into.arena in
    types_there a b1 c.add_variable.new.into.arena c.args.copier.now (ap (λ (l : Lists). l.table) c.in_ok-new.ensures.lists) (types_grown b b1 c.in_ok-ty.ensures.grows a c.args.copier.now c.requires.types)

pub returns-clause-declaring : goal.returns-clause-declaring
returns-clause-declaring c =
    let a = c.args.from.now in
    let b = c.args.into.now.arena in
    let b1 = c.variable_type.new.into.arena in
    let grows = c.in_ok-ty.ensures.grows in
    let v = c.variable-variable.result.now in
    let d : the_variable.Variable = record { name = c.in_ok-name.name; linkage = c.variable_linkage.result; constant = v.constant; ty = c.in_ok-ty.ty; alignment = v.alignment; initialiser = None } in
    subst (IsDeclaring a (variables_through (c.args.id + 1))) (sym c.in_ok-new.ensures.lists)
    (variable_more a b1 c.args.id (declaring_still b b1 grows a (variables_through c.args.id) c.requires.declaring) d (variable_called_so a c.args.id v c.variable-variable.ensures ∙ ap Some (sym c.in_ok-name.ensures)))

pub returns-clause-keeps : goal.returns-clause-keeps
returns-clause-keeps c =
    let b = c.args.into.now.arena in
    let b1 = c.variable_type.new.into.arena in
    let v = c.variable-variable.result.now in
    let d : the_variable.Variable = record { name = c.in_ok-name.name; linkage = c.variable_linkage.result; constant = v.constant; ty = c.in_ok-ty.ty; alignment = v.alignment; initialiser = None } in
    keeps_on b b1 c.add_variable.new.into.arena (grown_keeps b b1 c.in_ok-ty.ensures.grows) (subst (KeepsNames b1) (sym c.in_ok-new.ensures.lists) (with_variable_keeps b1 d))

pub returns-clause-id : goal.returns-clause-id
returns-clause-id c = λ name called.
    let a = c.args.from.now in
    let b1 = c.variable_type.new.into.arena in
    let v = c.variable-variable.result.now in
    let d : the_variable.Variable = record { name = c.in_ok-name.name; linkage = c.variable_linkage.result; constant = v.constant; ty = c.in_ok-ty.ty; alignment = v.alignment; initialiser = None } in
    ap (λ (l : Lists). global_name l c.in_ok-new.new) c.in_ok-new.ensures.lists ∙ ap (global_name (with_variable b1 d)) c.in_ok-new.ensures.id ∙ variable_called b1 d
    ∙ ap Some c.in_ok-name.ensures ∙ sym (variable_called_so a c.args.id v c.variable-variable.ensures) ∙ called
