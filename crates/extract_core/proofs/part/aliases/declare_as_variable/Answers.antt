use Rattle.std.proofs.Common.{◌≡◌, ◌+◌, Some, None, refl, sym, subst, ap, ◌∙◌}
use Rattle.std.proofs.lemmas.Option.{slice_get_within}
use Rattle.ir_tables.specs.declared.linkage.Linkage.TheVariants.{External}
use Rattle.type_table.specs.Types.{trees}
use Rattle.module_arena.specs.declared.entry.GlobalId.TheVariants as global
use Rattle.module_arena.specs.declared.entry.Variable as the_variable
use Rattle.module_arena.specs.Changes.{with_variable}
use Rattle.module_arena.specs.Lists.{Lists, global_name}
use Rattle.module_arena.specs.View.{module_of, type_at}
use Rattle.item_build.specs.Types.Declarations.{IsFree}
use Rattle.item_build.specs.Types.Stands.{IsType}
use Rattle.extract_rules.proofs.Entries.{some_target, known_target}
use Rattle.extract_core.specs.Declaring.Declaring.{IsDeclaring, KeepsNames}
use Rattle.extract_core.specs.Part.AliasesThere.{aliases_through}
use Rattle.extract_core.proofs.OnDeclaring.Declared.{with_variable_keeps, variable_called}
use Rattle.extract_core.proofs.OnDeclaring.StaysDeclared.{types_there, type_is_copied}
use Rattle.extract_core.proofs.OnPart.AliasesDeclared.{alias_called_so, alias_free, variable_few, variable_more, plain_known, variable_joined}
use Rattle.extract_core.proofs.OnDeclaring.VariablesDeclared.{variable_known}
use Rattle.extract_core.proofs.part.aliases.declare_as_variable.Goals as goal

pub unwrap-target-requires : goal.unwrap-target-requires
unwrap-target-requires c = some_target c.args.from.now c.requires.well_formed c.args.id c.args.alias.now c.requires.here

pub is_constant-requires : goal.is_constant-requires
is_constant-requires c = known_target c.args.from.now c.variable_count-good.ensures.good c.args.id c.args.alias.now c.unwrap-target.result c.requires.here c.unwrap-target.ensures

pub add_variable-requires-clause-known : goal.add_variable-requires-clause-known
add_variable-requires-clause-known c =
    let a = c.args.from.now in
    let b = c.args.into.now.arena in
    let d : the_variable.Variable = record { name = c.in_ok-name.name; linkage = External; constant = c.is_constant.result; ty = c.new_type.result; alignment = None; initialiser = None } in
    variable_known b d (subst (λ i. IsType b i (type_at (trees a.table) c.args.ty)) (sym c.new_type.ensures) (type_is_copied a b c.args.copier.now c.requires.types c.args.ty (plain_known a c.variable_count-good.ensures.good c.args.id c.args.alias.now c.args.ty c.requires.here c.requires.ty))).known refl

pub add_variable-requires-clause-free : goal.add_variable-requires-clause-free
add_variable-requires-clause-free c =
    let x = c.args.alias.now in
    subst (IsFree c.args.into.now.arena) (sym c.in_ok-name.ensures)
    (alias_free c.args.from.now c.args.into.now.arena c.args.id c.requires.declaring x.name c.variable_count-good.ensures.distinct (alias_called_so c.args.from.now c.args.id x c.requires.here))

pub add_variable-requires-clause-few : goal.add_variable-requires-clause-few
add_variable-requires-clause-few c = variable_few c.args.from.now c.args.into.now.arena c.args.id c.requires.declaring c.variable_count-good.ensures.good (slice_get_within c.args.from.now.aliases c.args.id c.args.alias.now c.requires.here)

pub returns : goal.returns
returns c =
    let a = c.args.from.now in
    let b = c.args.into.now.arena in
    let t = c.args.copier.now in
    let id = c.args.id in
    let new = c.add_variable.new.into.arena in
    let x = c.args.alias.now in
    let at = c.requires.here in
    let step = c.in_ok-new.ensures in
    let d : the_variable.Variable = record { name = c.in_ok-name.name; linkage = External; constant = c.is_constant.result; ty = c.new_type.result; alignment = None; initialiser = None } in
    let called : global_name a (global.Alias id) ≡ Some d.name = alias_called_so a id x at ∙ ap Some (sym c.in_ok-name.ensures) in
    let is = subst (λ i. IsType b i (type_at (trees a.table) c.args.ty)) (sym c.new_type.ensures) (type_is_copied a b c.args.copier.now c.requires.types c.args.ty (plain_known a c.variable_count-good.ensures.good c.args.id c.args.alias.now c.args.ty c.requires.here c.requires.ty)) in
    record {
      joined = λ w e. step.module ∙ variable_joined a b (module_of b) id x at c.in_ok-name.name c.is_constant.result c.args.ty c.new_type.result c.unwrap-target.result c.in_ok-name.ensures c.requires.ty is c.unwrap-target.ensures c.is_constant.ensures w e;
      types = types_there a b new t (ap (λ (l : Lists). l.table) step.lists) c.requires.types;
      declaring = subst (IsDeclaring a (aliases_through a (id + 1))) (sym step.lists) (variable_more a b id c.requires.declaring d called);
      keeps = subst (KeepsNames b) (sym step.lists) (with_variable_keeps b d);
      called = λ name named. ap (λ (l : Lists). global_name l c.in_ok-new.new) step.lists ∙ ap (global_name (with_variable b d)) step.id ∙ variable_called b d ∙ sym called ∙ named;
    }
