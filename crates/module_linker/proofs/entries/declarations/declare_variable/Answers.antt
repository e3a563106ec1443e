use Rattle.std.proofs.Common.{◌≡◌, ◌<◌, Some, None, refl, slice_get, sym, subst}
use Rattle.type_table.specs.Types.{trees}
use Rattle.module_arena.specs.declared.entry.Variable as the_variable
use Rattle.module_arena.specs.Known.{KnowsVariable}
use Rattle.module_arena.specs.View.{type_at}
use Rattle.linkage_rules.specs.Ids.{modules}
use Rattle.linkage_rules.proofs.Seen.{known_part}
use Rattle.linkage_rules.proofs.Steps.{all_get}
use Rattle.link_rules.specs.Structs.{linked_type}
use Rattle.item_build.specs.Types.Declarations.{IsFree}
use Rattle.item_build.specs.Types.Stands.{IsType}
use Rattle.item_build.proofs.OnTypes.Growing.{grows_not}
use Rattle.module_linker.specs.Entries.Room.{HasRoom}
use Rattle.module_linker.specs.Entries.Step.{IsDeclared}
use Rattle.module_linker.proofs.OnEntries.DeclaredMore.{variable_more}
use Rattle.module_linker.proofs.OnEntries.Written.{type_there, declared_variable, variable_declared, declared_variable_is, variable_known}
use Rattle.module_linker.proofs.entries.declarations.declare_variable.Goals as goal

pub copier_of-copier-requires : goal.copier_of-copier-requires
copier_of-copier-requires c = subst (λ n. c.args.id.part < n) (sym c.requires.types.count) (known_part c.args.parts.now c.args.id c.requires.entry)

pub add_variable-requires-clause-known : goal.add_variable-requires-clause-known
add_variable-requires-clause-known c =
    let parts = c.args.parts.now in
    let i = c.args.id.part in
    let a = c.arena_of-arena.result.now in
    let b = c.args.into.now.arena in
    let t = c.copier_of-copier.result.now in
    let v = c.variable-variable.result.now in
    let at = subst (λ n. slice_get a.variables n ≡ Some v) c.new.ensures c.variable-variable.ensures in
    let known = all_get (KnowsVariable _ _) a.variables c.args.id.number v c.variable_count-good.ensures.good.variables at in
    let h = c.requires.types.types i a t c.arena_of-arena.ensures.arena c.copier_of-copier.ensures in
    let is = subst (λ n. IsType b n (linked_type (modules parts) i (type_at (trees a.table) v.ty))) (sym c.new_type.ensures) (type_there parts i a b t h v.ty known.ty_known) in
    let d : the_variable.Variable = record { name = c.in_ok-name.name; linkage = c.args.linkage; constant = v.constant; ty = c.new_type.result; alignment = v.alignment; initialiser = None } in
    variable_known b d is.known refl

pub add_variable-requires-clause-free : goal.add_variable-requires-clause-free
add_variable-requires-clause-free c =
    let a = c.arena_of-arena.result.now in
    let b = c.args.into.now.arena in
    let v = c.variable-variable.result.now in
    let at = subst (λ n. slice_get a.variables n ≡ Some v) c.new.ensures c.variable-variable.ensures in
    let room = subst (HasRoom b) (variable_declared c.args.parts.now c.args.id a c.arena_of-arena.ensures.arena c.args.name.now v c.requires.variable at c.args.linkage) c.requires.room in
    subst (IsFree b) (sym c.in_ok-name.ensures) room.free

pub add_variable-requires-clause-few : goal.add_variable-requires-clause-few
add_variable-requires-clause-few c =
    let a = c.arena_of-arena.result.now in
    let b = c.args.into.now.arena in
    let v = c.variable-variable.result.now in
    let at = subst (λ n. slice_get a.variables n ≡ Some v) c.new.ensures c.variable-variable.ensures in
    let room = subst (HasRoom b) (variable_declared c.args.parts.now c.args.id a c.arena_of-arena.ensures.arena c.args.name.now v c.requires.variable at c.args.linkage) c.requires.room in
    room.few

pub returns : goal.returns
returns c =
    let parts = c.args.parts.now in
    let i = c.args.id.part in
    let a = c.arena_of-arena.result.now in
    let b = c.args.into.now.arena in
    let now = c.add_variable.new.into.arena in
    let tables = c.args.copiers.now in
    let t = c.copier_of-copier.result.now in
    let v = c.variable-variable.result.now in
    let there = c.arena_of-arena.ensures.arena in
    let at = subst (λ n. slice_get a.variables n ≡ Some v) c.new.ensures c.variable-variable.ensures in
    let known = all_get (KnowsVariable _ _) a.variables c.args.id.number v c.variable_count-good.ensures.good.variables at in
    let h = c.requires.types.types i a t there c.copier_of-copier.ensures in
    let is = subst (λ n. IsType b n (linked_type (modules parts) i (type_at (trees a.table) v.ty))) (sym c.new_type.ensures) (type_there parts i a b t h v.ty known.ty_known) in
    let d : the_variable.Variable = record { name = c.in_ok-name.name; linkage = c.args.linkage; constant = v.constant; ty = c.new_type.result; alignment = v.alignment; initialiser = None } in
    let dv = declared_variable parts c.args.id a there c.args.name.now v c.requires.variable at c.args.linkage in
    let same = declared_variable_is parts c.args.id a there c.args.name.now v c.requires.variable at c.args.linkage b c.in_ok-name.name c.new_type.result c.in_ok-name.ensures is in
    let step = c.in_ok-new.ensures in
    subst (λ g. IsDeclared parts b now tables g c.in_ok-new.new) (sym (variable_declared parts c.args.id a there c.args.name.now v c.requires.variable at c.args.linkage))
    (variable_more parts tables b b now (grows_not b) c.requires.types c.in_ok-new.new d dv same step.id step.lists step.module)
