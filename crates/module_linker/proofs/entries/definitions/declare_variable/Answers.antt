use Rattle.std.proofs.Common.{◌≡◌, Some, None, refl, slice_get, sym, subst}
use Rattle.type_table.specs.Types.{structs}
use Rattle.module_arena.specs.declared.entry.Variable as the_variable
use Rattle.linkage_rules.specs.Globals.{OfVariable}
use Rattle.item_build.specs.Types.Declarations.{IsFree}
use Rattle.module_linker.specs.Entries.Room.{HasGoodType, HasRoom}
use Rattle.module_linker.specs.Entries.Step.{IsDeclared}
use Rattle.module_linker.proofs.OnEntries.DeclaredMore.{variable_more}
use Rattle.module_linker.proofs.OnEntries.StaysKnown.{room_grown}
use Rattle.module_linker.proofs.OnEntries.Written.{defined_variable, variable_defined, variable_is, variable_known}
use Rattle.module_linker.proofs.entries.definitions.declare_variable.Goals as goal

pub joined_type-requires-clause-good : goal.joined_type-requires-clause-good
joined_type-requires-clause-good c =
    let a = c.arena_of-arena.result.now in
    let v = c.variable-variable.result.now in
    let at = subst (λ n. slice_get a.variables n ≡ Some v) c.new.ensures c.variable-variable.ensures in
    subst (HasGoodType (structs c.args.into.now.arena.table)) (variable_defined c.args.parts.now c.args.home a c.arena_of-arena.ensures.arena c.args.name.now v c.requires.variable at c.args.ids.now) c.requires.room.good

pub add_variable-requires-clause-known : goal.add_variable-requires-clause-known
add_variable-requires-clause-known c =
    let v = c.variable-variable.result.now in
    let d : the_variable.Variable = record { name = c.in_ok-name.name; linkage = v.linkage; constant = v.constant; ty = c.in_ok-ty.ty; alignment = c.joined_alignment.result; initialiser = None } in
    let typed = c.in_ok-ty.ensures.is in
    variable_known c.joined_type.new.into.arena d typed.known refl

pub add_variable-requires-clause-free : goal.add_variable-requires-clause-free
add_variable-requires-clause-free c =
    let a = c.arena_of-arena.result.now in
    let b = c.args.into.now.arena in
    let b1 = c.joined_type.new.into.arena in
    let v = c.variable-variable.result.now in
    let at = subst (λ n. slice_get a.variables n ≡ Some v) c.new.ensures c.variable-variable.ensures in
    let written = variable_defined c.args.parts.now c.args.home a c.arena_of-arena.ensures.arena c.args.name.now v c.requires.variable at c.args.ids.now in
    let dv = defined_variable c.args.parts.now c.args.home a c.arena_of-arena.ensures.arena c.args.name.now v c.requires.variable at c.args.ids.now in
    let room = room_grown b b1 c.in_ok-ty.ensures.grows (OfVariable dv) (subst (HasRoom b) written c.requires.room) in
    subst (IsFree b1) (sym c.in_ok-name.ensures) room.free

pub add_variable-requires-clause-few : goal.add_variable-requires-clause-few
add_variable-requires-clause-few c =
    let a = c.arena_of-arena.result.now in
    let b = c.args.into.now.arena in
    let b1 = c.joined_type.new.into.arena in
    let v = c.variable-variable.result.now in
    let at = subst (λ n. slice_get a.variables n ≡ Some v) c.new.ensures c.variable-variable.ensures in
    let written = variable_defined c.args.parts.now c.args.home a c.arena_of-arena.ensures.arena c.args.name.now v c.requires.variable at c.args.ids.now in
    let dv = defined_variable c.args.parts.now c.args.home a c.arena_of-arena.ensures.arena c.args.name.now v c.requires.variable at c.args.ids.now in
    let room = room_grown b b1 c.in_ok-ty.ensures.grows (OfVariable dv) (subst (HasRoom b) written c.requires.room) in
    room.few

pub returns : goal.returns
returns c =
    let parts = c.args.parts.now in
    let a = c.arena_of-arena.result.now in
    let b = c.args.into.now.arena in
    let b1 = c.joined_type.new.into.arena in
    let now = c.add_variable.new.into.arena in
    let tables = c.args.copiers.now in
    let v = c.variable-variable.result.now in
    let at = subst (λ n. slice_get a.variables n ≡ Some v) c.new.ensures c.variable-variable.ensures in
    let written = variable_defined parts c.args.home a c.arena_of-arena.ensures.arena c.args.name.now v c.requires.variable at c.args.ids.now in
    let dv = defined_variable parts c.args.home a c.arena_of-arena.ensures.arena c.args.name.now v c.requires.variable at c.args.ids.now in
    let d : the_variable.Variable = record { name = c.in_ok-name.name; linkage = v.linkage; constant = v.constant; ty = c.in_ok-ty.ty; alignment = c.joined_alignment.result; initialiser = None } in
    let is = variable_is parts c.args.home a c.arena_of-arena.ensures.arena c.args.name.now v c.requires.variable at c.args.ids.now b1 c.in_ok-name.name c.in_ok-ty.ty c.joined_alignment.result c.in_ok-name.ensures c.in_ok-ty.ensures.is c.joined_alignment.ensures in
    let step = c.in_ok-id.ensures in
    subst (λ g. IsDeclared parts b now tables g c.in_ok-id.id) (sym written)
    (variable_more parts tables b b1 now c.in_ok-ty.ensures.grows c.requires.types c.in_ok-id.id d dv is step.id step.lists step.module)
