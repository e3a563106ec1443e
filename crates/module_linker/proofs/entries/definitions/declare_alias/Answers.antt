use Rattle.std.proofs.Common.{◌≡◌, ◌<◌, Some, None, All, refl, slice_get, sym, subst}
use Rattle.module_arena.specs.declared.entry.Alias as the_alias
use Rattle.module_arena.specs.Known.{KnowsAlias, alias_types}
use Rattle.linkage_rules.specs.Ids.{modules}
use Rattle.linkage_rules.proofs.Seen.{known_part}
use Rattle.linkage_rules.proofs.Steps.{all_get}
use Rattle.link_rules.specs.Structs.{new_struct}
use Rattle.item_build.specs.Types.Declarations.{IsFree}
use Rattle.item_build.proofs.OnTypes.Growing.{grows_not}
use Rattle.module_linker.specs.Entries.Room.{HasRoom}
use Rattle.module_linker.specs.Entries.Step.{IsDeclared}
use Rattle.module_linker.proofs.OnEntries.DeclaredMore.{alias_more}
use Rattle.module_linker.proofs.OnEntries.Written.{defined_alias, alias_defined, alias_is, alias_known}
use Rattle.module_linker.proofs.entries.definitions.declare_alias.Goals as goal

pub copier_of-copier-requires : goal.copier_of-copier-requires
copier_of-copier-requires c = subst (λ n. c.args.home.part < n) (sym c.requires.types.count) (known_part c.args.parts.now c.args.home c.requires.entry)

pub add_alias-requires-clause-known : goal.add_alias-requires-clause-known
add_alias-requires-clause-known c =
    let parts = c.args.parts.now in
    let i = c.args.home.part in
    let a = c.arena_of-arena.result.now in
    let b = c.args.into.now.arena in
    let t = c.copier_of-copier.result.now in
    let x = c.alias-alias.result.now in
    let at = subst (λ n. slice_get a.aliases n ≡ Some x) c.new.ensures c.alias-alias.ensures in
    let known = all_get (KnowsAlias _ _) a.aliases c.args.home.number x c.variable_count-good.ensures.good.aliases at in
    let h = c.requires.types.types i a t c.arena_of-arena.ensures.arena c.copier_of-copier.ensures in
    let is = c.in_ok-ty.ensures.is (new_struct (modules parts) i) a b h.copies (subst (λ n. All (λ k. k < n) (alias_types x.ty)) (sym h.all) known.types_known) in
    let d : the_alias.Alias = record { name = c.in_ok-name.name; linkage = x.linkage; ty = c.in_ok-ty.ty; target = None } in
    alias_known b d is.known refl

pub add_alias-requires-clause-free : goal.add_alias-requires-clause-free
add_alias-requires-clause-free c =
    let a = c.arena_of-arena.result.now in
    let b = c.args.into.now.arena in
    let x = c.alias-alias.result.now in
    let at = subst (λ n. slice_get a.aliases n ≡ Some x) c.new.ensures c.alias-alias.ensures in
    let room = subst (HasRoom b) (alias_defined c.args.parts.now c.args.home a c.arena_of-arena.ensures.arena c.args.name.now x c.requires.alias at c.requires.room.0) c.requires.room.1 in
    subst (IsFree b) (sym c.in_ok-name.ensures) room.free

pub add_alias-requires-clause-few : goal.add_alias-requires-clause-few
add_alias-requires-clause-few c =
    let a = c.arena_of-arena.result.now in
    let b = c.args.into.now.arena in
    let x = c.alias-alias.result.now in
    let at = subst (λ n. slice_get a.aliases n ≡ Some x) c.new.ensures c.alias-alias.ensures in
    let room = subst (HasRoom b) (alias_defined c.args.parts.now c.args.home a c.arena_of-arena.ensures.arena c.args.name.now x c.requires.alias at c.requires.room.0) c.requires.room.1 in
    room.few

pub returns : goal.returns
returns c = λ ids.
    let parts = c.args.parts.now in
    let i = c.args.home.part in
    let a = c.arena_of-arena.result.now in
    let b = c.args.into.now.arena in
    let now = c.add_alias.new.into.arena in
    let tables = c.args.copiers.now in
    let t = c.copier_of-copier.result.now in
    let x = c.alias-alias.result.now in
    let there = c.arena_of-arena.ensures.arena in
    let at = subst (λ n. slice_get a.aliases n ≡ Some x) c.new.ensures c.alias-alias.ensures in
    let known = all_get (KnowsAlias _ _) a.aliases c.args.home.number x c.variable_count-good.ensures.good.aliases at in
    let h = c.requires.types.types i a t there c.copier_of-copier.ensures in
    let is = c.in_ok-ty.ensures.is (new_struct (modules parts) i) a b h.copies (subst (λ n. All (λ k. k < n) (alias_types x.ty)) (sym h.all) known.types_known) in
    let d : the_alias.Alias = record { name = c.in_ok-name.name; linkage = x.linkage; ty = c.in_ok-ty.ty; target = None } in
    let da = defined_alias parts c.args.home a there c.args.name.now x c.requires.alias at in
    let same = alias_is parts c.args.home a there c.args.name.now x c.requires.alias at b c.in_ok-name.name c.in_ok-ty.ty c.in_ok-name.ensures is in
    let step = c.in_ok-id.ensures in
    subst (λ g. IsDeclared parts b now tables g c.in_ok-id.id) (sym (alias_defined parts c.args.home a there c.args.name.now x c.requires.alias at ids))
    (alias_more parts tables b b now (grows_not b) c.requires.types c.in_ok-id.id d da refl same step.id step.lists step.module)
