use Rattle.std.proofs.Common.{[], flat_map, length, sym, subst, ap}
use Rattle.std.proofs.lemmas.List.{take_all}
use Rattle.std.proofs.lemmas.Option.{slice_get-get_or}
use Rattle.linkage_rules.specs.Ids.{modules}
use Rattle.linkage_rules.specs.Contents.Contents.{elements_in}
use Rattle.module_arena.specs.Changes.{constant_in}
use Rattle.module_arena.specs.Known.{KnowsConst, counts}
use Rattle.module_arena.specs.declared.constant.Brackets.TheVariants as brackets
use Rattle.module_arena.specs.declared.constant.Const.TheVariants as const
use Rattle.item_build.specs.Types.Stands.{AreTyped, IsConstant}
use Rattle.item_build.proofs.OnTypes.Lists.{no_typed}
use Rattle.module_linker.specs.Stages.Definitions.{entries_defined}
use Rattle.module_linker.specs.Filling.Elements.{elements_of_all}
use Rattle.module_linker.proofs.OnFilling.Joined.{elements_more, list_is, list_known}
use Rattle.module_linker.proofs.filling.appended.joined_initialiser.Goals as goal

pub entries-init : goal.entries-init
entries-init c = subst (λ xs. AreTyped c.args.into.now.arena xs []) (sym c.new-elements.ensures.items) (no_typed c.args.into.now.arena)

pub entries-preserved : goal.entries-preserved
entries-preserved c =
    let parts = c.args.parts.now in
    let ids = c.args.ids.now in
    let b = c.args.into.now.arena in
    let k = c.entries.id-index in
    subst (AreTyped b c.push_defined.new.elements.items) (sym (elements_more parts ids k _ (slice_get-get_or ids k _ c.entries-test.true)))
    (c.in_ok-push_defined.ensures b _ c.requires.copied c.requires.new_ids c.entries.invariant)

pub keep_constant-requires : goal.keep_constant-requires
keep_constant-requires c =
    let b = c.args.into.now.arena in
    subst (λ es. KnowsConst (length b.table.types) (counts b) (length b.constants) (const.Aggregate brackets.Square es)) (sym c.from_vec-elements.ensures) (list_known b c.entries.elements.items c.entries.invariant.known)

pub returns-clause-is : goal.returns-clause-is
returns-clause-is c =
    let parts = c.args.parts.now in
    let b = c.args.into.now.arena in
    let new = c.keep_constant.new.self.arena in
    let id = c.in_ok-joined.joined in
    let whole = take_all c.entries.id-index c.args.ids.now c.entries-test.false in
    let all = ap (λ l. elements_of_all (modules parts) (entries_defined parts l)) whole in
    list_is (modules parts) b new id c.entries.elements.items (flat_map elements_in (entries_defined parts c.args.ids.now)) (subst (AreTyped b c.entries.elements.items) all c.entries.invariant)
    (subst (λ es. IsConstant new id (constant_in b (const.Aggregate brackets.Square es))) c.from_vec-elements.ensures c.in_ok-joined.ensures.is)
