use Rattle.std.proofs.Common.{◌≡◌, ◌++◌, Some, length, sym, ap, ◌∙◌, subst, arith, All}
use Rattle.std.proofs.lemmas.List.Elements.{All-from_recursion}
use Rattle.std.proofs.lemmas.Option.{slice_get-get_or}
use Rattle.linkage_rules.specs.Bind.{bind}
use Rattle.linkage_rules.specs.Grouped.{ids_of}
use Rattle.linkage_rules.specs.Ids.{IsEntryId, modules}
use Rattle.linkage_rules.proofs.Gathered.{part_known}
use Rattle.linkage_rules.proofs.OnResolving.PartNames.{names_step, names_done}
use Rattle.linkage_rules.proofs.resolving.names.names_of.Goals as goal

pub name-entry_name-requires : goal.name-entry_name-requires
name-entry_name-requires c =
    let parts = c.args.parts.now in
    let a = c.arena_of.result.now in
    let all : c.deref-id-items.result.now ≡ ids_of c.args.part a = c.deref-id-items.ensures.value ∙ c.in_ok-push_part.ensures ∙ ap (λ l. l ++ ids_of c.args.part a) c.new-ids.ensures.items in
    (subst (All (IsEntryId parts)) (sym all) (All-from_recursion (IsEntryId parts) (ids_of c.args.part a) (part_known parts c.args.part a c.arena_of.ensures.arena))) c.loop-id.id-index _ c.loop-id-test.true

pub loop-id-preserved : goal.loop-id-preserved
loop-id-preserved c =
    let parts = modules c.args.parts.now in
    names_step parts c.args.part c.deref-id-items.result.now c.loop-id.id-index _ _ _ _ _ (slice_get-get_or c.deref-id-items.result.now c.loop-id.id-index _ c.loop-id-test.true) c.loop-id.invariant c.in_ok-insert.ensures.entries
    (c.in_ok-copy.ensures ∙ c.name-entry_name.ensures) (c.in_ok-bound.ensures ∙ ap (λ n. Some (bind parts c.args.part n)) (sym c.in_ok-copy.ensures))

pub returns : goal.returns
returns c =
    let parts = c.args.parts.now in
    let a = c.arena_of.result.now in
    let all : c.deref-id-items.result.now ≡ ids_of c.args.part a = c.deref-id-items.ensures.value ∙ c.in_ok-push_part.ensures ∙ ap (λ l. l ++ ids_of c.args.part a) c.new-ids.ensures.items in
    let end : c.loop-id.id-index ≡ length c.deref-id-items.result.now = omega (arith, c.loop-id-test.false, c.loop-id.auto.id-index-end) in
    names_done parts c.args.part a c.deref-id-items.result.now c.loop-id.id-index c.loop-id.names.entries c.arena_of.ensures.arena all end c.loop-id.invariant
