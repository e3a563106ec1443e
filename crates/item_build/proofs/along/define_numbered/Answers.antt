use Rattle.std.proofs.Common.{◌+◌, List, All, take, drop, refl, sym, subst, arith}
use Rattle.std.proofs.lemmas.Option.{get_or_from_slice_get}
use Rattle.ir_syntax.specs.Tree.{ItemTree}
use Rattle.ir_syntax.specs.View.{item_view, items_view}
use Rattle.name_rules.specs.ModuleOf.{structs_in}
use Rattle.item_build.specs.Buildable.Entries.{CanDeclare}
use Rattle.item_build.proofs.Walked.{all_between, view_split}
use Rattle.item_build.proofs.Named.{can_item, structs_before}
use Rattle.item_build.proofs.Partly.{same_structs}
use Rattle.item_build.proofs.along.define_numbered.Goals as goal

pub item_at-item-requires : goal.item_at-item-requires
item_at-item-requires c = (c.requires.places c.args.number c.in-Some.place (sym c.in-Some.ensures)).0

pub define_item-requires-clause-small : goal.define_item-requires-clause-small
define_item-requires-clause-small c =
    let all = c.args.items.now in
    let p = c.in-Some.place in
    let here = c.requires.places c.args.number p (sym c.in-Some.ensures) in
    let item = c.item_at-item.result.now in
    let split = view_split item_view all p item here.0 (sym (get_or_from_slice_get all p item item c.item_at-item.ensures)) in
    let le = structs_before (items_view (take p all)) (item_view c.item_at-item.result.now) (items_view (drop (p + 1) all)) (items_view all) split in
    let few = c.requires.buildable.few_structs in
    let number = here.1 in
    omega (arith, le, few, number)

pub define_item-requires-clause-can : goal.define_item-requires-clause-can
define_item-requires-clause-can c =
    let all = c.args.items.now in
    let p = c.in-Some.place in
    let here = c.requires.places c.args.number p (sym c.in-Some.ensures) in
    let x = item_view c.item_at-item.result.now in
    let first = items_view (take p all) in
    let rest = items_view (drop (p + 1) all) in
    let whole = structs_in (items_view all) in
    let item = c.item_at-item.result.now in
    let split = view_split item_view all p item here.0 (sym (get_or_from_slice_get all p item item c.item_at-item.ensures)) in
    let declared = all_between (CanDeclare whole) first x rest (subst (λ (xs : List ItemTree). All (CanDeclare whole) xs) split c.requires.buildable.declared) in
    (whole, can_item c.args.builder.now.arena first rest (items_view all) c.args.number (sym here.1) c.requires.partly c.requires.fit x split declared)

pub returns-in_ok-define_item-in-Some-clause-partly : goal.returns-in_ok-define_item-in-Some-clause-partly
returns-in_ok-define_item-in-Some-clause-partly c =
    let all = c.args.items.now in
    let p = c.in-Some.place in
    let here = c.requires.places c.args.number p (sym c.in-Some.ensures) in
    let x = item_view c.item_at-item.result.now in
    let first = items_view (take p all) in
    let rest = items_view (drop (p + 1) all) in
    let whole = structs_in (items_view all) in
    let item = c.item_at-item.result.now in
    let split = view_split item_view all p item here.0 (sym (get_or_from_slice_get all p item item c.item_at-item.ensures)) in
    let declared = all_between (CanDeclare whole) first x rest (subst (λ (xs : List ItemTree). All (CanDeclare whole) xs) split c.requires.buildable.declared) in
    c.in_ok-define_item-in-Some.ensures.partly whole (can_item c.args.builder.now.arena first rest (items_view all) c.args.number (sym here.1) c.requires.partly c.requires.fit x split declared) c.requires.partly

pub returns-in-None : goal.returns-in-None
returns-in-None c = record { «module» = same_structs c.args.builder.now.arena; entries = refl; partly = c.requires.partly }
