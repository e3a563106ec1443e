use Rattle.std.proofs.Common.{◌≡◌, slice_get, Some, sym, subst}
use Rattle.std.proofs.lemmas.Result.{on_ok_weaker}
use Rattle.type_table.specs.Limits.{IsWithinLimits}
use Rattle.type_table.specs.Shape.{shape}
use Rattle.type_table.specs.Types.{Types, IsGood, IsKnown, names, trees, tree_of, structs}
use Rattle.item_build.specs.Types.Stands.{IsType}
use Rattle.entry_copy.specs.Copies.{CopiesTypes}
use Rattle.entry_copy.proofs.TypesCopied.{always, next_known, next_fits, next_copied}
use Rattle.entry_copy.proofs.copier.Copier.copy_type.Goals as goal

pub keep_type-requires-clause-known : goal.keep_type-requires-clause-known
keep_type-requires-clause-known c =
    let good = subst IsGood c.types.ensures c.type_count-good.ensures.good in
    let is = subst (λ (t : Types). slice_get t.types c.args.ty ≡ Some c.get.result.now) c.types-2.ensures c.get.ensures in
    let can = c.requires.copies in
    subst (IsKnown c.args.into.now.arena.table) (sym c.in_ok-moved.ensures)
    (next_known can.0 c.args.from.now c.args.into.now.arena c.args.self.now can.1 good c.get.result.now c.args.ty c.requires.next is)

pub keep_type-requires-clause-fits : goal.keep_type-requires-clause-fits
keep_type-requires-clause-fits c =
    let good = subst IsGood c.types.ensures c.type_count-good.ensures.good in
    let is = subst (λ (t : Types). slice_get t.types c.args.ty ≡ Some c.get.result.now) c.types-2.ensures c.get.ensures in
    let can = c.requires.copies in
    let table = c.args.into.now.arena.table in
    subst (λ ty. IsWithinLimits (shape (structs table) (tree_of (names table) (trees table) ty))) (sym c.in_ok-moved.ensures)
    (next_fits can.0 c.args.from.now c.args.into.now.arena c.args.self.now can.1 good c.get.result.now c.args.ty c.requires.next is (structs table) can.2)

pub returns-clause-copies : goal.returns-clause-copies
returns-clause-copies c naming h =
    let good = subst IsGood c.types.ensures c.type_count-good.ensures.good in
    let is = subst (λ (t : Types). slice_get t.types c.args.ty ≡ Some c.get.result.now) c.types-2.ensures c.get.ensures in
    let table = c.args.into.now.arena.table in
    let new = c.keep_type.new.self.arena in
    let made = subst (λ ty. IsType new c.in_ok-id.id (tree_of (names table) (trees table) ty)) c.in_ok-moved.ensures c.in_ok-id.ensures.is in
    on_ok_weaker c.push_type.result
    (λ same. subst (CopiesTypes naming c.args.from.now new) (sym same)
    (next_copied naming c.args.from.now c.args.into.now.arena c.args.self.now h good c.get.result.now c.args.ty c.requires.next is new c.in_ok-id.ensures.grows c.in_ok-id.id made))
    c.push_type.ensures

pub returns-clause-within : goal.returns-clause-within
returns-clause-within c naming whole h fit old =
    let good = subst IsGood c.types.ensures c.type_count-good.ensures.good in
    let is = subst (λ (t : Types). slice_get t.types c.args.ty ≡ Some c.get.result.now) c.types-2.ensures c.get.ensures in
    let table = c.args.into.now.arena.table in
    let fits = next_fits naming c.args.from.now c.args.into.now.arena c.args.self.now h good c.get.result.now c.args.ty c.requires.next is whole fit in
    always c.push_type.result
    (c.in_ok-id.ensures.within whole (subst (λ ty. IsWithinLimits (shape whole (tree_of (names table) (trees table) ty))) (sym c.in_ok-moved.ensures) fits) old)
