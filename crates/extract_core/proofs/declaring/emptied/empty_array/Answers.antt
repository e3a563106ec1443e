use Rattle.std.proofs.Common.{◌≡◌, ◌<◌, Some, length, slice_get, sym, subst, ap, ◌∙◌}
use Rattle.type_table.specs.declared.ir_type.IrType.TheVariants.{Array}
use Rattle.type_table.specs.Limits.{IsWithin, IsWithinLimits}
use Rattle.type_table.specs.Shape.{shape}
use Rattle.type_table.specs.Types.{Types, names, trees, structs, tree_of, IsKnown}
use Rattle.type_table.specs.Types as types
use Rattle.module_arena.specs.View.{type_at}
use Rattle.item_build.specs.Types.Stands.{IsType}
use Rattle.extract_rules.specs.Extracted.{without_elements}
use Rattle.extract_core.proofs.OnDeclaring.EmptyArrays.{new_known, new_fits, new_is, other_is}
use Rattle.extract_core.proofs.declaring.emptied.empty_array.Goals as goal

pub get-requires : goal.get-requires
get-requires c = subst (λ (u : Types). c.args.ty < length u.types) (sym c.types-2.ensures) c.requires.known

pub keep_type-requires-clause-known : goal.keep_type-requires-clause-known
keep_type-requires-clause-known c =
    let a = c.args.from.now in
    let b = c.args.into.now.arena in
    let t = c.args.copier.now in
    let at : slice_get a.table.types c.args.ty ≡ Some c.get.result.now = sym (ap (λ (u : Types). slice_get u.types c.args.ty) c.types-2.ensures) ∙ c.get.ensures in
    subst (λ i. IsKnown b.table (Array 0 i)) (sym c.new_type.ensures)
    (new_known a b t c.requires.types (subst types.IsGood c.types.ensures c.type_count-good.ensures.good) c.args.ty c.get.result.now at c.in-Some.element (sym c.in-Some.ensures))

pub keep_type-requires-clause-fits : goal.keep_type-requires-clause-fits
keep_type-requires-clause-fits c =
    let a = c.args.from.now in
    let b = c.args.into.now.arena in
    let t = c.args.copier.now in
    let at : slice_get a.table.types c.args.ty ≡ Some c.get.result.now = sym (ap (λ (u : Types). slice_get u.types c.args.ty) c.types-2.ensures) ∙ c.get.ensures in
    subst (λ i. IsWithinLimits (shape (structs b.table) (tree_of (names b.table) (trees b.table) (Array 0 i)))) (sym c.new_type.ensures)
    (new_fits a b t c.requires.types (subst types.IsGood c.types.ensures c.type_count-good.ensures.good) c.args.ty c.get.result.now at c.in-Some.element (sym c.in-Some.ensures) (subst IsWithin c.types.ensures c.type_count-good.ensures.within))

pub returns-in_ok-id-in-Some-clause-is : goal.returns-in_ok-id-in-Some-clause-is
returns-in_ok-id-in-Some-clause-is c =
    let a = c.args.from.now in
    let b = c.args.into.now.arena in
    let t = c.args.copier.now in
    let at : slice_get a.table.types c.args.ty ≡ Some c.get.result.now = sym (ap (λ (u : Types). slice_get u.types c.args.ty) c.types-2.ensures) ∙ c.get.ensures in
    subst (IsType c.keep_type.new.self.arena c.in_ok-id-in-Some.id)
    (ap (λ i. tree_of (names b.table) (trees b.table) (Array 0 i)) c.new_type.ensures
    ∙ new_is a b t c.requires.types (subst types.IsGood c.types.ensures c.type_count-good.ensures.good) c.args.ty c.get.result.now at c.in-Some.element (sym c.in-Some.ensures))
    c.in_ok-id-in-Some.ensures.is

pub returns-in-None-clause-is : goal.returns-in-None-clause-is
returns-in-None-clause-is c =
    let a = c.args.from.now in
    let b = c.args.into.now.arena in
    let t = c.args.copier.now in
    let at : slice_get a.table.types c.args.ty ≡ Some c.get.result.now = sym (ap (λ (u : Types). slice_get u.types c.args.ty) c.types-2.ensures) ∙ c.get.ensures in
    subst (λ i. IsType b i (without_elements (type_at (trees a.table) c.args.ty))) (sym c.new_type-in-None.ensures)
    (other_is a b t c.requires.types (subst types.IsGood c.types.ensures c.type_count-good.ensures.good) c.args.ty c.get.result.now at (sym c.in-None.ensures))
