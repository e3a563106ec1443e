use Rattle.std.proofs.Common.{◌&&◌, ap, sym, ◌∙◌, List}
use Rattle.std.specs.List.{list_all}
use Rattle.type_table.specs.Tree.{void}
use Rattle.type_table.specs.Types.{structs, tree}
use Rattle.module_arena.specs.Changes.{constant_in}
use Rattle.module_arena.specs.EntryRules.{types_written_suit}
use Rattle.module_arena.specs.TypeTests.{is_free_of_void, is_passable}
use Rattle.module_arena.specs.View.{module_of}
use Rattle.module_arena.specs.declared.constant.Const as the_const
use Rattle.module_arena.specs.declared.constant.Const.TheVariants as const
use Rattle.module_arena.specs.declared.constant.ConstAddress.{ConstAddress}
use Rattle.module_arena.specs.declared.constant.ConstPair.{ConstPair}
use Rattle.module_arena.specs.declared.constant.TypedConst.{TypedConst}
use Rattle.entry_verify.proofs.OnConstants.OwnTold.{list_written, address_written, cast_written, pair_written}
use Rattle.entry_verify.proofs.constants.constants.own_types_suit.Goals as goal

pub returns-in-Aggregate : goal.returns-in-Aggregate
returns-in-Aggregate c =
    let a = c.args.arena.now in
    c.are_free_of_void.ensures
    ∙ ap (λ (es : List TypedConst). list_all (λ (x : TypedConst). is_free_of_void (tree c.args.types.now x.ty)) es) c.as_slice.ensures
    ∙ list_written a c.args.types.now c.requires.same c.in-Aggregate.field-0 c.in-Aggregate.elements
    ∙ ap (λ (k : the_const.Const). types_written_suit (module_of a).structs (void, constant_in a k)) (sym c.in-Aggregate.is)

pub returns-in-ElementAddress : goal.returns-in-ElementAddress
returns-in-ElementAddress c =
    let a = c.args.arena.now in
    let passable = c.are_passable.ensures
    ∙ ap (λ (es : List TypedConst). list_all (λ (x : TypedConst). is_passable (structs c.args.types.now) (tree c.args.types.now x.ty)) es) c.as_slice-in-ElementAddress.ensures in
    (λ j. c.lies_in_memory.ensures j && passable j)
    ∙ address_written a c.args.types.now c.requires.same c.in-ElementAddress.field-0 c.get-address.result.now
    ∙ ap (λ (k : ConstAddress). types_written_suit (module_of a).structs (void, constant_in a (const.ElementAddress c.in-ElementAddress.field-0 k))) c.get-address.ensures
    ∙ ap (λ (k : the_const.Const). types_written_suit (module_of a).structs (void, constant_in a k)) (sym c.in-ElementAddress.is)

pub returns-in-Cast : goal.returns-in-Cast
returns-in-Cast c =
    let a = c.args.arena.now in
    (λ j. c.is_passable.ensures j && c.is_free_of_void.ensures j)
    ∙ cast_written a c.args.types.now c.requires.same c.in-Cast.field-0 c.in-Cast.operand c.in-Cast.to
    ∙ ap (λ (k : the_const.Const). types_written_suit (module_of a).structs (void, constant_in a k)) (sym c.in-Cast.is)

pub returns-in-Binary : goal.returns-in-Binary
returns-in-Binary c =
    let a = c.args.arena.now in
    (λ j. c.is_passable-in-Binary.ensures j && c.is_passable-in-Binary-2.ensures j)
    ∙ pair_written a c.args.types.now c.requires.same c.in-Binary.field-0 c.in-Binary.field-1 c.get-pair.result.now
    ∙ ap (λ (k : ConstPair). types_written_suit (module_of a).structs (void, constant_in a (const.Binary c.in-Binary.field-0 c.in-Binary.field-1 k))) c.get-pair.ensures
    ∙ ap (λ (k : the_const.Const). types_written_suit (module_of a).structs (void, constant_in a k)) (sym c.in-Binary.is)
