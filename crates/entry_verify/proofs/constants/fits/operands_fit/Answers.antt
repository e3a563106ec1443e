use Rattle.std.proofs.Common.{sym, ap, ◌∙◌, List, map}
use Rattle.type_table.specs.Types.{Types, tree, structs}
use Rattle.module_arena.specs.declared.constant.Const as the_const
use Rattle.module_arena.specs.declared.constant.Const.TheVariants as const
use Rattle.module_arena.specs.declared.constant.ConstAddress.{ConstAddress}
use Rattle.module_arena.specs.declared.constant.TypedConst.{TypedConst}
use Rattle.module_arena.specs.Changes.{constant_in}
use Rattle.module_arena.specs.Constants.{is_cast_between}
use Rattle.entry_verify.specs.Constants.ConstantParts.{are_element_operands, index_at, own_operands_fit}
use Rattle.entry_verify.proofs.OnConstants.OwnTold.{operands_suit}
use Rattle.entry_verify.proofs.constants.fits.operands_fit.Goals as goal

pub returns-in-ElementAddress : goal.returns-in-ElementAddress
returns-in-ElementAddress c =
    let a = c.args.arena.now in
    c.element_operands_fit.ensures
    ∙ ap (λ (es : List TypedConst). are_element_operands (structs a.table) (tree a.table c.get-address.result.now.source) (map (index_at a) es)) c.as_slice.ensures
    ∙ operands_suit a c.args.types.now c.requires.same c.in-ElementAddress.field-0 c.get-address.result.now
    ∙ ap (λ (k : ConstAddress). own_operands_fit (structs a.table) (constant_in a (const.ElementAddress c.in-ElementAddress.field-0 k))) c.get-address.ensures
    ∙ ap (λ (k : the_const.Const). own_operands_fit (structs a.table) (constant_in a k)) (sym c.in-ElementAddress.is)

pub returns-in-Cast : goal.returns-in-Cast
returns-in-Cast c =
    let a = c.args.arena.now in
    c.is_cast_between.ensures
    ∙ ap (λ (u : Types). is_cast_between c.in-Cast.opcode (tree u c.in-Cast.operand.ty) (tree u c.in-Cast.to)) c.requires.same
    ∙ ap (λ (k : the_const.Const). own_operands_fit (structs a.table) (constant_in a k)) (sym c.in-Cast.is)
