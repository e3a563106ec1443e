use Rattle.std.proofs.Common.{◌&&◌, ℕ, ap, sym, ◌∙◌, List, length, map}
use Rattle.type_table.specs.Types.{Types, structs, tree}
use Rattle.module_arena.specs.Changes.{constant_in}
use Rattle.module_arena.specs.Constants.{expected, is_bytes_of}
use Rattle.module_arena.specs.Same.{same_type}
use Rattle.module_arena.specs.TypeTests.{is_integer, is_integer_of, is_pointer, opened}
use Rattle.module_arena.specs.View.{brackets_view}
use Rattle.module_arena.specs.declared.constant.Const as the_const
use Rattle.module_arena.specs.declared.constant.Const.TheVariants as const
use Rattle.module_arena.specs.declared.constant.ConstPair.{ConstPair}
use Rattle.module_arena.specs.declared.constant.TypedConst.{TypedConst}
use Rattle.entry_verify.specs.Constants.ConstantParts.{fits_outside, have_types}
use Rattle.entry_verify.proofs.OnConstants.OwnTold.{list_fits}
use Rattle.entry_verify.proofs.constants.fits.fits_outside.Goals as goal

pub returns-in-Integer : goal.returns-in-Integer
returns-in-Integer c =
    c.is_integer.ensures
    ∙ ap (λ (u : Types). is_integer (tree u c.args.ty)) c.requires.same
    ∙ ap (λ (k : the_const.Const). fits_outside (structs c.args.arena.now.table) (tree c.args.arena.now.table c.args.ty) (constant_in c.args.arena.now k)) (sym c.in-Integer.is)

pub returns-in-Truth : goal.returns-in-Truth
returns-in-Truth c =
    c.is_integer_of.ensures
    ∙ ap (λ (u : Types). is_integer_of 1 (tree u c.args.ty)) c.requires.same
    ∙ ap (λ (k : the_const.Const). fits_outside (structs c.args.arena.now.table) (tree c.args.arena.now.table c.args.ty) (constant_in c.args.arena.now k)) (sym c.in-Truth.is)

pub returns-in-Null : goal.returns-in-Null
returns-in-Null c =
    c.is_pointer.ensures
    ∙ ap (λ (u : Types). is_pointer (tree u c.args.ty)) c.requires.same
    ∙ ap (λ (k : the_const.Const). fits_outside (structs c.args.arena.now.table) (tree c.args.arena.now.table c.args.ty) (constant_in c.args.arena.now k)) (sym c.in-Null.is)

pub returns-in-Cast : goal.returns-in-Cast
returns-in-Cast c =
    c.same_type.ensures
    ∙ ap (λ (u : Types). same_type (tree u c.args.ty) (tree u c.in-Cast.to)) c.requires.same
    ∙ ap (λ (k : the_const.Const). fits_outside (structs c.args.arena.now.table) (tree c.args.arena.now.table c.args.ty) (constant_in c.args.arena.now k)) (sym c.in-Cast.is)

pub returns-in-Aggregate : goal.returns-in-Aggregate
returns-in-Aggregate c =
    c.are_parts_of.ensures
    ∙ ap (λ (es : List TypedConst). have_types (expected (brackets_view c.in-Aggregate.round) (opened (structs c.args.types.now) (tree c.args.types.now c.args.ty))) (map (λ (x : TypedConst). tree c.args.types.now x.ty) es)) c.as_slice.ensures
    ∙ list_fits c.args.arena.now c.args.types.now c.requires.same c.args.ty c.in-Aggregate.round c.in-Aggregate.elements
    ∙ ap (λ (k : the_const.Const). fits_outside (structs c.args.arena.now.table) (tree c.args.arena.now.table c.args.ty) (constant_in c.args.arena.now k)) (sym c.in-Aggregate.is)

pub returns-in-Address : goal.returns-in-Address
returns-in-Address c =
    c.is_pointer-in-Address.ensures
    ∙ ap (λ (u : Types). is_pointer (tree u c.args.ty)) c.requires.same
    ∙ ap (λ (k : the_const.Const). fits_outside (structs c.args.arena.now.table) (tree c.args.arena.now.table c.args.ty) (constant_in c.args.arena.now k)) (sym c.in-Address.is)

pub returns-in-ElementAddress : goal.returns-in-ElementAddress
returns-in-ElementAddress c =
    c.is_pointer-in-ElementAddress.ensures
    ∙ ap (λ (u : Types). is_pointer (tree u c.args.ty)) c.requires.same
    ∙ ap (λ (k : the_const.Const). fits_outside (structs c.args.arena.now.table) (tree c.args.arena.now.table c.args.ty) (constant_in c.args.arena.now k)) (sym c.in-ElementAddress.is)

pub returns-in-ByteString : goal.returns-in-ByteString
returns-in-ByteString c =
    c.is_bytes_of.ensures
    ∙ ap (λ (u : Types). is_bytes_of (length c.bytes.result.now) (tree u c.args.ty)) c.requires.same
    ∙ ap (λ (bytes : List ℕ). is_bytes_of (length bytes) (tree c.args.arena.now.table c.args.ty)) c.bytes.ensures
    ∙ ap (λ (k : the_const.Const). fits_outside (structs c.args.arena.now.table) (tree c.args.arena.now.table c.args.ty) (constant_in c.args.arena.now k)) (sym c.in-ByteString.is)

pub returns-in-Binary : goal.returns-in-Binary
returns-in-Binary c =
    let a = c.args.arena.now in
    let pair = c.get-pair.result.now in
    (λ j. c.is_integer-in-Binary.ensures j && (c.same_type-first.ensures j && c.same_type-second.ensures j))
    ∙ ap (λ (u : Types). is_integer (tree u c.args.ty) && (same_type (tree u c.args.ty) (tree u pair.left.ty) && same_type (tree u c.args.ty) (tree u pair.right.ty))) c.requires.same
    ∙ ap (λ (k : ConstPair). fits_outside (structs a.table) (tree a.table c.args.ty) (constant_in a (const.Binary c.in-Binary.field-0 c.in-Binary.field-1 k))) c.get-pair.ensures
    ∙ ap (λ (k : the_const.Const). fits_outside (structs a.table) (tree a.table c.args.ty) (constant_in a k)) (sym c.in-Binary.is)
