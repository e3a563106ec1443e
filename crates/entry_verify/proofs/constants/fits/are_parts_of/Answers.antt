use Rattle.std.proofs.Common.{◌==◌, ◌&&◌, ap, sym, ◌∙◌, length, map}
use Rattle.type_table.specs.Tree.{Tree}
use Rattle.type_table.specs.Types.{tree, trees, trees_at}
use Rattle.module_arena.specs.Constants.{expected}
use Rattle.module_arena.specs.View.{brackets_view}
use Rattle.module_arena.specs.declared.constant.TypedConst.{TypedConst}
use Rattle.entry_verify.specs.Constants.ConstantParts.{have_types}
use Rattle.entry_verify.proofs.OnConstants.ListsTold.{array_parts, struct_parts, no_parts}
use Rattle.entry_verify.proofs.constants.fits.are_parts_of.Goals as goal

pub returns-in-Array : goal.returns-in-Array
returns-in-Array c =
    let f = λ (x : TypedConst). tree c.args.types.now x.ty in
    (λ j. c.is_square.ensures j && ((length c.args.parts.now == c.in-Array.count) && c.have_type-all.ensures j))
    ∙ array_parts f (brackets_view c.args.round) c.in-Array.count (tree c.args.types.now c.in-Array.element) c.args.parts.now
    ∙ ap (λ (u : Tree). have_types (expected (brackets_view c.args.round) u) (map f c.args.parts.now)) (sym c.in-Array.ensures.0)

pub returns-in-Struct : goal.returns-in-Struct
returns-in-Struct c =
    let f = λ (x : TypedConst). tree c.args.types.now x.ty in
    (λ j. c.are_brackets_of.ensures j && c.have_types-all.ensures j)
    ∙ struct_parts (brackets_view c.args.round) c.in-Struct.packed (trees_at (trees c.args.types.now) c.in-Struct.fields.now) (map f c.args.parts.now)
    ∙ ap (λ (u : Tree). have_types (expected (brackets_view c.args.round) u) (map f c.args.parts.now)) (sym c.in-Struct.ensures.0)

pub returns-in-Other : goal.returns-in-Other
returns-in-Other c = no_parts (brackets_view c.args.round) _ (map (λ (x : TypedConst). tree c.args.types.now x.ty) c.args.parts.now) c.in-Other.ensures
