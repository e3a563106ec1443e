use Rattle.std.proofs.Common.{ℕ, List, Some, ap, ◌∙◌, arith}
use Rattle.ir_lexer.specs.declared.token.TokenKind.TheVariants as kind
use Rattle.canonical.specs.Types.{in_braces}
use Rattle.ir_printer.specs.Phrases.Printing.{separator_of}
use Rattle.ir_printer.proofs.OnPhrases.Printing.{prints_same}
use Rattle.ir_printer.proofs.OnPhrases.TypeParts.{top, phrases, below_top, top_within, all_within, part_within, knows_here, prints_here, part_put, parts_put, fields_put, array_put, named_put}
use Rattle.ir_printer.proofs.phrases.types.+types.Goals as goal

pub put_types-parts-init : goal.put_types-parts-init
put_types-parts-init g t c = λ now h. h

pub put_types-put_type-requires : goal.put_types-put_type-requires
put_types-put_type-requires g t c =
    λ κs le.
    let deep = below_top c.args.parts.now c.parts.place c.index-parts-place.result c.parts-test.true in
    let known = part_within c.args.parts.now _ c.parts.place c.index-parts-place.result c.requires c.parts-test.true in
    (omega (arith, deep, c.decreases, c.index-parts-place.is), (le, omega (arith, known, c.index-parts-place.is)))

pub put_types-parts-preserved : goal.put_types-parts-preserved
put_types-parts-preserved g t c = λ now h.
    c.parts.invariant now (part_put c.args.types.now c.args.parts.now c.parts.place c.index-parts-place.result (separator_of c.before-in-parts.result) (separator_of c.args.behind) (omega arith) c.index-parts-place.is c.before-in-parts.ensures c.put_type.ensures c.put_comma.ensures h)

pub put_types-returns : goal.put_types-returns
put_types-returns g t c = c.parts.invariant _ (parts_put c.args.types.now c.args.parts.now c.parts.place (separator_of c.args.behind) _ (omega arith))

pub put_type-returns-in-Int : goal.put_type-returns-in-Int
put_type-returns-in-Int g t c =
    prints_here c.args.types.now c.type_count-count.ensures.good c.args.ty _ (c.get.ensures ∙ ap Some c.in-Int.is) (separator_of c.args.behind) c.put_integer_type.ensures

pub put_type-returns-in-Ptr : goal.put_type-returns-in-Ptr
put_type-returns-in-Ptr g t c =
    prints_here c.args.types.now c.type_count-count.ensures.good c.args.ty _ (c.get.ensures ∙ ap Some c.in-Ptr.is) (separator_of c.args.behind) (c.put_token.ensures kind.Word)

pub put_type-returns-in-Void : goal.put_type-returns-in-Void
put_type-returns-in-Void g t c =
    prints_here c.args.types.now c.type_count-count.ensures.good c.args.ty _ (c.get.ensures ∙ ap Some c.in-Void.is) (separator_of c.args.behind) (c.put_token-in-Void.ensures kind.Word)

pub put_type-put_type-requires : goal.put_type-put_type-requires
put_type-put_type-requires g t c =
    λ κs le.
    let at = c.get.ensures ∙ ap Some c.in-Array.is in
    let below = knows_here c.args.types.now c.type_count-count.ensures.good c.args.ty _ at in
    (omega (arith, below, c.decreases), (le, omega (arith, below, c.requires)))

pub put_type-returns-in-Array : goal.put_type-returns-in-Array
put_type-returns-in-Array g t c =
    prints_here c.args.types.now c.type_count-count.ensures.good c.args.ty _ (c.get.ensures ∙ ap Some c.in-Array.is) (separator_of c.args.behind)
    (array_put c.in-Array.count _ (separator_of c.args.behind) (c.put_token-in-Array.ensures kind.Punctuation) c.put_natural.ensures (c.put_token-in-Array-2.ensures kind.Word) c.put_type.ensures (c.put_token-in-Array-3.ensures kind.Punctuation))

pub put_type-put_types-requires : goal.put_type-put_types-requires
put_type-put_types-requires g t c =
    λ κs le.
    let at = c.get.ensures ∙ ap Some c.in-Struct.is in
    let below = knows_here c.args.types.now c.type_count-count.ensures.good c.args.ty _ at in
    let high = top_within _ c.args.ty below in
    let larger = all_within _ c.args.ty _ (omega (arith, c.requires)) below in
    let same = ap top c.as_slice-parts.ensures in
    (omega (arith, high, c.decreases, same), (le, rw c.as_slice-parts.ensures larger))

pub put_type-returns-in-Struct : goal.put_type-returns-in-Struct
put_type-returns-in-Struct g t c =
    prints_here c.args.types.now c.type_count-count.ensures.good c.args.ty _ (c.get.ensures ∙ ap Some c.in-Struct.is) (separator_of c.args.behind)
    (prints_same (ap (λ (ps : List ℕ). in_braces c.in-Struct.packed (phrases c.args.types.now ps) (separator_of c.args.behind)) c.as_slice-parts.ensures)
    (fields_put c.args.types.now _ _ (separator_of c.args.behind) c.put_opening.ensures c.put_types.ensures c.put_closing.ensures))

pub put_type-struct_name-requires : goal.put_type-struct_name-requires
put_type-struct_name-requires g t c =
    let at = c.get.ensures ∙ ap Some c.in-Named.is in
    knows_here c.args.types.now c.type_count-count.ensures.good c.args.ty _ at

pub put_type-returns-in-Named : goal.put_type-returns-in-Named
put_type-returns-in-Named g t c =
    prints_here c.args.types.now c.type_count-count.ensures.good c.args.ty _ (c.get.ensures ∙ ap Some c.in-Named.is) (separator_of c.args.behind)
    (named_put c.args.types.now c.in-Named.id c.struct_name.result.now (separator_of c.args.behind) c.struct_name.ensures c.put_struct_name.ensures)
