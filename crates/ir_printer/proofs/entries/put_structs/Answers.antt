use Rattle.std.proofs.Common.{ℕ, ◌<◌, List, [], length, map, get_or, refl, ap, arith}
use Rattle.std.proofs.lemmas.List.{length-map, get_or_default}
use Rattle.ir_lexer.specs.Pieces.{Line}
use Rattle.type_table.specs.Tree.{TreeBody, opaque_body}
use Rattle.type_table.specs.Types.{structs, trees, tree_struct}
use Rattle.canonical.specs.Canonical.{struct_phrase}
use Rattle.ir_printer.proofs.OnPhrases.Printing.{prints_same}
use Rattle.ir_printer.specs.Listed.{struct_line}
use Rattle.ir_printer.proofs.Lined.{line_more, lines_end}
use Rattle.ir_printer.proofs.entries.put_structs.Goals as goal

pub parts-preserved : goal.parts-preserved
parts-preserved g c = λ s now h.
    let t = c.args.types.now in
    let all = structs t in
    let d : List ℕ × TreeBody = ([], opaque_body) in
    let x = get_or all c.parts.place d in
    let lt : c.parts.place < length all = omega (arith, c.parts-test.true, c.struct_count-place-end.ensures, length-map t.structs (tree_struct (trees t))) in
    c.parts.invariant s now (line_more Line struct_phrase (map struct_phrase) refl (λ x xs. refl) all c.parts.place x s lt (get_or_default all c.parts.place d x lt) (prints_same (ap (λ (id : ℕ). struct_line t id Line) c.new.ensures) c.put_struct.ensures) h)

pub returns : goal.returns
returns g c = λ s.
    let t = c.args.types.now in
    let all = structs t in
    c.parts.invariant s _ (lines_end Line struct_phrase (map struct_phrase) refl (λ x xs. refl) all c.parts.place s _ (omega (arith, c.parts-test.false, c.struct_count-place-end.ensures, length-map t.structs (tree_struct (trees t)))))
