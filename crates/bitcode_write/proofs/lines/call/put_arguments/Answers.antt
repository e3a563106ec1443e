use Rattle.std.proofs.Common.{◌∷◌, [], ◌++◌, ℕ, map, length, refl, sym, ap, ◌∙◌, arith}
use Rattle.std.proofs.lemmas.List.{length-map}
use Rattle.type_table.specs.Types.{tree}
use Rattle.record_write.specs.Operands.Numbered.{operand_of}
use Rattle.record_write.proofs.OnOperands.Chain.{two}
use Rattle.bitcode_write.proofs.OnLines.Arguments.{first_stands, arguments_from, arguments_more, arguments_end}
use Rattle.bitcode_write.proofs.lines.call.put_arguments.Goals as goal

pub parts-init : goal.parts-init
parts-init c = λ f body all. (all, refl)

pub parts-preserved : goal.parts-preserved
parts-preserved c = λ f body all.
    let a = c.args.numbering.now in
    let ts = map (tree a.table) c.args.parameters.now in
    let xs = c.args.arguments.now in
    let before = c.parts.invariant f body all in
    let here = first_stands a f ts xs c.parts.place c.index-arguments-place.result c.parts-test.true c.index-arguments-place.is before.0 in
    (here.1, arguments_more a f ts xs c.parts.place c.index-arguments-place.result _ _ _ c.parts-test.true c.index-arguments-place.is before.1 (c.in_ok-put_argument.ensures f body here.0))

pub returns : goal.returns
returns c = λ f body all.
    let a = c.args.numbering.now in
    let ts = map (tree a.table) c.args.parameters.now in
    let xs = c.args.arguments.now in
    two _ (length xs ∷ []) (arguments_from a f ts xs 0) _ _ c.in_ok-put_count.ensures (arguments_end a f ts xs c.parts.place _ _ (omega arith) (c.parts.invariant f body all).1)
    ∙ ap (λ (n : ℕ). c.args.operands.now.items ++ n ∷ arguments_from a f ts xs 0) (sym (length-map xs (operand_of a f)))
