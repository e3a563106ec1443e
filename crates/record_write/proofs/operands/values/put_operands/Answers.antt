use Rattle.std.proofs.Common.{ℕ, List, ◌∷◌, [], ◌++◌, map, length, refl, arith, ap, ◌∙◌, sym, subst}
use Rattle.std.specs.List.{flat_map}
use Rattle.std.proofs.lemmas.List.{length-map}
use Rattle.module_arena.specs.declared.instruction.Operand.{Operand}
use Rattle.record_table.specs.Lines.{typed_value}
use Rattle.record_write.specs.Operands.Numbered.{inside, operand_of}
use Rattle.record_write.specs.Operands.Wide.{HasOperandIn}
use Rattle.record_write.proofs.OnOperands.Chain.{two, part_more, part_end}
use Rattle.record_write.proofs.operands.values.put_operands.Goals as goal

pub parts-preserved : goal.parts-preserved
parts-preserved c = λ f body has.
    let a = c.args.numbering.now in
    part_more (λ (xs : List Operand). flat_map (typed_value (inside a f)).spell (map (operand_of a f) xs)) (λ (x : Operand). (typed_value (inside a f)).spell (operand_of a f x)) (λ x xs. refl) c.args.parts.now c.parts.part-index c.part-item.result _ _ _ c.parts-test.true c.part-item.is (c.parts.invariant f body has)
    (c.in_ok-put_operand.ensures f body (subst (λ (x : Operand). HasOperandIn a f x) (sym c.part-item.is) (has c.parts.part-index c.part-item.result c.parts-test.true)))

pub returns : goal.returns
returns c = λ f body has.
    let a = c.args.numbering.now in
    let all = λ (xs : List Operand). flat_map (typed_value (inside a f)).spell (map (operand_of a f) xs) in
    let xs = c.args.parts.now in
    two _ (length xs ∷ []) (all xs) _ _ c.in_ok-put_count.ensures (part_end all (λ (x : Operand). (typed_value (inside a f)).spell (operand_of a f x)) (λ x xs. refl) refl xs c.parts.part-index _ _ (omega arith) (c.parts.invariant f body has))
    ∙ ap (λ (n : ℕ). c.args.operands.now.items ++ n ∷ all xs) (sym (length-map xs (operand_of a f)))
