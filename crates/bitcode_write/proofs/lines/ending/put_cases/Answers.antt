use Rattle.std.proofs.Common.{ℕ, List, ◌∷◌, [], ◌++◌, map, length, refl, arith, ap, ◌∙◌, sym, subst}
use Rattle.std.specs.List.{flat_map}
use Rattle.std.proofs.lemmas.List.{length-map}
use Rattle.module_arena.specs.declared.instruction.Case.{Case}
use Rattle.record_table.specs.Lines.{case_of}
use Rattle.record_write.specs.Operands.Numbered.{inside, case_in}
use Rattle.bitcode_write.specs.Lines.Parts.{case_operands}
use Rattle.record_write.specs.Operands.Wide.{HasCaseIn}
use Rattle.record_write.proofs.OnOperands.Chain.{two, part_more, part_end}
use Rattle.bitcode_write.proofs.lines.ending.put_cases.Goals as goal

pub parts-preserved : goal.parts-preserved
parts-preserved c = λ f t wide body has.
    let a = c.args.numbering.now in
    part_more (λ (xs : List Case). flat_map (case_of (inside a f) t).spell (map (case_in a f) xs)) (case_operands a f t) (λ x xs. refl) c.args.cases.now c.parts.part-index c.part-item.result _ _ _ c.parts-test.true c.part-item.is (c.parts.invariant f t wide body has)
    (c.in_ok-put_case.ensures f t wide body (subst (λ (x : Case). HasCaseIn a f t x) (sym c.part-item.is) (has c.parts.part-index c.part-item.result c.parts-test.true)))

pub returns : goal.returns
returns c = λ f t wide body has.
    let a = c.args.numbering.now in
    let all = λ (xs : List Case). flat_map (case_of (inside a f) t).spell (map (case_in a f) xs) in
    let xs = c.args.cases.now in
    two _ (length xs ∷ []) (all xs) _ _ c.in_ok-put_count.ensures (part_end all (case_operands a f t) (λ x xs. refl) refl xs c.parts.part-index _ _ (omega arith) (c.parts.invariant f t wide body has))
    ∙ ap (λ (n : ℕ). c.args.operands.now.items ++ n ∷ all xs) (sym (length-map xs (case_in a f)))
