use Rattle.std.proofs.Common.{ℕ, List, ◌∷◌, ◌++◌, [], map, length, refl, arith, ap, ◌∙◌, sym}
use Rattle.std.specs.List.{flat_map}
use Rattle.std.proofs.lemmas.List.{length-map}
use Rattle.type_table.specs.Types.{tree}
use Rattle.record_table.specs.Fields.{ty}
use Rattle.record_write.specs.Operands.Numbered.{indices}
use Rattle.record_write.proofs.OnOperands.Chain.{two, part_more, part_end}
use Rattle.record_write.proofs.operands.numbering.Numbering.put_types.Goals as goal

pub parts-preserved : goal.parts-preserved
parts-preserved c =
    let a = c.args.self.now in
    part_more (λ (xs : List ℕ). flat_map (ty (indices a)).spell (map (tree a.table) xs)) (λ (x : ℕ). (ty (indices a)).spell (tree a.table x)) (λ x xs. refl) c.args.ids.now c.parts.id-index c.id-item.result _ _ _ c.parts-test.true c.id-item.is c.parts.invariant c.in_ok-put_type.ensures

pub returns : goal.returns
returns c =
    let a = c.args.self.now in
    let all = λ (xs : List ℕ). flat_map (ty (indices a)).spell (map (tree a.table) xs) in
    let xs = c.args.ids.now in
    two _ (length xs ∷ []) (all xs) _ _ c.in_ok-put_count.ensures (part_end all (λ (x : ℕ). (ty (indices a)).spell (tree a.table x)) (λ x xs. refl) refl xs c.parts.id-index _ _ (omega arith) c.parts.invariant)
    ∙ ap (λ (n : ℕ). c.args.operands.now.items ++ n ∷ all xs) (sym (length-map xs (tree a.table)))
