use Rattle.std.proofs.Common.{List, [], ap, flat_map, length, map, refl, sym, ℕ, ◌++◌, ◌∙◌, ◌∷◌}
use Rattle.std.proofs.lemmas.List.{length-map}
use Rattle.bitcode_write.proofs.Chain.{part_end, part_more}
use Rattle.record_write.specs.Operands.Numbered.{indices}
use Rattle.record_table.specs.Fields.{ty}
use Rattle.type_table.specs.Types.{tree}
use Rattle.module_arena.specs.declared.entry.Parameter.{Parameter}
use Rattle.record_write.proofs.OnOperands.Chain.{two}
use Rattle.bitcode_write.proofs.entries.put_parameter_types.Goals as goal

pub parts-preserved : goal.parts-preserved
parts-preserved c =
    let a = c.args.numbering.now in
    part_more (λ (xs : List Parameter). flat_map (ty (indices a)).spell (map (λ (p : Parameter). tree a.table p.ty) xs)) (λ (x : Parameter). (ty (indices a)).spell (tree a.table x.ty)) (λ x xs. refl) c.args.parameters.now c.parts.place c.index-parameters-place.result _ _ _ c.parts-test.true c.index-parameters-place.is c.parts.invariant c.in_ok-put_type.ensures

pub returns : goal.returns
returns c =
    let a = c.args.numbering.now in
    let all = λ (xs : List Parameter). flat_map (ty (indices a)).spell (map (λ (p : Parameter). tree a.table p.ty) xs) in
    let xs = c.args.parameters.now in
    two _ (length xs ∷ []) (all xs) _ _ c.in_ok-put_count.ensures (part_end all (λ (x : Parameter). (ty (indices a)).spell (tree a.table x.ty)) (λ x xs. refl) refl xs c.parts.place _ _ c.parts-test.false c.parts.invariant)
    ∙ ap (λ (n : ℕ). c.args.operands.now.items ++ n ∷ all xs) (sym (length-map xs (λ (x : Parameter). tree a.table x.ty)))
