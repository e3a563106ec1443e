use Rattle.std.proofs.Common.{List, flat_map, map, refl, ℕ}
use Rattle.bitcode_write.proofs.Chain.{part_end, part_more}
use Rattle.record_write.specs.Operands.Numbered.{indices}
use Rattle.record_table.specs.Fields.{ty}
use Rattle.type_table.specs.Types.{tree}
use Rattle.bitcode_write.proofs.types.put_indices.Goals as goal

pub parts-preserved : goal.parts-preserved
parts-preserved c =
    let a = c.args.numbering.now in
    part_more (λ (xs : List ℕ). flat_map (ty (indices a)).spell (map (tree a.table) xs)) (λ (x : ℕ). (ty (indices a)).spell (tree a.table x)) (λ x xs. refl) c.args.ids.now c.parts.place c.index-ids-place.result _ _ _ c.parts-test.true c.index-ids-place.is c.parts.invariant c.in_ok-put_type.ensures

pub returns : goal.returns
returns c =
    let a = c.args.numbering.now in
    part_end (λ (xs : List ℕ). flat_map (ty (indices a)).spell (map (tree a.table) xs)) (λ (x : ℕ). (ty (indices a)).spell (tree a.table x)) (λ x xs. refl) refl c.args.ids.now c.parts.place _ _ c.parts-test.false c.parts.invariant
