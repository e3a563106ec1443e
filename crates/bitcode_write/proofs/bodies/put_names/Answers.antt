use Rattle.std.proofs.Common.{List, flat_map, map, refl}
use Rattle.bitcode_write.proofs.Chain.{part_end, part_more}
use Rattle.module_arena.specs.View.{local_view}
use Rattle.record_write.specs.Operands.Numbered.{texts}
use Rattle.record_table.specs.Fields.{label}
use Rattle.module_arena.specs.declared.entry.Parameter.{Parameter}
use Rattle.bitcode_write.proofs.bodies.put_names.Goals as goal

pub parts-preserved : goal.parts-preserved
parts-preserved c =
    let a = c.args.numbering.now in
    part_more (λ (xs : List Parameter). flat_map (label (texts a) 0).spell (map (λ (p : Parameter). local_view p.name) xs)) (λ (x : Parameter). (label (texts a) 0).spell (local_view x.name)) (λ x xs. refl) c.args.parameters.now c.parts.place c.index-parameters-place.result _ _ _ c.parts-test.true c.index-parameters-place.is c.parts.invariant c.in_ok-put_label.ensures

pub returns : goal.returns
returns c =
    let a = c.args.numbering.now in
    part_end (λ (xs : List Parameter). flat_map (label (texts a) 0).spell (map (λ (p : Parameter). local_view p.name) xs)) (λ (x : Parameter). (label (texts a) 0).spell (local_view x.name)) (λ x xs. refl) refl c.args.parameters.now c.parts.place _ _ c.parts-test.false c.parts.invariant
