use Rattle.std.proofs.Common.{ℕ, List, ◌∷◌, [], ◌++◌, map, length, refl, arith, ap, ◌∙◌, sym, subst}
use Rattle.std.specs.List.{flat_map}
use Rattle.std.proofs.lemmas.List.{length-map}
use Rattle.module_arena.specs.declared.instruction.Incoming.{Incoming}
use Rattle.type_table.specs.Types.{tree}
use Rattle.record_table.specs.Lines.{incoming}
use Rattle.record_write.specs.Operands.Numbered.{inside, incoming_of}
use Rattle.record_write.specs.Operands.Wide.{HasIncomingIn}
use Rattle.record_write.proofs.OnOperands.Chain.{two, part_more, part_end}
use Rattle.record_write.proofs.operands.values.put_incoming.Goals as goal

pub parts-preserved : goal.parts-preserved
parts-preserved c = λ f body has.
    let a = c.args.numbering.now in
    part_more (λ (xs : List Incoming). flat_map (incoming (inside a f) (tree a.table c.args.ty)).spell (map (incoming_of a f) xs)) (λ (x : Incoming). (incoming (inside a f) (tree a.table c.args.ty)).spell (incoming_of a f x)) (λ x xs. refl) c.args.parts.now c.parts.part-index c.part-item.result _ _ _ c.parts-test.true c.part-item.is (c.parts.invariant f body has)
    (c.in_ok-put_entry.ensures f body (subst (λ (x : Incoming). HasIncomingIn a f (tree a.table c.args.ty) x) (sym c.part-item.is) (has c.parts.part-index c.part-item.result c.parts-test.true)))

pub returns : goal.returns
returns c = λ f body has.
    let a = c.args.numbering.now in
    let all = λ (xs : List Incoming). flat_map (incoming (inside a f) (tree a.table c.args.ty)).spell (map (incoming_of a f) xs) in
    let xs = c.args.parts.now in
    two _ (length xs ∷ []) (all xs) _ _ c.in_ok-put_count.ensures (part_end all (λ (x : Incoming). (incoming (inside a f) (tree a.table c.args.ty)).spell (incoming_of a f x)) (λ x xs. refl) refl xs c.parts.part-index _ _ (omega arith) (c.parts.invariant f body has))
    ∙ ap (λ (n : ℕ). c.args.operands.now.items ++ n ∷ all xs) (sym (length-map xs (incoming_of a f)))
