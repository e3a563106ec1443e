use Rattle.std.proofs.Common.{List, [], ap, flat_map, map, subst, sym, ℕ, ◌++◌, ◌∙◌, ◌∷◌}
use Rattle.std.proofs.lemmas.List.{append-nil}
use Rattle.bitcode_write.proofs.TypeLines.{named_place, parts_listed}
use Rattle.bitcode_write.specs.Entries.{type_operands}
use Rattle.module_arena.specs.View.{module_of}
use Rattle.record_write.specs.Operands.Numbered.{indices}
use Rattle.record_table.specs.Fields.{bool_code, ty}
use Rattle.record_table.specs.Mentions.{mentioned}
use Rattle.type_table.specs.Types.{IsKnown, tree, trees}
use Rattle.type_table.specs.declared.ir_type.IrType.{IrType}
use Rattle.record_write.proofs.OnOperands.Chain.{reworded}
use Rattle.bitcode_write.proofs.types.put_parts.Goals as goal

pub returns-in-Int : goal.returns-in-Int
returns-in-Int c = let a = c.args.numbering.now in reworded _ _ _ _ _ c.put_number.ensures (ap (λ (n : ℕ). n ∷ []) c.from-bits.ensures ∙ sym (ap (type_operands a) c.in-Int.is))

pub returns-in-Ptr : goal.returns-in-Ptr
returns-in-Ptr c = let a = c.args.numbering.now in let o = c.args.operands.now.items in sym (append-nil o) ∙ ap (λ (l : List ℕ). o ++ l) (sym (ap (type_operands a) c.in-Ptr.is))

pub returns-in-Void : goal.returns-in-Void
returns-in-Void c = let a = c.args.numbering.now in let o = c.args.operands.now.items in sym (append-nil o) ∙ ap (λ (l : List ℕ). o ++ l) (sym (ap (type_operands a) c.in-Void.is))

pub put_array-requires : goal.put_array-requires
put_array-requires c = subst (λ (x : IrType). IsKnown c.args.numbering.now.table x) c.in-Array.is c.requires.known

pub returns-in-Array : goal.returns-in-Array
returns-in-Array c = let a = c.args.numbering.now in reworded _ _ _ _ _ c.put_array.ensures (sym (ap (type_operands a) c.in-Array.is))

pub put_plain_struct-requires : goal.put_plain_struct-requires
put_plain_struct-requires c = rw c.as_slice.ensures (subst (λ (x : IrType). IsKnown c.args.numbering.now.table x) c.in-Struct.is c.requires.known)

pub returns-in-Struct : goal.returns-in-Struct
returns-in-Struct c =
    let a = c.args.numbering.now in
    reworded _ _ _ _ _ c.put_plain_struct.ensures
    (ap (λ (ids : List ℕ). bool_code c.in-Struct.packed ∷ flat_map (ty (indices a)).spell (map (tree a.table) ids)) c.as_slice.ensures
    ∙ ap (λ (ns : List ℕ). bool_code c.in-Struct.packed ∷ ns) (parts_listed (mentioned (module_of a)) (trees a.table) c.in-Struct.fields)
    ∙ sym (ap (type_operands a) c.in-Struct.is))

pub returns-in-Named : goal.returns-in-Named
returns-in-Named c =
    let a = c.args.numbering.now in
    reworded _ _ _ _ _ c.put_number-in-Named.ensures
    (ap (λ (n : ℕ). n ∷ []) (c.from-place.ensures ∙ c.number.ensures) ∙ named_place a c.requires.good c.in-Named.id (subst (λ (x : IrType). IsKnown a.table x) c.in-Named.is c.requires.known) ∙ sym (ap (type_operands a) c.in-Named.is))
