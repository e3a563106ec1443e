use Rattle.std.proofs.Common.{List, Some, ap, map, subst, sym, ℕ, ◌∙◌, ◌∷◌}
use Rattle.bitcode_write.proofs.TypeLines.{fields_listed}
use Rattle.bitcode_write.specs.Entries.{body_operands}
use Rattle.module_arena.specs.View.{module_of}
use Rattle.record_write.specs.Operands.Numbered.{indices}
use Rattle.record_table.specs.Fields.{ty}
use Rattle.record_table.specs.Layout.{counted}
use Rattle.record_table.specs.Mentions.{mentioned}
use Rattle.type_table.specs.Types.{IsKnownBody, tree, trees}
use Rattle.type_table.specs.declared.ir_type.StructBody.{StructBody}
use Rattle.record_write.proofs.OnOperands.Chain.{reworded}
use Rattle.bitcode_write.proofs.types.put_known_body.Goals as goal

pub put_fields-requires : goal.put_fields-requires
put_fields-requires c = rw c.as_slice.ensures (subst (λ (b : StructBody). IsKnownBody c.args.numbering.now.table b) c.in-Plain.is c.requires)

pub returns-in-Plain : goal.returns-in-Plain
returns-in-Plain c =
    let a = c.args.numbering.now in
    reworded _ _ _ _ _ c.put_fields.ensures
    (ap (λ (ids : List ℕ). 0 ∷ (counted (ty (indices a))).spell (map (tree a.table) ids)) c.as_slice.ensures
    ∙ ap (λ (ns : List ℕ). 0 ∷ ns) (fields_listed (mentioned (module_of a)) (trees a.table) c.in-Plain.fields)
    ∙ sym (ap (λ (b : StructBody). body_operands a (Some b)) c.in-Plain.is))

pub put_fields-requires-in-Packed : goal.put_fields-requires-in-Packed
put_fields-requires-in-Packed c = rw c.as_slice-in-Packed.ensures (subst (λ (b : StructBody). IsKnownBody c.args.numbering.now.table b) c.in-Packed.is c.requires)

pub returns-in-Packed : goal.returns-in-Packed
returns-in-Packed c =
    let a = c.args.numbering.now in
    reworded _ _ _ _ _ c.put_fields-in-Packed.ensures
    (ap (λ (ids : List ℕ). 1 ∷ (counted (ty (indices a))).spell (map (tree a.table) ids)) c.as_slice-in-Packed.ensures
    ∙ ap (λ (ns : List ℕ). 1 ∷ ns) (fields_listed (mentioned (module_of a)) (trees a.table) c.in-Packed.fields)
    ∙ sym (ap (λ (b : StructBody). body_operands a (Some b)) c.in-Packed.is))

pub returns-in-Opaque : goal.returns-in-Opaque
returns-in-Opaque c =
    let a = c.args.numbering.now in
    reworded _ _ _ _ _ c.put_fields-in-Opaque.ensures (sym (ap (λ (b : StructBody). body_operands a (Some b)) c.in-Opaque.is))
