use Rattle.std.proofs.Common.{◌∙◌, ◌<◌, ℕ, Option, length, ap, sym, subst}
use Rattle.std.specs.Option.{option_map}
use Rattle.std.specs.Prelude.{IfSome}
use Rattle.type_table.specs.Types.{tree}
use Rattle.entry_verify.proofs.OnTypes.OpenedTold.{indexed_in_array, indexed_in_struct, indexed_by_other, indexed_in_other, field_known}
use Rattle.entry_verify.proofs.types.types.TypeJudge.indexed.Goals as goal

pub returns-in-Array-clause-part : goal.returns-in-Array-clause-part
returns-in-Array-clause-part c = indexed_in_array c.args.self.now c.in-Array.field-0 c.in-Array.element _ _ c.in-Array.ensures

pub returns-in-Array-clause-known : goal.returns-in-Array-clause-known
returns-in-Array-clause-known c = c.in-Array.ensures.1

pub returns-then-is_integer_of-clause-part : goal.returns-then-is_integer_of-clause-part
returns-then-is_integer_of-clause-part c =
    ap (option_map (tree c.args.self.now)) c.field_at.ensures
    ∙ indexed_in_struct c.args.self.now c.in-Struct.field-0 c.in-Struct.fields.now _ _ c.in-Struct.ensures (sym c.is_integer_of.ensures ∙ c.if-is_integer_of.true)

pub returns-then-is_integer_of-clause-known : goal.returns-then-is_integer_of-clause-known
returns-then-is_integer_of-clause-known c =
    subst (λ (o : Option ℕ). IfSome o (λ part. part < length c.args.self.now.types)) (sym c.field_at.ensures) (field_known c.args.self.now c.in-Struct.fields.now c.args.number c.in-Struct.ensures.1)

pub returns-else-is_integer_of-clause-part : goal.returns-else-is_integer_of-clause-part
returns-else-is_integer_of-clause-part c =
    indexed_by_other c.args.self.now c.in-Struct.field-0 c.in-Struct.fields.now _ _ c.in-Struct.ensures (sym c.is_integer_of.ensures ∙ c.if-is_integer_of.false)

pub returns-in-Other-clause-part : goal.returns-in-Other-clause-part
returns-in-Other-clause-part c = indexed_in_other _ _ c.in-Other.ensures
