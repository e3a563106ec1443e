use Rattle.std.proofs.Common.{◌<◌, Some, length, sym, ap, ◌∙◌, subst}
use Rattle.std.specs.Prelude.{IfSome}
use Rattle.std.specs.Option.{option_map}
use Rattle.type_table.specs.Types.{tree, trees}
use Rattle.module_arena.specs.TypeTests.{part_type}
use Rattle.entry_verify.proofs.OnTypes.OpenedTold.{field_known, field_told}
use Rattle.instruction_verify.proofs.PartsTold.{no_part}
use Rattle.instruction_verify.proofs.written_types.part_of.Goals as goal

pub returns-in-Struct-clause-part : goal.returns-in-Struct-clause-part
returns-in-Struct-clause-part c =
    let t = c.args.types.now in
    ap (option_map (tree t)) c.field_at.ensures ∙ field_told (trees t) c.in-Struct.fields.now c.args.index ∙ sym (ap (λ u. part_type u c.args.index) c.in-Struct.ensures.0)

pub returns-in-Struct-clause-known : goal.returns-in-Struct-clause-known
returns-in-Struct-clause-known c =
    let t = c.args.types.now in
    subst (λ o. IfSome o (λ part. part < length t.types)) (sym c.field_at.ensures) (field_known t c.in-Struct.fields.now (Some c.args.index) c.in-Struct.ensures.1)

pub returns-in-Other-clause-part : goal.returns-in-Other-clause-part
returns-in-Other-clause-part c = no_part _ c.args.index c.in-Other.ensures
