use Rattle.std.proofs.Common.{◌∙◌, ap, sym, subst, length}
use Rattle.type_table.specs.Types.{trees, structs}
use Rattle.module_arena.specs.declared.instruction.Value as the_value
use Rattle.module_arena.specs.Known.{HasValue}
use Rattle.module_arena.specs.TypeTests.{is_pointer, is_type}
use Rattle.module_arena.specs.ValueRules as values
use Rattle.module_arena.specs.View.{constants_of, value_view}
use Rattle.instruction_verify.proofs.last.callees.is_pointer_value.Goals as goal

pub returns-in-Local : goal.returns-in-Local
returns-in-Local c f vs bs told =
    let a = c.args.judge.now in
    c.is_local_pointer.ensures
    ∙ ap (is_type is_pointer) (sym (told c.in-Local.id (subst (HasValue (length a.constants) (length c.args.value_types.now)) c.in-Local.is c.requires.value)))
    ∙ ap (λ (v : the_value.Value). values.is_pointer_value (structs a.table) f (value_view (trees a.table) (constants_of a) vs bs v)) (sym c.in-Local.is)

pub returns-in-Known : goal.returns-in-Known
returns-in-Known c f vs bs told =
    let a = c.args.judge.now in
    c.is_pointer_constant.ensures
    ∙ ap (λ (v : the_value.Value). values.is_pointer_value (structs a.table) f (value_view (trees a.table) (constants_of a) vs bs v)) (sym c.in-Known.is)
