use Rattle.std.proofs.Common.{All, map, subst, sym}
use Rattle.ir_phrases.specs.Constants.View.{type_view}
use Rattle.ir_syntax.specs.declared.item.WrittenParameter.{WrittenParameter}
use Rattle.ir_syntax.specs.declared.item.Declaration.{Declaration}
use Rattle.ir_syntax.specs.declared.item.Definition.{Definition}
use Rattle.ir_syntax.specs.declared.item.Item.{Item}
use Rattle.ir_syntax.specs.Tree.{ParameterTree}
use Rattle.ir_syntax.specs.View.{parameter_view, item_view}
use Rattle.type_table.specs.Types.{structs}
use Rattle.name_rules.specs.Written.{type_in}
use Rattle.item_build.specs.Types.Fitting.{CanBe}
use Rattle.item_build.proofs.OnTypes.Declaring.{all_mapped}
use Rattle.item_build.specs.Buildable.Entries.{CanDeclare}
use Rattle.item_build.proofs.declaring.declare_item.Goals as goal

pub declare_function-requires-clause-can : goal.declare_function-requires-clause-can
declare_function-requires-clause-can c =
    let ss = structs c.args.builder.now.arena.table in
    let can = subst (λ (x : Item). CanDeclare ss (item_view x)) c.in-Declaration.is c.requires.can in
    let items = c.in-Declaration.declaration.value.formal.parameters.items in
    let types = all_mapped (λ (p : ParameterTree). p.0) (λ t. CanBe ss (type_in t)) (map parameter_view items) can.1 in
    let all = all_mapped parameter_view (λ (p : ParameterTree). CanBe ss (type_in p.0)) items types in
    subst (λ (d : Declaration). All (λ (p : WrittenParameter). CanBe ss (type_in (type_view p.ty))) d.formal.parameters.items) (sym c.deref-in-Declaration.ensures) all

pub declare_definition-requires-clause-can : goal.declare_definition-requires-clause-can
declare_definition-requires-clause-can c =
    let ss = structs c.args.builder.now.arena.table in
    let can = subst (λ (x : Item). CanDeclare ss (item_view x)) c.in-Definition.is c.requires.can in
    let items = c.in-Definition.definition.value.parameters.items in
    let all = all_mapped parameter_view (λ (p : ParameterTree). CanBe ss (type_in p.0)) items can.1 in
    subst (λ (d : Definition). All (λ (p : WrittenParameter). CanBe ss (type_in (type_view p.ty))) d.parameters.items) (sym c.deref-in-Definition.ensures) all
