use Rattle.std.proofs.Common.{◌≡◌, map, sym, subst}
use Rattle.ir_syntax.specs.declared.item.Definition.{Definition}
use Rattle.ir_syntax.specs.declared.item.Item.{Item}
use Rattle.ir_syntax.specs.View.{parameter_view, item_view}
use Rattle.module_arena.specs.Module as m
use Rattle.item_build.specs.Buildable.Bodies.{parameter_names}
use Rattle.ir_resolve.specs.Defining.{IsCalledSo}
use Rattle.ir_resolve.proofs.bodies.define_item.Goals as goal

pub define_function-requires-clause-called : goal.define_function-requires-clause-called
define_function-requires-clause-called c f is =
    let here = subst (λ (x : Item). IsCalledSo (item_view x) f) c.in-Definition.is (c.requires.called f is) in
    subst (λ (d : Definition). map (λ (p : m.Parameter). p.name) f.parameters ≡ parameter_names (map parameter_view d.parameters.items)) (sym c.deref.ensures) here
