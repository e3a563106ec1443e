use Rattle.std.proofs.Common.{ℕ, Option, ap, sym, ◌∙◌}
use Rattle.std.specs.Prelude.{unwrap_or}
use Rattle.type_table.specs.declared.layout.Layout.{Layout}
use Rattle.type_table.specs.Layout.{align}
use Rattle.type_table.specs.Types.{Types}
use Rattle.run_names.specs.Shapes.Shapes.{shape_in}
use Rattle.run_decode.proofs.memory.align_of.Goals as goal

pub returns-in-None : goal.returns-in-None
returns-in-None c =
    let own = ap (λ (l : Layout). l.align) c.layout_of.ensures ∙ ap (λ (t : Types). align (shape_in t c.args.ty)) c.types.ensures in
    own ∙ ap (λ (o : Option ℕ). unwrap_or o (align (shape_in c.args.scope.now.lists.table c.args.ty))) (sym c.in-None.is)
