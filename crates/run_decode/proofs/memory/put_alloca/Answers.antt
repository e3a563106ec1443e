use Rattle.std.proofs.Common.{◌≡◌, true, ap, sym, ◌∙◌, subst}
use Rattle.module_arena.specs.TypeTests.{lies_in_memory}
use Rattle.type_table.specs.declared.layout.Layout.{Layout}
use Rattle.type_table.specs.Layout.{size}
use Rattle.type_table.specs.Types.{Types, structs, tree}
use Rattle.run_names.specs.Shapes.Shapes.{shape_in}
use Rattle.run_decode.proofs.Meant.{alloca_meant}
use Rattle.run_decode.proofs.memory.put_alloca.Goals as goal

pub layout_of-requires-clause-laid : goal.layout_of-requires-clause-laid
layout_of-requires-clause-laid c = subst (λ (t : Types). lies_in_memory (structs t) (tree t c.args.ty) ≡ true) (sym c.types.ensures) c.requires.lies.laid

pub returns-clause-action : goal.returns-clause-action
returns-clause-action c =
    let sized = ap (λ (l : Layout). l.size) c.layout_of.ensures ∙ ap (λ (t : Types). size (shape_in t c.args.ty)) c.types.ensures in
    alloca_meant c.args.scope.now c.put_count.new.pools c.args.to c.to.result c.align_of.result c.layout_of.result.size c.args.ty c.args.count c.args.alignment c.in_ok-count.count c.to.ensures c.align_of.ensures sized c.in_ok-count.ensures.leaf
