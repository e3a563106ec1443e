use Rattle.std.proofs.Common.{◌≡◌, ◌<◌, true, length, ap, sym, ◌∙◌, subst, arith}
use Rattle.module_arena.specs.TypeTests.{lies_in_memory}
use Rattle.run_rules.specs.Leaves.{leaves_before_part, part}
use Rattle.type_table.specs.Layout.{leaves}
use Rattle.type_table.specs.Shape.{Shape}
use Rattle.type_table.specs.Types.{Types, structs, tree}
use Rattle.type_table.specs.declared.layout.Layout.{Layout}
use Rattle.run_names.specs.Shapes.Shapes.{HasPath, shape_in}
use Rattle.run_decode.proofs.OnScopes.Shaped.{passable_few, passable_laid, shapes_same}
use Rattle.run_decode.proofs.scopes.parts.leaves_to.Goals as goal

pub part_of-part-requires-clause-known : goal.part_of-part-requires-clause-known
part_of-part-requires-clause-known c = subst (λ (t : Types). c.args.ty < length t.types) (sym c.types-types.ensures) c.requires.known

pub part_of-part-requires-clause-laid : goal.part_of-part-requires-clause-laid
part_of-part-requires-clause-laid c =
    subst (λ (t : Types). lies_in_memory (structs t) (tree t c.args.ty) ≡ true) (sym c.types-types.ensures) (passable_laid c.args.scope.now.lists c.args.ty c.requires.passable)

pub part_of-part-requires-clause-there : goal.part_of-part-requires-clause-there
part_of-part-requires-clause-there c = subst (λ (t : Types). HasPath (shape_in t c.args.ty) c.args.indices.now) (sym c.types-types.ensures) c.requires.part

pub part_of-part-requires-clause-few : goal.part_of-part-requires-clause-few
part_of-part-requires-clause-few c =
    let same = ap (λ (t : Types). leaves (shape_in t c.args.ty)) c.types-types.ensures in
    let few = passable_few c.args.scope.now.lists c.args.ty c.requires.passable in
    omega (arith, same, few)

pub returns-clause-before : goal.returns-clause-before
returns-clause-before c =
    c.part_of-part.ensures.before
    ∙ ap (λ (s : Shape). leaves_before_part s c.args.indices.now) (ap (λ (t : Types). shape_in t c.args.ty) c.types-types.ensures ∙ shapes_same c.args.scope.now.lists c.args.ty)

pub returns-clause-count : goal.returns-clause-count
returns-clause-count c =
    ap (λ (l : Layout). l.leaves) c.layout_of.ensures
    ∙ ap leaves c.part_of-part.ensures.shape
    ∙ ap (λ (s : Shape). leaves (part s c.args.indices.now)) (ap (λ (t : Types). shape_in t c.args.ty) c.types-types.ensures ∙ shapes_same c.args.scope.now.lists c.args.ty)

pub returns-clause-few : goal.returns-clause-few
returns-clause-few c =
    let same = ap (λ (t : Types). leaves (shape_in t c.args.ty)) c.types-types.ensures in
    let few = passable_few c.args.scope.now.lists c.args.ty c.requires.passable in
    let within = c.part_of-part.ensures.within in
    let count = ap (λ (l : Layout). l.leaves) c.layout_of.ensures in
    omega (arith, same, few, within, count)
