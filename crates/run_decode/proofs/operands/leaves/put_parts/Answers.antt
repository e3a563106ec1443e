use Rattle.std.proofs.Common.{◌≡◌, ◌<◌, true, List, ◌++◌, length, map, refl, ap, sym, ◌∙◌, subst, arith}
use Rattle.std.specs.Prelude.{zip}
use Rattle.run_actions.specs.Values.{part_of}
use Rattle.run_rules.specs.Leaves.{Slot, is_pointer, slots}
use Rattle.run_rules.specs.Scope.{operand_in}
use Rattle.run_names.specs.Shapes.Shapes.{shape_in}
use Rattle.run_names.proofs.OnShapes.Outlines.{laid_is, shape_fits}
use Rattle.run_actions.specs.Stack.Origins.{origin_of}
use Rattle.run_decode.specs.Scopes.Scopes.{operand_of, scope_in}
use Rattle.run_decode.proofs.OnScopes.Gained.{gained_whole}
use Rattle.module_arena.specs.TypeTests.{lies_in_memory}
use Rattle.type_table.specs.Types.{Types, structs, tree}
use Rattle.run_decode.specs.Operands.Pairs.{part_with}
use Rattle.run_decode.proofs.OnOperands.Paired.{mapped_pairs}
use Rattle.run_decode.proofs.OnOperands.Placed.{parts_put}
use Rattle.run_decode.proofs.operands.leaves.put_parts.Goals as goal

pub push_slots-requires-clause-known : goal.push_slots-requires-clause-known
push_slots-requires-clause-known c = subst (λ (t : Types). c.args.operand.ty < length t.types) (sym c.types-types.ensures) c.requires.lies.known

pub push_slots-requires-clause-laid : goal.push_slots-requires-clause-laid
push_slots-requires-clause-laid c = subst (λ (t : Types). lies_in_memory (structs t) (tree t c.args.operand.ty) ≡ true) (sym c.types-types.ensures) c.requires.lies.laid

pub push_slots-requires-clause-ends : goal.push_slots-requires-clause-ends
push_slots-requires-clause-ends c =
    let ty = c.args.operand.ty in
    let types = c.types-types.result.now in
    let known = subst (λ (t : Types). ty < length t.types) (sym c.types-types.ensures) c.requires.lies.known in
    let laid = subst (λ (t : Types). lies_in_memory (structs t) (tree t ty) ≡ true) (sym c.types-types.ensures) c.requires.lies.laid in
    let fits = (shape_fits types c.type_count-count.ensures.good c.type_count-count.ensures.within ty known).size_fits (laid_is types ty laid) in
    omega (arith, fits)

pub returns-clause-parts : goal.returns-clause-parts
returns-clause-parts c =
    let s = c.args.scope.now in
    let flags = λ (t : Types). map (λ (x : Slot). is_pointer x.leaf) (slots (shape_in t c.args.operand.ty)) in
    let value = operand_in (scope_in s.lists s.function) (operand_of s.lists s.function c.args.operand) in
    let all = ap (map (λ (x : Slot). is_pointer x.leaf)) (c.deref.ensures.value ∙ c.in_ok-push_slots.ensures ∙ ap (λ (l : List Slot). l ++ slots (shape_in c.types-types.result.now c.args.operand.ty)) c.new-slots.ensures.items) ∙ ap flags c.types-types.ensures in
    let leaves = ap (map origin_of) c.deref-2.ensures.value ∙ gained_whole c.new-leaves.result.items c.push_value.new.into.items value c.new-leaves.ensures.items c.in_ok-push_value.ensures in
    parts_put c.append.result c.args.pools.now c.append.new.self c.deref-3.result.now (zip (flags s.lists.table) value) c.append.ensures.span c.append.ensures.items
    (ap (map part_of) (c.deref-3.ensures.value ∙ c.in_ok-parts.ensures) ∙ mapped_pairs part_with part_of (λ (x : Slot). is_pointer x.leaf) origin_of (λ x y. refl) c.deref.result.now c.deref-2.result.now ∙ (λ j. zip (all j) (leaves j)))
