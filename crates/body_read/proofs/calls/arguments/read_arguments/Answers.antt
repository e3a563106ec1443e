use Rattle.std.proofs.Common.{◌≡◌, ◌∙◌, Option, ap, map, slice_get, subst, sym}
use Rattle.std.specs.Option.{option_map}
use Rattle.type_table.specs.Tree.{Tree}
use Rattle.type_table.specs.Types.{Types}
use Rattle.record_read.specs.Reader.{Reader}
use Rattle.record_read.proofs.Gathering.{loop_goes, loop_ends}
use Rattle.type_read.specs.Arena.Kept.{tree_at}
use Rattle.type_read.proofs.OnArena.Kept.{same_table}
use Rattle.type_read.proofs.OnArena.Steps.{goes_two}
use Rattle.body_read.proofs.OnConstants.Making.{goes_number}
use Rattle.body_read.specs.Operands.Found.{Finds, HasOperand, both, kept_operand, operand_in}
use Rattle.body_read.proofs.OnCalls.ArgumentLists.{argument_found, give_none, give_more, give_all, mapped_at, parameter_known, argument_at}
use Rattle.body_read.proofs.calls.arguments.read_arguments.Goals as goal

pub arguments-init : goal.arguments-init
arguments-init c =
    let m0 = c.args.m.now in
    give_none (map (tree_at m0.growing.arena.table) c.args.parameters.now) (record m0 { reader = c.number-count.new.self }) c.number-count.result _ c.new-arguments.ensures.items

pub argument_type-ty-requires : goal.argument_type-ty-requires
argument_type-ty-requires c =
    let m0 = c.args.m.now in
    let r = c.number-count.new.self in
    parameter_known m0 c.arguments.m c.args.parameters.now c.arguments.place c.parameter_at.result (goes_two m0 (record m0 { reader = r }) c.arguments.m (goes_number m0 r c.number-count.result c.number-count.ensures) c.arguments.invariant.goes) c.requires c.parameter_at.ensures

pub read_value-requires : goal.read_value-requires
read_value-requires c = c.argument_type-ty.ensures.known

pub arguments-preserved : goal.arguments-preserved
arguments-preserved c =
    let m0 = c.args.m.now in
    let first = record m0 { reader = c.number-count.new.self } in
    let now = c.arguments.m in
    let mid = c.argument_type-ty.new.m in
    let after = c.read_value.new.m in
    let ps = c.args.parameters.now in
    let on = loop_goes c.arguments.place c.number-count.result _ (sym c.arguments-test.ensures) in
    let parameter : option_map (tree_at now.growing.arena.table) c.parameter_at.result ≡ slice_get (map (tree_at m0.growing.arena.table) ps) c.arguments.place =
    ap (option_map (tree_at now.growing.arena.table)) c.parameter_at.ensures
    ∙ (ap (λ (t : Types). option_map (tree_at t) (slice_get ps c.arguments.place)) (same_table first.growing now.growing c.arguments.invariant.goes.grows) ∙ sym (mapped_at (tree_at m0.growing.arena.table) ps c.arguments.place)) in
    let argument = option_map kept_operand (both c.argument_type-ty.result c.in_ok-value.value) in
    give_more (map (tree_at m0.growing.arena.table) ps) first now after c.number-count.result c.arguments.place c.arguments.arguments.items _ argument c.arguments.invariant on.0 on.1
    (subst (λ (o : Option Tree). Finds HasOperand operand_in (λ k. argument_at k o) now after argument) parameter
    (argument_found (option_map (tree_at now.growing.arena.table) c.parameter_at.result) now mid after c.argument_type-ty.result c.in_ok-value.value c.argument_type-ty.ensures c.in_ok-value.ensures)) c.in_ok-add_operand.ensures

pub returns : goal.returns
returns c =
    let m0 = c.args.m.now in
    let r = c.number-count.new.self in
    give_all (map (tree_at m0.growing.arena.table) c.args.parameters.now) m0 (record m0 { reader = r }) c.arguments.m c.number-count.result c.arguments.place c.arguments.arguments.items c.operand_list.result
    (goes_number m0 r c.number-count.result c.number-count.ensures) c.number-count.ensures.value (ap (λ (q : Reader). q.walk) c.number-count.ensures.reader) c.arguments.invariant
    (loop_ends c.arguments.place c.number-count.result _ (sym c.arguments-test.ensures)) c.operand_list.ensures
