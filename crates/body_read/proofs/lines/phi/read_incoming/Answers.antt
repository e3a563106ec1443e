use Rattle.std.proofs.Common.{ap, refl, subst, sym}
use Rattle.type_table.specs.Tree.{Tree}
use Rattle.type_table.specs.Types.{Types}
use Rattle.std.specs.Option.{option_map}
use Rattle.record_table.specs.Constants.{value}
use Rattle.record_table.specs.Layout.{is_positive}
use Rattle.record_table.specs.Lines.{incoming}
use Rattle.record_table.specs.Walk.{ask}
use Rattle.record_read.proofs.Gathering.{loop_goes, loop_ends}
use Rattle.type_read.specs.Arena.Kept.{tree_at}
use Rattle.type_read.proofs.OnArena.Kept.{same_table}
use Rattle.type_read.proofs.OnArena.Steps.{goes_two, still_known}
use Rattle.body_read.specs.Operands.Found.{Finds, HasValue, both, value_in}
use Rattle.body_read.proofs.OnOperands.Leaves.{block_found}
use Rattle.body_read.proofs.OnOperands.Gathered.{gather_none, gather_more, gather_all}
use Rattle.body_read.specs.Lines.Kept.{HasIncoming, incoming_in, kept_incoming}
use Rattle.body_read.proofs.OnLines.Fields.{asked_some, goes_some}
use Rattle.body_read.proofs.OnLines.Found.{incoming_found}
use Rattle.body_read.proofs.lines.phi.read_incoming.Goals as goal

pub incoming-init : goal.incoming-init
incoming-init c =
    let m0 = c.args.m.now in
    gather_none HasIncoming incoming_in (λ k. (incoming k (tree_at m0.growing.arena.table c.args.ty.now)).read) (record m0 { reader = c.ask.new.self }) c.number-count.result _ c.new-incoming.ensures.items

pub read_value-requires : goal.read_value-requires
read_value-requires c =
    let m0 = c.args.m.now in
    let s = c.ask.new.self in
    still_known m0 c.incoming.m c.args.ty.now
    (goes_two m0 (record m0 { reader = s }) c.incoming.m (goes_some m0 c.number-count.new.self s c.number-count.result _ c.number-count.ensures c.ask.ensures) c.incoming.invariant.goes) c.requires

pub incoming-preserved : goal.incoming-preserved
incoming-preserved c =
    let m0 = c.args.m.now in
    let first = record m0 { reader = c.ask.new.self } in
    let now = c.incoming.m in
    let on = loop_goes c.incoming.place c.number-count.result _ (sym c.incoming-test.ensures) in
    let same = ap (λ (t : Types). tree_at t c.args.ty.now) (same_table first.growing now.growing c.incoming.invariant.goes.grows) in
    let mid = c.read_value.new.m in
    let after = c.read_block-block.new.m in
    let one = option_map kept_incoming (both c.in_ok-value.value c.read_block-block.result) in
    gather_more first now after c.number-count.result c.incoming.place c.incoming.incoming.items _ one c.incoming.invariant on.0 on.1
    (incoming_found (tree_at m0.growing.arena.table c.args.ty.now) now mid after c.in_ok-value.value c.read_block-block.result
    (subst (λ (t : Tree). Finds HasValue value_in (λ k. (value k t).read) now mid c.in_ok-value.value) same c.in_ok-value.ensures)
    (block_found mid after c.read_block-block.result c.read_block-block.ensures.takes c.read_block-block.ensures.reads)) c.in_ok-add_incoming.ensures

pub returns : goal.returns
returns c =
    let m0 = c.args.m.now in
    let r = c.number-count.new.self in
    let s = c.ask.new.self in
    let first = record m0 { reader = s } in
    gather_all (λ n w. ask 1 (is_positive n) w) m0 first c.incoming.m c.number-count.result c.incoming.place c.incoming.incoming.items c.incoming_list.result (goes_some m0 r s c.number-count.result _ c.number-count.ensures c.ask.ensures) c.number-count.ensures.value
    (asked_some m0 r s c.number-count.result _ c.number-count.ensures c.ask.ensures refl) c.incoming.invariant (loop_ends c.incoming.place c.number-count.result _ (sym c.incoming-test.ensures)) c.incoming_list.ensures
