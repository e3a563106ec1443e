use Rattle.std.proofs.Common.{Some, refl, sym}
use Rattle.record_table.specs.Fields.{index}
use Rattle.record_table.specs.Layout.{is_positive}
use Rattle.record_table.specs.Walk.{ask}
use Rattle.record_read.proofs.Gathering.{loop_goes, loop_ends}
use Rattle.body_read.proofs.OnOperands.Gathered.{gather_none, gather_more, gather_all}
use Rattle.body_read.specs.Lines.Kept.{HasIndex, index_in}
use Rattle.body_read.proofs.OnLines.Fields.{asked_some, goes_some, index_found}
use Rattle.body_read.proofs.lines.indices.read_indices.Goals as goal

pub indices-init : goal.indices-init
indices-init c = gather_none HasIndex index_in (λ k. index.read) (record c.args.m.now { reader = c.ask.new.self }) c.number-count.result _ c.new-indices.ensures.items

pub indices-preserved : goal.indices-preserved
indices-preserved c =
    let first = record c.args.m.now { reader = c.ask.new.self } in
    let now = c.indices.m in
    let s = c.read_index-index.new.reader in
    let on = loop_goes c.indices.place c.number-count.result _ (sym c.indices-test.ensures) in
    gather_more first now (record now { reader = s }) c.number-count.result c.indices.place c.indices.indices.items _ (Some c.read_index-index.result) c.indices.invariant on.0 on.1
    (index_found now s c.read_index-index.result c.read_index-index.ensures.value c.read_index-index.ensures.reader) c.in_ok-push.ensures.items

pub returns : goal.returns
returns c =
    let m0 = c.args.m.now in
    let r = c.number-count.new.self in
    let s = c.ask.new.self in
    let first = record m0 { reader = s } in
    gather_all (λ n w. ask 1 (is_positive n) w) m0 first c.indices.m c.number-count.result c.indices.place c.indices.indices.items c.unbroken.result (goes_some m0 r s c.number-count.result _ c.number-count.ensures c.ask.ensures) c.number-count.ensures.value
    (asked_some m0 r s c.number-count.result _ c.number-count.ensures c.ask.ensures refl) c.indices.invariant (loop_ends c.indices.place c.number-count.result _ (sym c.indices-test.ensures)) c.unbroken.ensures
