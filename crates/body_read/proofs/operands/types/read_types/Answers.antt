use Rattle.std.proofs.Common.{ap, sym}
use Rattle.record_table.specs.Fields.{ty}
use Rattle.record_read.specs.Reader.{Reader}
use Rattle.record_read.proofs.Gathering.{loop_goes, loop_ends}
use Rattle.body_read.proofs.OnConstants.Making.{goes_number}
use Rattle.body_read.specs.Operands.Found.{HasType, type_in}
use Rattle.body_read.proofs.OnOperands.Gathered.{gather_none, gather_more, gather_all}
use Rattle.body_read.proofs.OnOperands.Leaves.{type_found}
use Rattle.body_read.proofs.operands.types.read_types.Goals as goal

pub types-init : goal.types-init
types-init c = gather_none HasType type_in (λ k. (ty k).read) (record c.args.m.now { reader = c.number-count.new.self }) c.number-count.result _ c.new-types.ensures.items

pub types-preserved : goal.types-preserved
types-preserved c =
    let first = record c.args.m.now { reader = c.number-count.new.self } in
    let now = c.types.m in
    let on = loop_goes c.types.place c.number-count.result _ (sym c.types-test.ensures) in
    gather_more first now c.read_type-ty.new.m c.number-count.result c.types.place c.types.types.items _ c.read_type-ty.result c.types.invariant on.0 on.1 (type_found now c.read_type-ty.new.m c.read_type-ty.result c.read_type-ty.ensures.takes c.read_type-ty.ensures.known c.read_type-ty.ensures.reads) c.in_ok-push_known.ensures

pub returns : goal.returns
returns c =
    let m0 = c.args.m.now in
    let r = c.number-count.new.self in
    let first = record m0 { reader = r } in
    gather_all (λ n w. w) m0 first c.types.m c.number-count.result c.types.place c.types.types.items c.unbroken.result (goes_number m0 r c.number-count.result c.number-count.ensures) c.number-count.ensures.value
    (ap (λ (q : Reader). q.walk) c.number-count.ensures.reader) c.types.invariant (loop_ends c.types.place c.number-count.result _ (sym c.types-test.ensures)) c.unbroken.ensures
