use Rattle.std.proofs.Common.{ap, sym}
use Rattle.std.specs.Option.{option_map}
use Rattle.record_table.specs.Lines.{typed_value}
use Rattle.record_read.specs.Reader.{Reader}
use Rattle.record_read.proofs.Gathering.{loop_goes, loop_ends}
use Rattle.body_read.proofs.OnConstants.Making.{goes_number}
use Rattle.body_read.specs.Operands.Found.{HasOperand, both, kept_operand, operand_in}
use Rattle.body_read.proofs.OnOperands.Gathered.{gather_none, gather_more, gather_all}
use Rattle.body_read.proofs.OnOperands.Typed.{operand_found, typed_found}
use Rattle.body_read.proofs.operands.operands.read_operands.Goals as goal

pub operands-init : goal.operands-init
operands-init c = gather_none HasOperand operand_in (λ k. (typed_value k).read) (record c.args.m.now { reader = c.number-count.new.self }) c.number-count.result _ c.new-operands.ensures.items

pub operands-preserved : goal.operands-preserved
operands-preserved c =
    let first = record c.args.m.now { reader = c.number-count.new.self } in
    let now = c.operands.m in
    let on = loop_goes c.operands.place c.number-count.result _ (sym c.operands-test.ensures) in
    let mid = c.read_type-ty.new.m in
    let after = c.read_value.new.m in
    let operand = option_map kept_operand (both c.read_type-ty.result c.in_ok-value.value) in
    gather_more first now after c.number-count.result c.operands.place c.operands.operands.items _ operand c.operands.invariant on.0 on.1
    (typed_found now mid after c.read_type-ty.result operand c.read_type-ty.ensures.takes c.read_type-ty.ensures.reads (operand_found mid after c.read_type-ty.result c.in_ok-value.value c.read_type-ty.ensures.known c.in_ok-value.ensures))
    c.in_ok-add_operand.ensures

pub returns : goal.returns
returns c =
    let m0 = c.args.m.now in
    let r = c.number-count.new.self in
    let first = record m0 { reader = r } in
    gather_all (λ n w. w) m0 first c.operands.m c.number-count.result c.operands.place c.operands.operands.items c.operand_list.result (goes_number m0 r c.number-count.result c.number-count.ensures) c.number-count.ensures.value
    (ap (λ (q : Reader). q.walk) c.number-count.ensures.reader) c.operands.invariant (loop_ends c.operands.place c.number-count.result _ (sym c.operands-test.ensures)) c.operand_list.ensures
