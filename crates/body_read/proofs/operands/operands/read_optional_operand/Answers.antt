use Rattle.std.proofs.Common.{arith, subst, sym}
use Rattle.record_table.specs.Layout.{option}
use Rattle.record_table.specs.Lines.{typed_value}
use Rattle.body_read.specs.Operands.Found.{Finds, HasRoom, room_in}
use Rattle.body_read.proofs.OnOperands.Typed.{room_none, room_some, room_stopped}
use Rattle.body_read.proofs.operands.operands.read_optional_operand.Goals as goal

pub returns-in-0 : goal.returns-in-0
returns-in-0 c = room_none c.args.m.now c.number.new.self c.number.result c.number.ensures c.in-0.is

pub returns-in_ok-operand-in-1 : goal.returns-in_ok-operand-in-1
returns-in_ok-operand-in-1 c =
    subst (Finds HasRoom room_in (λ k. (option (typed_value k)).read) c.args.m.now c.read_operand.new.m) (sym c.written.ensures)
    (room_some c.args.m.now c.number.new.self c.read_operand.new.m c.number.result c.in_ok-operand-in-1.operand c.number.ensures c.in-1.is c.in_ok-operand-in-1.ensures)

pub returns-in_default : goal.returns-in_default
returns-in_default c = room_stopped c.args.m.now c.number.new.self c.stop.new.self c.number.result c.number.ensures (omega arith) c.stop.ensures c.stops_where_broken.ensures
