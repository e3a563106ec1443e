use Rattle.std.proofs.Common.{◌≡◌, ◌<◌, Some, length, sym, ap, arith, ◌∙◌}
use Rattle.record_read.proofs.OnOrder.Dues.{begins, found, goes_on, none_left}
use Rattle.record_read.proofs.order.due.next_due.Goals as goal

pub functions-init : goal.functions-init
functions-init c = begins c.args.defined.now c.args.came

pub functions-preserved : goal.functions-preserved
functions-preserved c =
    let lt : c.functions.place < length c.args.defined.now = omega arith in
    goes_on c.args.defined.now c.args.came c.functions.passed c.functions.place c.is_defined-is.result c.functions.invariant lt c.is_defined-is.ensures c.one_where-passed.result (sym c.is_next.ensures ∙ c.if-is_next.false) c.one_where-passed.ensures.is

pub returns-then-is_next : goal.returns-then-is_next
returns-then-is_next c =
    let lt : c.functions.place < length c.args.defined.now = omega arith in
    ap (λ n. Some n) c.number_of.ensures
    ∙ sym (found c.args.defined.now c.args.came c.functions.passed c.functions.place c.is_defined-is.result c.functions.invariant lt c.is_defined-is.ensures (sym c.is_next.ensures ∙ c.if-is_next.true))

pub returns : goal.returns
returns c =
    let all : c.functions.place ≡ length c.args.defined.now = omega arith in
    sym (none_left c.args.defined.now c.args.came c.functions.passed c.functions.place c.functions.invariant all)
