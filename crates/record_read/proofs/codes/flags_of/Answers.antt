use Rattle.std.proofs.Common.{rules, ◌≡◌, sym, ◌∙◌, arith}
use Rattle.record_read.proofs.Coded.{flags_fit, flags_unfit}
use Rattle.record_read.proofs.codes.flags_of.Goals as goal

pub returns-then-may_have_all : goal.returns-then-may_have_all
returns-then-may_have_all c =
    let same : c.in_ok-code.code ≡ c.args.number = search rules in
    flags_fit c.args.opcode c.args.number c.in_ok-set.set (omega (arith, same, c.in_ok-set.ensures.0)) (c.in_ok-set.ensures.1 ∙ same) (sym c.if-may_have_all.ensures)

pub returns-else-may_have_all : goal.returns-else-may_have_all
returns-else-may_have_all c =
    let same : c.in_ok-code.code ≡ c.args.number = search rules in
    flags_unfit c.args.opcode c.args.number c.in_ok-set.set (c.in_ok-set.ensures.1 ∙ same) (sym c.if-may_have_all.ensures)
