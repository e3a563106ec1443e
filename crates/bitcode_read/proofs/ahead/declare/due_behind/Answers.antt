use Rattle.std.proofs.Common.{◌≡◌, sym, ap, ◌∙◌, arith}
use Rattle.bitcode_read.specs.Head.Ahead.{one_where}
use Rattle.bitcode_read.specs.Ahead.Entries.{declaring, is_entry}
use Rattle.bitcode_read.proofs.ahead.declare.due_behind.Goals as goal

pub returns-then-is_one : goal.returns-then-is_one
returns-then-is_one c =
    let one : one_where (is_entry (declaring c.args.code)) ≡ 1 = ap (λ b. one_where b) (sym c.is_entry-is_one.ensures ∙ c.if-is_one.true) in
    omega arith

pub returns : goal.returns
returns c =
    let none : one_where (is_entry (declaring c.args.code)) ≡ 0 = ap (λ b. one_where b) (sym c.is_entry-is_one.ensures ∙ c.if-is_one.false) in
    omega arith
