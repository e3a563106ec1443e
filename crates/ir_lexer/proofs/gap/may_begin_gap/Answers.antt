use Rattle.std.proofs.Common.{◌≡◌, ◌==◌, true, false, nat_le, arith}
use Rattle.std.proofs.lemmas.Bool.Decides.{nat_tests}
use Rattle.ir_lexer.proofs.ClassTable.{gap_begins}
use Rattle.ir_lexer.proofs.gap.may_begin_gap.Goals as goal

pub returns-else-byte-le32 : goal.returns-else-byte-le32
returns-else-byte-le32 c e =
    let k = gap_begins c.args.byte (omega arith) e in
    let high : nat_le c.args.byte 32 ≡ false = grind (arith, nat_tests) in
    let is : (c.args.byte == 59) ≡ true = rw high at k in
    is
