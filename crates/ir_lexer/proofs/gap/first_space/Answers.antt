use Rattle.std.proofs.Common.{◌≡◌, ◌<◌, length, get_or, true, refl, arith}
use Rattle.std.proofs.lemmas.Bool.Decides.{nat_tests}
use Rattle.ir_lexer.specs.Class.{byte_class, in_line}
use Rattle.ir_lexer.specs.declared.class.Class.TheVariants as class
use Rattle.ir_lexer.proofs.ClassTable.{space_is_blank}
use Rattle.ir_lexer.proofs.Lines.{first_in_line}
use Rattle.ir_lexer.proofs.Walks.{gap_space}
use Rattle.ir_lexer.proofs.gap.first_space.Goals as goal

pub returns-then-bytes-eq32-clause-gap : goal.returns-then-bytes-eq32-clause-gap
returns-then-bytes-eq32-clause-gap c =
    let s = c.args.bytes.now in
    let some : 0 < length s = grind (arith, nat_tests) in
    let byte : get_or s 0 0 ≡ 32 = grind (arith, nat_tests) in
    let is : byte_class (get_or s 0 0) ≡ class.Blank = rw byte space_is_blank in
    gap_space s some is

pub returns-then-bytes-eq32-clause-in_line : goal.returns-then-bytes-eq32-clause-in_line
returns-then-bytes-eq32-clause-in_line c =
    let s = c.args.bytes.now in
    let some : 0 < length s = grind (arith, nat_tests) in
    let byte : get_or s 0 0 ≡ 32 = grind (arith, nat_tests) in
    let is : byte_class (get_or s 0 0) ≡ class.Blank = rw byte space_is_blank in
    let goes_on : in_line (byte_class (get_or s 0 0)) ≡ true = rw is refl in
    first_in_line s some goes_on
