use Rattle.std.proofs.Common.{sym}
use Rattle.std.proofs.lemmas.List.{append-nil}
use Rattle.bitcode_write.proofs.lines.instruction.put_name.Goals as goal

pub put_result-requires : goal.put_result-requires
put_result-requires c = rw c.in-Some.is at c.requires

pub returns-in-Some : goal.returns-in-Some
returns-in-Some c = rw c.in-Some.is c.put_result.ensures

pub returns-in-None : goal.returns-in-None
returns-in-None c = rw c.in-None.is (sym (append-nil c.args.operands.now.items))
