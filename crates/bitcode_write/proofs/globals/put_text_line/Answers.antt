use Rattle.bitcode_write.proofs.Lined.{lines_none}
use Rattle.bitcode_write.proofs.globals.put_text_line.Goals as goal

pub returns-in-None-clause-put : goal.returns-in-None-clause-put
returns-in-None-clause-put c = rw c.in-None.is (lines_none c.args.out.now.writer c.requires.ready)
