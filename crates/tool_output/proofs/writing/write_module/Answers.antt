use Rattle.tool_output.proofs.writing.write_module.Goals as goal

pub returns-in-Standard-clause-put : goal.returns-in-Standard-clause-put
returns-in-Standard-clause-put g c = rw c.in-Standard.is (c.write_standard.ensures.put (g.F.Files.contents c.args.files.now))

pub returns-in_ok-bytes-in-File-clause-put : goal.returns-in_ok-bytes-in-File-clause-put
returns-in_ok-bytes-in-File-clause-put g c = rw (c.in-File.is, ← c.in_ok-bytes-in-File.ensures) (c.write_named.ensures.put (g.O.Sink.taken c.args.sink.now))
