use Rattle.bitcode_write.proofs.types.put_body.Goals as goal

pub returns-in-None : goal.returns-in-None
returns-in-None c = rw c.in-None.is c.put_fields.ensures
