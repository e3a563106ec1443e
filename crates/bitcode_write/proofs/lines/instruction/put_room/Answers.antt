use Rattle.bitcode_write.proofs.lines.instruction.put_room.Goals as goal

pub put_some-requires : goal.put_some-requires
put_some-requires c = rw c.in-Some.is at c.requires

pub returns-in-Some : goal.returns-in-Some
returns-in-Some c = λ f body has. rw c.in-Some.is (c.put_some.ensures f body (rw c.in-Some.is at has))

pub returns-in-None : goal.returns-in-None
returns-in-None c = λ f body has. rw c.in-None.is c.put_number.ensures
