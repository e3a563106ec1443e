use Rattle.tool_output.proofs.ends.error_line.tell.Goals as goal

pub returns-in-CannotRead : goal.returns-in-CannotRead
returns-in-CannotRead g c = rw c.in-CannotRead.is (rw c.bytes.ensures at c.tell_text.ensures)

pub returns-in-Memory : goal.returns-in-Memory
returns-in-Memory g c = rw c.in-Memory.is c.tell_text-in-Memory.ensures

pub returns-in-CannotWrite : goal.returns-in-CannotWrite
returns-in-CannotWrite g c = rw c.in-CannotWrite.is (rw c.bytes-in-CannotWrite.ensures at c.tell_text-in-CannotWrite.ensures)

pub returns-in-NoSuchSymbol : goal.returns-in-NoSuchSymbol
returns-in-NoSuchSymbol g c = rw c.in-NoSuchSymbol.is (rw c.bytes-in-NoSuchSymbol.ensures at c.tell_text-in-NoSuchSymbol.ensures)
