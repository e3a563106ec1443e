use Rattle.tool_output.proofs.ends.error_line.tell_program.Goals as goal

pub returns-in-StackLimit : goal.returns-in-StackLimit
returns-in-StackLimit g c = rw c.in-StackLimit.is c.tell_text-in-StackLimit.ensures

pub returns-in-MemoryLimit : goal.returns-in-MemoryLimit
returns-in-MemoryLimit g c = rw c.in-MemoryLimit.is c.tell_text-in-MemoryLimit.ensures
