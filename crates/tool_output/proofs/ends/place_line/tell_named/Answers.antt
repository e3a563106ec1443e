use Rattle.tool_output.proofs.ends.place_line.tell_named.Goals as goal

pub returns-in-UnknownName : goal.returns-in-UnknownName
returns-in-UnknownName g c = rw c.in-UnknownName.is (rw c.bytes.ensures at c.tell_place.ensures)

pub returns-in-Duplicate : goal.returns-in-Duplicate
returns-in-Duplicate g c = rw c.in-Duplicate.is c.tell_duplicate.ensures

pub returns-in-WrongNumber : goal.returns-in-WrongNumber
returns-in-WrongNumber g c = rw c.in-WrongNumber.is c.tell_number.ensures
