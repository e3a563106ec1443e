use Rattle.tool_output.proofs.ends.place_line.tell_placed.Goals as goal

pub returns-in-ConstantRange : goal.returns-in-ConstantRange
returns-in-ConstantRange g c = rw c.in-ConstantRange.is c.tell_place-in-ConstantRange.ensures

pub returns-in-TooLarge : goal.returns-in-TooLarge
returns-in-TooLarge g c = rw c.in-TooLarge.is c.tell_place-in-TooLarge.ensures

pub returns-in-SelfContaining : goal.returns-in-SelfContaining
returns-in-SelfContaining g c = rw c.in-SelfContaining.is c.tell_place-in-SelfContaining.ensures
