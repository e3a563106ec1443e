use Rattle.std.proofs.Common.{sym, ◌∙◌}
use Rattle.ir_syntax.proofs.Further.{not_too_deep}
use Rattle.ir_syntax.proofs.read.is_too_deep.Goals as goal

pub returns-then-opens_a_nest : goal.returns-then-opens_a_nest
returns-then-opens_a_nest c = rw c.taken.ensures.count at c.is_viable_through.ensures

pub returns : goal.returns
returns c =
    not_too_deep c.args.cursor.now c.args.text.now c.requires.text c.requires.token c.requires.first_bad (sym c.opens_a_nest.ensures ∙ c.if-opens_a_nest.false)
