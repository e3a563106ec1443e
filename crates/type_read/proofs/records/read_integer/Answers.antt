use Rattle.std.proofs.Common.{refl}
use Rattle.type_read.proofs.ByKind.{integer_some, integer_none}
use Rattle.type_read.proofs.records.read_integer.Goals as goal

pub returns-then-fits : goal.returns-then-fits
returns-then-fits c = integer_some c.args.count c.args.structs _ _ _ c.number-number.result _ c.is_width-fits.result c.number-number.ensures c.is_width-fits.ensures c.ask.ensures c.if-fits.true refl

pub returns-else-fits : goal.returns-else-fits
returns-else-fits c = integer_none c.args.count c.args.structs _ _ _ c.number-number.result c.is_width-fits.result c.number-number.ensures c.is_width-fits.ensures c.ask.ensures c.if-fits.false c.stops_where_broken.ensures
