use Rattle.std.proofs.Common.{refl, arith}
use Rattle.bitcode_read.proofs.head.ahead.nothing_ahead.Goals as goal

pub returns : goal.returns
returns c = record { variables = refl; functions = refl; aliases = refl; structs = record { count = refl; few = omega arith; first_bad = refl; named = λ none. c.new-named.ensures } }
