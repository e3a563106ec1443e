use Rattle.std.proofs.Common.{sym, ap}
use Rattle.std.proofs.lemmas.Option.{get_or_from_slice_get, slice_get_within}
use Rattle.run_actions.specs.Edges.{way_of}
use Rattle.run_decode.specs.Flat.Flat.{no_edge}
use Rattle.run_acts.proofs.classes.operand.way.Goals as goal

pub at-requires : goal.at-requires
at-requires c = slice_get_within c.args.pools.now.edges c.args.place c.requires.edge c.requires.there

pub returns-clause-means : goal.returns-clause-means
returns-clause-means c = ap (way_of c.args.pools.now.moves) (sym (get_or_from_slice_get c.args.pools.now.edges c.args.place c.at.result.now no_edge c.at.ensures))
