use Rattle.extract_core.proofs.OnFates.ByFates.{fates_from, as_many}
use Rattle.extract_core.proofs.fates.fates.all_fates.Goals as goal

pub fates_of-requires : goal.fates_of-requires
fates_of-requires c = (as_many c.requires.0 c.requires.1 c.args.kept.now c.args.named.now c.requires.2 c.requires.3).0

pub fates_of-requires-2 : goal.fates_of-requires-2
fates_of-requires-2 c = (as_many c.requires.0 c.requires.1 c.args.kept.now c.args.named.now c.requires.2 c.requires.3).1

pub fates_of-requires-3 : goal.fates_of-requires-3
fates_of-requires-3 c = (as_many c.requires.0 c.requires.1 c.args.kept.now c.args.named.now c.requires.2 c.requires.3).2

pub returns : goal.returns
returns c = λ m s kept named. fates_from m s c.args.kept.now c.args.named.now _ kept named c.in_ok-variables.ensures c.in_ok-functions.ensures c.in_ok-aliases.ensures
