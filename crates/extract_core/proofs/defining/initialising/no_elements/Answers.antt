use Rattle.extract_core.proofs.OnDefining.Initialisers.{empty_known, empty_is}
use Rattle.extract_core.proofs.defining.initialising.no_elements.Goals as goal

pub keep_constant-requires : goal.keep_constant-requires
keep_constant-requires c = empty_known c.args.into.now.arena c.new-elements.result c.new-elements.ensures

pub returns-clause-is : goal.returns-clause-is
returns-clause-is c = empty_is c.args.into.now.arena c.keep_constant.new.self.arena c.in_ok-id.id c.new-elements.result c.new-elements.ensures c.in_ok-id.ensures.is
