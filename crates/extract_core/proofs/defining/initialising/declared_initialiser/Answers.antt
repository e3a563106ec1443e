use Rattle.extract_core.proofs.OnDefining.Initialisers.{appending_initialiser, no_initialiser_there}
use Rattle.extract_core.proofs.defining.initialising.declared_initialiser.Goals as goal

pub returns-in_ok-none-in-Appending-clause-is : goal.returns-in_ok-none-in-Appending-clause-is
returns-in_ok-none-in-Appending-clause-is c = λ v. appending_initialiser c.no_elements.new.into.arena c.args.linkage v c.in_ok-none-in-Appending.none c.in-Appending.is c.in_ok-none-in-Appending.ensures.is

pub returns-in_default-clause-is : goal.returns-in_default-clause-is
returns-in_default-clause-is c = λ v. no_initialiser_there c.args.into.now.arena c.args.linkage v c.in_default.not-Appending
