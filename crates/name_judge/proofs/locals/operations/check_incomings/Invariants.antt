use Rattle.std.proofs.Common.{drop, map}
use Rattle.std.specs.Prelude.{flat_map}
use Rattle.ir_phrases.specs.Instructions.View.{incoming_view}
use Rattle.name_rules.specs.FunctionDemands.{incoming_demands}
use Rattle.name_rules.specs.Written.{type_in}
use Rattle.ir_phrases.specs.Constants.View.{type_view}
use Rattle.type_judge.specs.Gathered.{known_of}
use Rattle.type_judge.proofs.Parts.{Leads}
use Rattle.name_judge.specs.Locals.Names.{locals_of}
use Rattle.name_judge.proofs.locals.operations.check_incomings.Given as goal

abbrev pub invariant-incomings : goal.invariant-incomings
invariant-incomings l = Leads (flat_map (incoming_demands (known_of l.known) (locals_of l.locals) (type_in (type_view l.ty))) (map incoming_view (drop l.incoming-index l.incomings))) (flat_map (incoming_demands (known_of l.known) (locals_of l.locals) (type_in (type_view l.ty))) (map incoming_view l.incomings))
