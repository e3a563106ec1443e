use Rattle.std.proofs.Common.{drop, map}
use Rattle.std.specs.Prelude.{flat_map}
use Rattle.ir_phrases.specs.Instructions.View.{case_view}
use Rattle.name_rules.specs.FunctionDemands.{case_demands}
use Rattle.type_judge.specs.Gathered.{known_of}
use Rattle.type_judge.proofs.Parts.{Leads}
use Rattle.name_judge.specs.Locals.Names.{locals_of}
use Rattle.name_judge.proofs.locals.endings.check_cases.Given as goal

abbrev pub invariant-cases : goal.invariant-cases
invariant-cases l = Leads (flat_map (case_demands (known_of l.known) (locals_of l.locals)) (map case_view (drop l.case-index l.cases))) (flat_map (case_demands (known_of l.known) (locals_of l.locals)) (map case_view l.cases))
