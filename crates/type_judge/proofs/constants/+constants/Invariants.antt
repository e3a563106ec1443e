use Rattle.std.proofs.Common.{drop, map}
use Rattle.std.specs.Prelude.{flat_map}
use Rattle.ir_phrases.specs.Constants.Tree.{constants}
use Rattle.ir_phrases.specs.Constants.View.{typed_constant_view}
use Rattle.name_rules.specs.TypeDemands.{constants_demands}
use Rattle.type_judge.specs.Judging.{typed_demands}
use Rattle.type_judge.proofs.Parts.{Leads}
use Rattle.type_judge.specs.Gathered.{known_of}
use Rattle.type_judge.proofs.constants.+constants.Given as goal

abbrev pub invariant-check_constants-elements : goal.invariant-check_constants-elements
invariant-check_constants-elements l = Leads (flat_map (typed_demands (known_of l.known)) (map typed_constant_view (drop l.element-index l.elements))) (constants_demands (known_of l.known) (constants (map typed_constant_view l.elements)))
