use Rattle.std.proofs.Common.{drop, map}
use Rattle.std.specs.Prelude.{flat_map}
use Rattle.ir_phrases.specs.Constants.Tree.{types}
use Rattle.ir_phrases.specs.Constants.View.{type_view}
use Rattle.name_rules.specs.TypeDemands.{type_demands, types_demands}
use Rattle.type_judge.proofs.Parts.{Leads}
use Rattle.type_judge.specs.Gathered.{known_of}
use Rattle.type_judge.proofs.types.+types.Given as goal

abbrev pub invariant-check_types-fields : goal.invariant-check_types-fields
invariant-check_types-fields l = Leads (flat_map (type_demands (known_of l.known)) (map type_view (drop l.field-index l.fields))) (types_demands (known_of l.known) (types (map type_view l.fields)))
