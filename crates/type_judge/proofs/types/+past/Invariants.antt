use Rattle.std.proofs.Common.{◌≡◌, drop, map}
use Rattle.ir_phrases.specs.Constants.Tree.{types}
use Rattle.ir_phrases.specs.Constants.View.{type_view}
use Rattle.name_rules.specs.TypeDemands.{have_past}
use Rattle.type_judge.specs.Gathered.{known_of}
use Rattle.type_judge.proofs.types.+past.Given as goal

abbrev pub invariant-have_past-fields : goal.invariant-have_past-fields
invariant-have_past-fields l = have_past (known_of l.known) (types (map type_view (drop l.field-index l.fields))) ≡ have_past (known_of l.known) (types (map type_view l.fields))
