-- What the body of a struct asks for, from its measure and its fields.
use Rattle.std.specs.Prelude.{◌≡◌, ◌∷◌, Option, Result}
use Rattle.std.proofs.Common.{subst}
use Rattle.ir_terminals.specs.declared.values.PlacedName.{PlacedName}
use Rattle.ir_phrases.specs.Constants.Tree.{TypeTrees}
use Rattle.ir_syntax.specs.Tree.{BodyTree}
use Rattle.type_table.specs.declared.measure.Measure.{Measure}
use Rattle.name_rules.specs.declared.fault.ResolveFault.{ResolveFault}
use Rattle.name_rules.specs.Demand.{nests, is_small, is_large}
use Rattle.name_rules.specs.TypeDemands.{Known, struct_measured, body_types, have_past, types_demands, ends, struct_type_demands}
use Rattle.type_judge.specs.Judging.{IsJudged}

pub body_judged : (known : Known) (name : PlacedName) (body : BodyTree) (measure : Option Measure) (fields : TypeTrees) (r : Result (Unit {0}) ResolveFault) → measure ≡ struct_measured known name.name → fields ≡ body_types known body
    → IsJudged (nests name.place measure ∷ ends known name ∷ is_small name.place (is_large measure) (have_past known fields) ∷ types_demands known fields) r → IsJudged (struct_type_demands known name body) r
body_judged known name body measure fields r m f j =
    subst (λ (x : Option Measure). IsJudged (nests name.place x ∷ ends known name ∷ is_small name.place (is_large x) (have_past known (body_types known body)) ∷ types_demands known (body_types known body)) r) m
    (subst (λ (ts : TypeTrees). IsJudged (nests name.place measure ∷ ends known name ∷ is_small name.place (is_large measure) (have_past known ts) ∷ types_demands known ts) r) f j)
