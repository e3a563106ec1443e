-- For `check_type`, `check_constant` and the calls beside them: what an answer says of a list of demands.
use Rattle.std.specs.Prelude.{List, ◌++◌, Result}
use Rattle.name_rules.specs.declared.fault.ResolveFault.{ResolveFault}
use Rattle.name_rules.specs.Demand.{Demand, Judged}
use Rattle.name_rules.specs.TypeDemands.{Known, type_demands, constant_demands}
use Rattle.name_rules.specs.Written.{type_in}
use Rattle.ir_phrases.specs.Constants.Tree.{TypedConstantTree}

-- it is Ok exactly where each holds, and else tells the refusal of the first that does not; want of memory says nothing
pub record IsJudged (demands : List Demand) (answer : Result (Unit {0}) ResolveFault) : Type 0 where
  pub told : Judged demands answer

-- what a type asks for, and a constant that stands at it
abbrev pub typed_demands : Known → TypedConstantTree → List Demand
typed_demands known typed = type_demands known typed.0 ++ constant_demands known (type_in typed.0) typed.1
