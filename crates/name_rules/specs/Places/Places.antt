-- For `the_first_break_stands_at_the_least_place`: where a refusal stands, and what stands before it.
use Rattle.std.specs.Prelude.{◌≡◌, ◌==◌, ◌&&◌, ◌||◌, nat_lt, Bool, false, List, [], ◌∷◌, ◌++◌, Option, Some, None}
use Rattle.ir_base.specs.declared.place.Place.{Place}
use Rattle.ir_lexer.specs.Ahead.{Located}
use Rattle.name_rules.specs.declared.fault.ResolveFault.{ResolveFault}
use Rattle.name_rules.specs.declared.fault.ResolveFault.TheVariants as faults
use Rattle.name_rules.specs.Demand.{Demand}

-- the place that a refusal tells first; a count and want of memory have none
abbrev pub place_of_refusal : ResolveFault → Option Place
place_of_refusal (faults.TooMany kind count) = None
place_of_refusal (faults.Duplicate place earlier) = Some place
place_of_refusal (faults.UnknownName place name) = Some place
place_of_refusal (faults.WrongNumber place next found) = Some place
place_of_refusal (faults.ConstantRange place) = Some place
place_of_refusal (faults.TooDeep place) = Some place
place_of_refusal (faults.SelfContaining place) = Some place
place_of_refusal (faults.TooLarge place) = Some place
place_of_refusal faults.Memory = None

-- whether both are places, and the first stands before the second
abbrev pub is_before : Option Place → Option Place → Bool
is_before (Some a) (Some b) = nat_lt a.line b.line || ((a.line == b.line) && nat_lt a.column b.column)
is_before _ _ = false

-- none of these that does not hold stands before the place
abbrev pub NoneBefore : Option Place → List Demand → Type 0
NoneBefore place [] = Unit {0}
NoneBefore place (d ∷ more) = (d.holds ≡ false → is_before (place_of_refusal d.refusal) place ≡ false) × NoneBefore place more

-- the refusal tells the place of the token
abbrev pub StandsAt : Demand → Located → Type 0
StandsAt d t = place_of_refusal d.refusal ≡ Some t.place

-- each of these is refused at a token of these, and none at one before that of the demand before it
abbrev pub InOrder : List Located → List Demand → Type 0
InOrder tokens [] = Unit {0}
InOrder tokens (d ∷ more) = (before : List Located) × (t : Located) × (behind : List Located) × (tokens ≡ before ++ t ∷ behind) × StandsAt d t × InOrder (t ∷ behind) more
