-- Says how the code reads: which integers a look at 64 bits tells to fit.
use Rattle.std.specs.Prelude.{ℕ, ◌-◌, ◌^◌, nat_lt, nat_le, Bool, List, Option, None, Ok, if◌then◌else◌}
use Rattle.ir_terminals.specs.Digits.{below}
use Rattle.name_rules.specs.Demand.{Demand}
use Rattle.type_judge.specs.Judging.{IsJudged}

-- the magnitude, where the integer is not negative and below 2^64
abbrev pub short_of : Bool → ℕ → Option ℕ
short_of negative magnitude = if negative then None else below (2 ^ 64) magnitude

-- whether an integer of that sign and magnitude is from -2^(bits-1) to 2^bits - 1
abbrev pub fits_in : ℕ → Bool → ℕ → Bool
fits_in bits negative magnitude = if negative then nat_le magnitude (2 ^ (bits - 1)) else nat_lt magnitude (2 ^ bits)

-- each of these demands holds
abbrev pub Hold : List Demand → Type 0
Hold demands = IsJudged demands (Ok tt)
