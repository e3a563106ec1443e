-- For `linking_keeps_modules`, a law of the crate above, and for whoever links: when the module that is made of some parts would be
-- too large.
use Rattle.std.specs.Prelude.{ℕ, zero, suc, ◌+◌, ◌*◌, ◌-◌, ◌^◌, min, max, List, [], ◌∷◌, length, filter, flat_map, Option, Some, None, nat_lt, if◌then◌else◌}
use Rattle.std.specs.Option.{option_map}
use Rattle.module_arena.specs.Module.{Module}
use Rattle.linkage_rules.specs.Linkages.{is_appending}
use Rattle.linkage_rules.specs.Globals.{linkage_of, type_of, element_of}
use Rattle.linkage_rules.specs.Lists.{first}
use Rattle.linkage_rules.specs.Entries.{Entry}
use Rattle.linkage_rules.specs.Symbols.{variable_symbols, function_symbols, alias_symbols}
use Rattle.linkage_rules.specs.Winner.{definitions, size_in, home}
use Rattle.linkage_rules.specs.Addresses.{joined_length}
use Rattle.link_rules.specs.Structs.{struct_map}
use Rattle.module_arena.specs.declared.arena.TheConstants.{COUNT_LIMIT}
use Rattle.module_arena.specs.declared.fault.CountKind.{CountKind}
use Rattle.module_arena.specs.declared.fault.CountKind.TheVariants.{Structs, Variables, Functions, Aliases, AppendedBytes}
use Rattle.link_rules.specs.declared.limits.TheConstants.{APPENDED_LIMIT}

-- how many there are of a kind
pub record Count : Type 0 where
  pub kind : CountKind
  pub number : ℕ

-- the count that is told of aliases: as many declarations could be wanted of them, all of variables or all of functions
abbrev pub count_of_aliases : (variables functions aliases : ℕ) → ℕ
count_of_aliases variables functions zero = 0
count_of_aliases variables functions (suc n) = suc n + max variables functions

-- the greater of an appended array's length and its bytes
abbrev pub appended_bytes : List Module → Entry → List Entry → ℕ
appended_bytes parts e es = max (joined_length es) (joined_length es * size_in parts e.part (element_of (type_of e.global)))

-- the count of a symbol, if it is appended
abbrev pub appended_count : List Module → List Entry → Option Entry → List Count
appended_count parts es None = []
appended_count parts es (Some e) =
    if is_appending (linkage_of e.global) then record { kind = AppendedBytes; number = appended_bytes parts e es } ∷ [] else []

-- the counts of the result, and those of each appended array in the order of symbols
abbrev pub counts : List Module → List Count
counts parts =
    record { kind = Structs; number = length (struct_map parts) }
    ∷ record { kind = Variables; number = length (variable_symbols parts) }
    ∷ record { kind = Functions; number = length (function_symbols parts) }
    ∷ record { kind = Aliases; number = count_of_aliases (length (variable_symbols parts)) (length (function_symbols parts)) (length (alias_symbols parts)) }
    ∷ flat_map (λ s. appended_count parts (definitions parts s) (home parts s)) (variable_symbols parts)

-- the greatest count of a kind
abbrev pub limit : CountKind → ℕ
limit Structs = COUNT_LIMIT
limit Variables = COUNT_LIMIT
limit Functions = COUNT_LIMIT
limit Aliases = COUNT_LIMIT
limit AppendedBytes = APPENDED_LIMIT

-- the first count that is past its limit, told as at most 2^64 - 1
abbrev pub first_past : (CountKind → ℕ) → List Count → Option Count
first_past limits cs = option_map (λ c. record { kind = c.kind; number = min (2 ^ 64 - 1) c.number }) (first (filter (λ c. nat_lt (limits c.kind) c.number) cs))

-- the count that is told
abbrev pub too_many : List Module → Option Count
too_many parts = first_past limit (counts parts)
