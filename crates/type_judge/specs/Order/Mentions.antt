-- For `struct_numbers` and `all_mentions`: the numbers of structs, and the numbers of those that each mentions.
use Rattle.std.specs.Prelude.{◌≡◌, ℕ, suc, List, [], ◌∷◌, filter_map, nat_eq, bytes_eq, cond, Bool, false, Option, Some, None}
use Rattle.type_table.specs.Tree.{TreeBody, Structs}
use Rattle.module_arena.specs.Module.{Bytes}
use Rattle.type_table.specs.Names.Entries.{value_of}
use Rattle.name_rules.specs.Measured.{body_names}

-- the number of the first of these that has the name, the first of them being the one with that number
abbrev pub number_from : ℕ → Structs → Bytes → Option ℕ
number_from next [] name = None
number_from next (s ∷ structs) name = cond (bytes_eq s.0 name) (Some next) (number_from (suc next) structs name)

-- the table has the number of each struct
pub record AreNumbers (table : List (Bytes × ℕ)) (structs : Structs) : Type 0 where
  pub each : (name : Bytes) → value_of table name ≡ number_from 0 structs name

-- the numbers of these names, where they are those of structs
abbrev pub numbers_of : List (Bytes × ℕ) → List Bytes → List ℕ
numbers_of table names = filter_map (value_of table) names

-- whether the number is this one
abbrev pub is_number : Option ℕ → ℕ → Bool
is_number (Some found) number = nat_eq found number
is_number None number = false

-- what a struct mentions; a struct that is not the first with its name mentions itself, so that it is left out
abbrev pub mentions_of : List (Bytes × ℕ) → ℕ → Bytes × TreeBody → List ℕ
mentions_of table number s = cond (is_number (value_of table s.0) number) (numbers_of table (body_names s.1)) (number ∷ [])

-- what each of these mentions, the first of them being the one with that number
abbrev pub lists_from : List (Bytes × ℕ) → ℕ → Structs → List (List ℕ)
lists_from table next [] = []
lists_from table next (s ∷ structs) = mentions_of table next s ∷ lists_from table (suc next) structs

-- the first number, or the second where there is none
abbrev pub first_number : Option ℕ → Option ℕ → Option ℕ
first_number (Some number) other = Some number
first_number None other = other
