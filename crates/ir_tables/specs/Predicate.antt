-- For `word`, `code`, `of_word` and `of_code` of `Predicate`: the predicates of `icmp`, their words and their codes.
use Rattle.std.specs.Prelude.{ℕ, List, [], ◌∷◌, map, find, Option, codes, bytes_eq, nat_eq}
use Rattle.ir_tables.specs.Table.{WordEntry}
use Rattle.ir_tables.specs.declared.predicate.Predicate.{Predicate}
use Rattle.ir_tables.specs.declared.predicate.Predicate.TheVariants.{Eq, Ne, Ugt, Uge, Ult, Ule, Sgt, Sge, Slt, Sle}

-- the word of a predicate
abbrev pub predicate_word : Predicate → List ℕ
predicate_word Eq = codes "eq"
predicate_word Ne = codes "ne"
predicate_word Ugt = codes "ugt"
predicate_word Uge = codes "uge"
predicate_word Ult = codes "ult"
predicate_word Ule = codes "ule"
predicate_word Sgt = codes "sgt"
predicate_word Sge = codes "sge"
predicate_word Slt = codes "slt"
predicate_word Sle = codes "sle"

-- the code of a predicate
abbrev pub predicate_code : Predicate → ℕ
predicate_code Eq = 1
predicate_code Ne = 2
predicate_code Ugt = 3
predicate_code Uge = 4
predicate_code Ult = 5
predicate_code Ule = 6
predicate_code Sgt = 7
predicate_code Sge = 8
predicate_code Slt = 9
predicate_code Sle = 10

-- all of them, in the order of the table
abbrev pub predicates : List Predicate
predicates = Eq ∷ Ne ∷ Ugt ∷ Uge ∷ Ult ∷ Ule ∷ Sgt ∷ Sge ∷ Slt ∷ Sle ∷ []

-- the words and codes of all predicates
abbrev pub predicate_table : List WordEntry
predicate_table = map (λ predicate. record { word = predicate_word predicate; code = predicate_code predicate }) predicates

-- the one with this word, and the one with this code
unfoldable pub predicate_of_word : List ℕ → Option Predicate
predicate_of_word word = find (λ predicate. bytes_eq (predicate_word predicate) word) predicates

-- the predicate of a code
unfoldable pub predicate_of_code : ℕ → Option Predicate
predicate_of_code code = find (λ predicate. nat_eq (predicate_code predicate) code) predicates
