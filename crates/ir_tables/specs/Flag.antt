-- For `word`, `code`, `of_word` and `of_code` of `Flag`: the flags of instructions, their words and their codes.
use Rattle.std.specs.Prelude.{ℕ, List, [], ◌∷◌, map, find, Option, codes, bytes_eq, nat_eq}
use Rattle.ir_tables.specs.Table.{WordEntry}
use Rattle.ir_tables.specs.declared.flag.Flag.{Flag}
use Rattle.ir_tables.specs.declared.flag.Flag.TheVariants.{Nuw, Nsw, Exact, Disjoint, Nneg, Samesign, Inbounds, Nusw, Volatile}

-- the word of a flag
abbrev pub flag_word : Flag → List ℕ
flag_word Nuw = codes "nuw"
flag_word Nsw = codes "nsw"
flag_word Exact = codes "exact"
flag_word Disjoint = codes "disjoint"
flag_word Nneg = codes "nneg"
flag_word Samesign = codes "samesign"
flag_word Inbounds = codes "inbounds"
flag_word Nusw = codes "nusw"
flag_word Volatile = codes "volatile"

-- the code of a flag
abbrev pub flag_code : Flag → ℕ
flag_code Nuw = 1
flag_code Nsw = 2
flag_code Exact = 4
flag_code Disjoint = 8
flag_code Nneg = 16
flag_code Samesign = 32
flag_code Inbounds = 64
flag_code Nusw = 128
flag_code Volatile = 256

-- all of them, in the order of the table
abbrev pub flags : List Flag
flags = Nuw ∷ Nsw ∷ Exact ∷ Disjoint ∷ Nneg ∷ Samesign ∷ Inbounds ∷ Nusw ∷ Volatile ∷ []

-- the words and codes of all flags
abbrev pub flag_table : List WordEntry
flag_table = map (λ flag. record { word = flag_word flag; code = flag_code flag }) flags

-- the one with this word, and the one with this code
unfoldable pub flag_of_word : List ℕ → Option Flag
flag_of_word word = find (λ flag. bytes_eq (flag_word flag) word) flags

-- the flag of a code
unfoldable pub flag_of_code : ℕ → Option Flag
flag_of_code code = find (λ flag. nat_eq (flag_code flag) code) flags
