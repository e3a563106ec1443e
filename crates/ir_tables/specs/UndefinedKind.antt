-- For `word`, `code`, `of_word` and `of_code` of `UndefinedKind`: the kinds of undefined behaviour, their words and
-- their codes.
use Rattle.std.specs.Prelude.{ℕ, List, [], ◌∷◌, map, find, Option, codes, bytes_eq, nat_eq}
use Rattle.ir_tables.specs.Table.{WordEntry}
use Rattle.ir_tables.specs.declared.undefined_kind.UndefinedKind.{UndefinedKind}
use Rattle.ir_tables.specs.declared.undefined_kind.UndefinedKind.TheVariants.{DivisionByZero, DivisionOverflow, BranchOnPoison, PoisonAddress, OutsideBlock, EndedBlock, Misaligned, WriteToConstant, BadFree, Overlap, NoFunction, AnotherFunctionType, PoisonArgument, Unreachable, BadFormat}

-- the words that tell a kind
abbrev pub undefined_word : UndefinedKind → List ℕ
undefined_word DivisionByZero = codes "division by zero"
undefined_word DivisionOverflow = codes "division overflow"
undefined_word BranchOnPoison = codes "branch on poison"
undefined_word PoisonAddress = codes "poison address"
undefined_word OutsideBlock = codes "outside a block"
undefined_word EndedBlock = codes "ended block"
undefined_word Misaligned = codes "misaligned"
undefined_word WriteToConstant = codes "write to constant"
undefined_word BadFree = codes "bad free"
undefined_word Overlap = codes "overlap"
undefined_word NoFunction = codes "no function"
undefined_word AnotherFunctionType = codes "another function type"
undefined_word PoisonArgument = codes "poison argument"
undefined_word Unreachable = codes "unreachable"
undefined_word BadFormat = codes "bad format"

-- the code of a kind
abbrev pub undefined_code : UndefinedKind → ℕ
undefined_code DivisionByZero = 1
undefined_code DivisionOverflow = 2
undefined_code BranchOnPoison = 3
undefined_code PoisonAddress = 4
undefined_code OutsideBlock = 5
undefined_code EndedBlock = 6
undefined_code Misaligned = 7
undefined_code WriteToConstant = 8
undefined_code BadFree = 9
undefined_code Overlap = 10
undefined_code NoFunction = 11
undefined_code AnotherFunctionType = 12
undefined_code PoisonArgument = 13
undefined_code Unreachable = 14
undefined_code BadFormat = 15

-- all of them, in the order of the table
abbrev pub undefined_kinds : List UndefinedKind
undefined_kinds =
    DivisionByZero ∷
    DivisionOverflow ∷
    BranchOnPoison ∷
    PoisonAddress ∷
    OutsideBlock ∷
    EndedBlock ∷
    Misaligned ∷
    WriteToConstant ∷
    BadFree ∷
    Overlap ∷
    NoFunction ∷
    AnotherFunctionType ∷
    PoisonArgument ∷
    Unreachable ∷
    BadFormat ∷
    []

-- the words and codes of all kinds
abbrev pub undefined_table : List WordEntry
undefined_table = map (λ kind. record { word = undefined_word kind; code = undefined_code kind }) undefined_kinds

-- the one with this word, and the one with this code
unfoldable pub undefined_of_word : List ℕ → Option UndefinedKind
undefined_of_word word = find (λ kind. bytes_eq (undefined_word kind) word) undefined_kinds

-- the kind of a code
unfoldable pub undefined_of_code : ℕ → Option UndefinedKind
undefined_of_code code = find (λ kind. nat_eq (undefined_code kind) code) undefined_kinds
