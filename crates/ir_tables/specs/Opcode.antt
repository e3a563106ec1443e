-- For `word`, `code`, `of_word` and `of_code` of `Opcode`: the opcodes, their words and their codes.
use Rattle.std.specs.Prelude.{ℕ, List, [], ◌∷◌, map, find, Option, codes, bytes_eq, nat_eq}
use Rattle.ir_tables.specs.Table.{WordEntry}
use Rattle.ir_tables.specs.declared.opcode.Opcode.{Opcode}
use Rattle.ir_tables.specs.declared.opcode.Opcode.TheVariants.{Add, Sub, Mul, UDiv, SDiv, URem, SRem, Shl, LShr, AShr, And, Or, Xor, ICmp, Trunc, ZExt, SExt, PtrToInt, IntToPtr, Select, Freeze, Phi, Load, Store, Alloca, GetElementPtr, Call, ExtractValue, InsertValue, Ret, Br, Switch, Unreachable}

-- the word of an opcode
abbrev pub opcode_word : Opcode → List ℕ
opcode_word Add = codes "add"
opcode_word Sub = codes "sub"
opcode_word Mul = codes "mul"
opcode_word UDiv = codes "udiv"
opcode_word SDiv = codes "sdiv"
opcode_word URem = codes "urem"
opcode_word SRem = codes "srem"
opcode_word Shl = codes "shl"
opcode_word LShr = codes "lshr"
opcode_word AShr = codes "ashr"
opcode_word And = codes "and"
opcode_word Or = codes "or"
opcode_word Xor = codes "xor"
opcode_word ICmp = codes "icmp"
opcode_word Trunc = codes "trunc"
opcode_word ZExt = codes "zext"
opcode_word SExt = codes "sext"
opcode_word PtrToInt = codes "ptrtoint"
opcode_word IntToPtr = codes "inttoptr"
opcode_word Select = codes "select"
opcode_word Freeze = codes "freeze"
opcode_word Phi = codes "phi"
opcode_word Load = codes "load"
opcode_word Store = codes "store"
opcode_word Alloca = codes "alloca"
opcode_word GetElementPtr = codes "getelementptr"
opcode_word Call = codes "call"
opcode_word ExtractValue = codes "extractvalue"
opcode_word InsertValue = codes "insertvalue"
opcode_word Ret = codes "ret"
opcode_word Br = codes "br"
opcode_word Switch = codes "switch"
opcode_word Unreachable = codes "unreachable"

-- the code of an opcode
abbrev pub opcode_code : Opcode → ℕ
opcode_code Add = 1
opcode_code Sub = 2
opcode_code Mul = 3
opcode_code UDiv = 4
opcode_code SDiv = 5
opcode_code URem = 6
opcode_code SRem = 7
opcode_code Shl = 8
opcode_code LShr = 9
opcode_code AShr = 10
opcode_code And = 11
opcode_code Or = 12
opcode_code Xor = 13
opcode_code ICmp = 14
opcode_code Trunc = 15
opcode_code ZExt = 16
opcode_code SExt = 17
opcode_code PtrToInt = 18
opcode_code IntToPtr = 19
opcode_code Select = 20
opcode_code Freeze = 21
opcode_code Phi = 22
opcode_code Load = 23
opcode_code Store = 24
opcode_code Alloca = 25
opcode_code GetElementPtr = 26
opcode_code Call = 27
opcode_code ExtractValue = 28
opcode_code InsertValue = 29
opcode_code Ret = 30
opcode_code Br = 31
opcode_code Switch = 32
opcode_code Unreachable = 33

-- all of them, in the order of the table
abbrev pub opcodes : List Opcode
opcodes =
    Add ∷
    Sub ∷
    Mul ∷
    UDiv ∷
    SDiv ∷
    URem ∷
    SRem ∷
    Shl ∷
    LShr ∷
    AShr ∷
    And ∷
    Or ∷
    Xor ∷
    ICmp ∷
    Trunc ∷
    ZExt ∷
    SExt ∷
    PtrToInt ∷
    IntToPtr ∷
    Select ∷
    Freeze ∷
    Phi ∷
    Load ∷
    Store ∷
    Alloca ∷
    GetElementPtr ∷
    Call ∷
    ExtractValue ∷
    InsertValue ∷
    Ret ∷
    Br ∷
    Switch ∷
    Unreachable ∷
    []

-- the words and codes of all opcodes
abbrev pub opcode_table : List WordEntry
opcode_table = map (λ opcode. record { word = opcode_word opcode; code = opcode_code opcode }) opcodes

-- the one with this word, and the one with this code
unfoldable pub opcode_of_word : List ℕ → Option Opcode
opcode_of_word word = find (λ opcode. bytes_eq (opcode_word opcode) word) opcodes

-- the opcode of a code
unfoldable pub opcode_of_code : ℕ → Option Opcode
opcode_of_code code = find (λ opcode. nat_eq (opcode_code opcode) code) opcodes
