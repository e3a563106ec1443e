-- For `word`, `code`, `of_word` and `of_code` of `Intrinsic`: the intrinsics over integers, in the order of their
-- table.
use Rattle.std.specs.Prelude.{ℕ, List, [], ◌∷◌, map, find, Option, codes, bytes_eq, nat_eq}
use Rattle.ir_tables.specs.Table.{WordEntry}
use Rattle.ir_tables.specs.declared.intrinsic.Intrinsic.{Intrinsic}
use Rattle.ir_tables.specs.declared.intrinsic.Intrinsic.TheVariants.{Ctpop, Bswap, Bitreverse, Ctlz, Cttz, Abs, Smin, Smax, Umin, Umax, SaddSat, UaddSat, SsubSat, UsubSat, SaddWithOverflow, UaddWithOverflow, SsubWithOverflow, UsubWithOverflow, SmulWithOverflow, UmulWithOverflow, Fshl, Fshr}

-- what stands between `llvm.` and the width in its name
abbrev pub intrinsic_word : Intrinsic → List ℕ
intrinsic_word Ctpop = codes "ctpop"
intrinsic_word Bswap = codes "bswap"
intrinsic_word Bitreverse = codes "bitreverse"
intrinsic_word Ctlz = codes "ctlz"
intrinsic_word Cttz = codes "cttz"
intrinsic_word Abs = codes "abs"
intrinsic_word Smin = codes "smin"
intrinsic_word Smax = codes "smax"
intrinsic_word Umin = codes "umin"
intrinsic_word Umax = codes "umax"
intrinsic_word SaddSat = codes "sadd.sat"
intrinsic_word UaddSat = codes "uadd.sat"
intrinsic_word SsubSat = codes "ssub.sat"
intrinsic_word UsubSat = codes "usub.sat"
intrinsic_word SaddWithOverflow = codes "sadd.with.overflow"
intrinsic_word UaddWithOverflow = codes "uadd.with.overflow"
intrinsic_word SsubWithOverflow = codes "ssub.with.overflow"
intrinsic_word UsubWithOverflow = codes "usub.with.overflow"
intrinsic_word SmulWithOverflow = codes "smul.with.overflow"
intrinsic_word UmulWithOverflow = codes "umul.with.overflow"
intrinsic_word Fshl = codes "fshl"
intrinsic_word Fshr = codes "fshr"

-- the code of an intrinsic
abbrev pub intrinsic_code : Intrinsic → ℕ
intrinsic_code Ctpop = 1
intrinsic_code Bswap = 2
intrinsic_code Bitreverse = 3
intrinsic_code Ctlz = 4
intrinsic_code Cttz = 5
intrinsic_code Abs = 6
intrinsic_code Smin = 7
intrinsic_code Smax = 8
intrinsic_code Umin = 9
intrinsic_code Umax = 10
intrinsic_code SaddSat = 11
intrinsic_code UaddSat = 12
intrinsic_code SsubSat = 13
intrinsic_code UsubSat = 14
intrinsic_code SaddWithOverflow = 15
intrinsic_code UaddWithOverflow = 16
intrinsic_code SsubWithOverflow = 17
intrinsic_code UsubWithOverflow = 18
intrinsic_code SmulWithOverflow = 19
intrinsic_code UmulWithOverflow = 20
intrinsic_code Fshl = 21
intrinsic_code Fshr = 22

-- all of them, in the order of the table
abbrev pub intrinsics : List Intrinsic
intrinsics =
    Ctpop ∷
    Bswap ∷
    Bitreverse ∷
    Ctlz ∷
    Cttz ∷
    Abs ∷
    Smin ∷
    Smax ∷
    Umin ∷
    Umax ∷
    SaddSat ∷
    UaddSat ∷
    SsubSat ∷
    UsubSat ∷
    SaddWithOverflow ∷
    UaddWithOverflow ∷
    SsubWithOverflow ∷
    UsubWithOverflow ∷
    SmulWithOverflow ∷
    UmulWithOverflow ∷
    Fshl ∷
    Fshr ∷
    []

-- the words and codes of all intrinsics
abbrev pub intrinsic_table : List WordEntry
intrinsic_table = map (λ intrinsic. record { word = intrinsic_word intrinsic; code = intrinsic_code intrinsic }) intrinsics

-- the one with this word, and the one with this code
unfoldable pub intrinsic_of_word : List ℕ → Option Intrinsic
intrinsic_of_word word = find (λ intrinsic. bytes_eq (intrinsic_word intrinsic) word) intrinsics

-- the intrinsic of a code
unfoldable pub intrinsic_of_code : ℕ → Option Intrinsic
intrinsic_of_code code = find (λ intrinsic. nat_eq (intrinsic_code intrinsic) code) intrinsics
