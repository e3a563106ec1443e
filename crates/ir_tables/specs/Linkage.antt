-- For `word`, `code`, `of_word` and `of_code` of `Linkage`: the linkages, their words and their codes.
use Rattle.std.specs.Prelude.{ℕ, List, [], ◌∷◌, map, find, Option, codes, bytes_eq, nat_eq}
use Rattle.ir_tables.specs.Table.{WordEntry}
use Rattle.ir_tables.specs.declared.linkage.Linkage.{Linkage}
use Rattle.ir_tables.specs.declared.linkage.Linkage.TheVariants.{External, Private, Internal, AvailableExternally, Linkonce, LinkonceOdr, Weak, WeakOdr, Common, Appending, ExternWeak}

-- the word of a linkage
abbrev pub linkage_word : Linkage → List ℕ
linkage_word External = codes "external"
linkage_word Private = codes "private"
linkage_word Internal = codes "internal"
linkage_word AvailableExternally = codes "available_externally"
linkage_word Linkonce = codes "linkonce"
linkage_word LinkonceOdr = codes "linkonce_odr"
linkage_word Weak = codes "weak"
linkage_word WeakOdr = codes "weak_odr"
linkage_word Common = codes "common"
linkage_word Appending = codes "appending"
linkage_word ExternWeak = codes "extern_weak"

-- the code of a linkage
abbrev pub linkage_code : Linkage → ℕ
linkage_code External = 0
linkage_code Private = 1
linkage_code Internal = 2
linkage_code AvailableExternally = 3
linkage_code Linkonce = 4
linkage_code LinkonceOdr = 5
linkage_code Weak = 6
linkage_code WeakOdr = 7
linkage_code Common = 8
linkage_code Appending = 9
linkage_code ExternWeak = 10

-- all of them, in the order of the table
abbrev pub linkages : List Linkage
linkages = External ∷ Private ∷ Internal ∷ AvailableExternally ∷ Linkonce ∷ LinkonceOdr ∷ Weak ∷ WeakOdr ∷ Common ∷ Appending ∷ ExternWeak ∷ []

-- the words and codes of all linkages
abbrev pub linkage_table : List WordEntry
linkage_table = map (λ linkage. record { word = linkage_word linkage; code = linkage_code linkage }) linkages

-- the one with this word, and the one with this code
unfoldable pub linkage_of_word : List ℕ → Option Linkage
linkage_of_word word = find (λ linkage. bytes_eq (linkage_word linkage) word) linkages

-- the linkage of a code
unfoldable pub linkage_of_code : ℕ → Option Linkage
linkage_of_code code = find (λ linkage. nat_eq (linkage_code linkage) code) linkages
