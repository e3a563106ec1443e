-- For `read_types` and `gather_types`: the block of types as an arena has it.
use Rattle.std.specs.Prelude.{◌≡◌, ◌⊎◌, ◌≤◌, ◌<◌, ◌≢◌, ℕ, suc, ◌&&◌, nat_eq, not, Bool, true, false, List, [], ◌∷◌, ◌++◌, map, length, slice_get, Option, Some, None, Result, Ok, Err, bytes_eq, ⊤, if◌then◌else◌}
use Rattle.std.specs.List.{list_all, list_any}
use Rattle.bit_tree.specs.Pieces.{Piece, ended}
use Rattle.type_table.specs.Types.{Types, with_struct, names, bodies}
use Rattle.type_table.specs.declared.fault.TypeFault.{TypeFault}
use Rattle.type_table.specs.declared.fault.TypeFault.TheVariants as type_fault
use Rattle.module_arena.specs.Changes.{with_table}
use Rattle.module_arena.specs.Lists.{Lists, no_lists}
use Rattle.module_arena.specs.Module.{Bytes}
use Rattle.record_table.specs.Fields.{Texts}
use Rattle.record_table.specs.Walk.{going, told}
use Rattle.record_table.specs.Faults.{Records, no_more, a_block, a_record}
use Rattle.record_table.specs.Layout.{judged}
use Rattle.record_table.specs.TypeRecords as records
use Rattle.record_table.specs.TypeRecords.{Listed, TypeKind, OfVoid, definition, name_defined, names_in, kind_of_code, kinds, all_fit, are_distinct, called}
use Rattle.record_read.specs.Entries.{IsBefore}
use Rattle.record_read.specs.Faults.{Answers}
use Rattle.record_read.specs.Reader.{Reader, also_asked}
use Rattle.record_read.specs.declared.fault.BitcodeFault.{BitcodeFault}
use Rattle.record_read.specs.declared.fault.BitcodeFault.TheVariants.{Memory}
use Rattle.type_read.specs.declared.structs.StructNames.{StructNames}
use Rattle.type_read.specs.declared.structs.TheConstants.{STRUCT_LIMIT}
use Rattle.type_read.specs.declared.structs.TypesAhead.{TypesAhead}
use Rattle.type_read.specs.Fields.{is_good}

-- ---- names

-- each may be the name of a struct, and no two are the same
abbrev pub are_good : List Bytes → Bool
are_good all = list_all is_good all && are_distinct all

-- no struct may be called so behind these
abbrev pub IsBad : List Bytes → Bytes → Type 0
IsBad before name = (is_good name ≡ false) ⊎ (list_any (bytes_eq name) before ≡ true)

-- the first name at which the names are bad
pub record IsFirstBad (place : ℕ) (all : List Bytes) : Type 0 where
  pub before : List Bytes
  pub name : Bytes
  pub behind : List Bytes
  pub all_is : all ≡ before ++ name ∷ behind
  pub place_is : place ≡ length before
  pub good : are_good before ≡ true
  pub bad : IsBad before name

-- the first bad name, where there is one
abbrev pub FindsBad : Option ℕ → List Bytes → Type 0
FindsBad None all = are_good all ≡ true
FindsBad (Some place) all = IsFirstBad place all

-- the structs of a block: how many, and the first whose name is bad
pub record AreNames (t : Texts) (inside : Records) (found : StructNames) : Type 0 where
  pub count : found.count ≡ length (names_in t inside)
  pub few : length (names_in t inside) < STRUCT_LIMIT
  pub first_bad : FindsBad found.first_bad (names_in t inside)

-- structs of these names, none of which is defined, and no types
abbrev pub only_named : List Bytes → Types
only_named all = record { types = []; structs = map (λ name. (name, None)) all }

-- The names that were gathered so far: the arena has them all as long as none is bad.
pub record AreGathered (a : Lists) (found : StructNames) (all : List Bytes) : Type 0 where
  pub count : found.count ≡ length all
  pub few : length all < STRUCT_LIMIT
  pub first_bad : FindsBad found.first_bad all
  pub named : found.first_bad ≡ None → a ≡ record no_lists { table = only_named all }

-- the name was new and was given to one more struct, or it is there
abbrev pub AddsNew : Lists → Bytes → Bool → Lists → Type 0
AddsNew old name true new = (list_any (bytes_eq name) (names old.table) ≡ false) × (new ≡ with_table old (with_struct old.table name))
AddsNew old name false new = (list_any (bytes_eq name) (names old.table) ≡ true) × (new ≡ old)

-- the same of a name that may be none
abbrev pub AddsName : Lists → Option Bytes → Bool → Lists → Type 0
AddsName old None is_new new = (is_new ≡ false) × (new ≡ old)
AddsName old (Some name) is_new new = AddsNew old name is_new new

-- an arena with so many structs, none of which is defined, and nothing else
pub record HasStructs (count : ℕ) (a : Lists) : Type 0 where
  pub rest : a ≡ record no_lists { table = a.table }
  pub types : a.table.types ≡ []
  pub many : length a.table.structs ≡ count
  pub undefined : (id : ℕ) → id < count → slice_get (bodies a.table) id ≡ Some None

-- an arena with the structs' names, or with stand-ins for them where one is bad, and nothing else
pub record IsNamedAs (found : StructNames) (all : List Bytes) (a : Lists) : Type 0 where
  pub structs : HasStructs (length all) a
  pub named : found.first_bad ≡ None → a.table ≡ only_named all

-- ---- kinds

-- whether types of that kind are `void`
abbrev pub is_void_kind : TypeKind → Bool
is_void_kind OfVoid = true
is_void_kind _ = false

-- a type by its kind
abbrev pub void_by : Option TypeKind → List Bool
void_by None = []
void_by (Some kind) = is_void_kind kind ∷ []

-- a type by the code of its record; other records have none
abbrev pub void_of : ℕ → List Bool
void_of code = void_by (kind_of_code code kinds)

-- for each type of a block, whether it is `void`
abbrev pub voids_in : Records → List Bool
voids_in no_more = []
voids_in (a_block id inside behind) = voids_in behind
voids_in (a_record code operands behind) = void_of code ++ voids_in behind

-- what one record adds to what is known ahead: a name that is none that is good is the first bad one, or a type
abbrev pub GathersRecord : Texts → ℕ → List ℕ → Lists → TypesAhead → Lists → TypesAhead → Type 0
GathersRecord t code operands old before new now =
    ((all : List Bytes)
    → AreGathered old before.structs all
    → AreGathered new now.structs
    (if nat_eq code 7 then all ++ name_defined (judged (definition t 0) operands) ∷ [] else all))
    × (now.voids.items ≡ before.voids.items ++ void_of code)

-- ---- the block of types

-- a block of types was begun, and the arena has the structs' names
pub record IsBegun (t : Texts) (left : List Piece) (found : StructNames) (a : Lists) : Type 0 where
  pub inside : Records
  pub others : List Piece
  pub before : IsBefore left inside (ended ∷ others)
  pub names_are : AreNames t inside found
  pub named : IsNamedAs found (names_in t inside) a

-- The arena has the types and structs that were read, and nothing else. Of the structs' names nothing depends on them while
-- one is bad, which will be refused.
pub record IsListed (a : Lists) (found : StructNames) (all : List Bytes) (listed : Listed) : Type 0 where
  pub rest : a ≡ record no_lists { table = a.table }
  pub types : a.table.types ≡ listed.types.types
  pub bodies_are : bodies a.table ≡ bodies listed.types
  pub called_so : names listed.types ≡ called all
  pub few : length all < STRUCT_LIMIT
  pub named : found.first_bad ≡ None → a.table ≡ listed.types

-- of the block of types that the reader stands before, whose structs have these names, the answer is what its records say: the
-- arena has its types, and the reader stands behind it
abbrev pub ReadsTypes : Texts → StructNames → Reader → Lists → Result (Unit {0}) BitcodeFault → Reader → Lists → Type 0
ReadsTypes t found old before answer new after =
    (inside : Records) (others : List Piece)
    → IsBefore old.left inside (ended ∷ others)
    → AreNames t inside found
    → IsNamedAs found (names_in t inside) before
    → Answers (λ _ listed. IsListed after found (names_in t inside) listed × (new.left ≡ others) × (new.at ≡ listed.at)) (records.listed t old.at inside) answer

-- no struct behind the first bad name is reached
abbrev pub IsReached : Option ℕ → ℕ → Type 0
IsReached None number = ⊤
IsReached (Some place) number = number ≤ place

-- The structs that are defined so far have the first of all names, which are good, and those behind them are not defined.
pub record AreSoFar (found : StructNames) (all : List Bytes) (s : Listed) (later : List Bytes) : Type 0 where
  pub all_is : all ≡ s.names ++ later
  pub good : list_all is_good s.names ≡ true
  pub first_bad : FindsBad found.first_bad all
  pub reached : IsReached found.first_bad (length s.names)
  pub undefined : (id : ℕ) → length s.names ≤ id → id < length all → slice_get (bodies s.types) id ≡ Some None

-- the names from this record on, where those behind it are these
abbrev pub later_names : Listed → ℕ → List ℕ → List Bytes → List Bytes
later_names s code operands later =
    if nat_eq code 7 then name_defined (judged (definition s.texts (length s.types.types)) operands) ∷ later else later

-- a record in front, none of whose operands are taken, behind what was read so far
pub record IsOn (a : Lists) (found : StructNames) (all : List Bytes) (r : Reader) (operands : List ℕ) (s : Listed) : Type 0 where
  pub listed : IsListed a found all s
  pub walk : r.walk ≡ going operands None
  pub at : r.at ≡ suc s.at

-- one record more was read, behind which structs of these names are to come
pub record IsMore (a : Lists) (found : StructNames) (all later : List Bytes) (s listed : Listed) : Type 0 where
  pub listed_is : IsListed a found all listed
  pub so_far : AreSoFar found all listed later
  pub at : listed.at ≡ suc s.at
  pub texts : listed.texts ≡ s.texts

-- one record was read: the reader is in front of the same as before
abbrev pub ReadsOne : {A E : Type 0} → Reader → Result A E → Reader → Type 0
ReadsOne old (Ok done) new = (new.spent ≡ old.spent) × (new.left ≡ old.left) × (new.at ≡ old.at)
ReadsOne old (Err fault) new = ⊤

-- a struct that the arena has, and that is not defined
abbrev pub IsUndefined : Lists → ℕ → Type 0
IsUndefined a id = (id < length a.table.structs) × (slice_get (bodies a.table) id ≡ Some None)

-- a refusal of a change of the table: by rule 7, or since memory ran out
abbrev pub IsRefusedBy : TypeFault → Reader → Result (Unit {0}) BitcodeFault → Reader → Type 0
IsRefusedBy fault before (Ok done) now = (fault ≢ type_fault.Memory) × (now ≡ record before { walk = also_asked 7 false before.walk })
IsRefusedBy fault before (Err told) now = told ≡ Memory

-- The table becomes this one where all of it is within the limits; else rule 7 is broken.
abbrev pub AddsType : Types → Lists → Reader → Result (Unit {0}) BitcodeFault → Lists → Reader → Type 0
AddsType after old before (Ok done) new now =
    (all_fit after ≡ true → new ≡ with_table old after)
    × (now ≡ record before { walk = also_asked 7 (all_fit after) before.walk })
AddsType after old before (Err told) new now = told ≡ Memory

-- the name at that place is the first bad one
abbrev pub is_first : Option ℕ → ℕ → Bool
is_first None number = false
is_first (Some place) number = nat_eq number place

-- rule 4 is asked where a name is kept: it is new unless it is the first bad one
abbrev pub NamesNext : StructNames → ℕ → Bool → Reader → Reader → Type 0
NamesNext found number true before now = now ≡ record before { walk = also_asked 4 (not (is_first found.first_bad number)) before.walk }
NamesNext found number false before now = now ≡ before
