-- For `find_module` and `look_ahead`: the block of the module, and what is known ahead of it.
use Rattle.std.specs.Prelude.{◌≡◌, ◌+◌, ◌||◌, ◌&&◌, ℕ, nat_eq, not, Bool, true, false, List, [], ◌∷◌, length, if◌then◌else◌}
use Rattle.bit_tree.specs.Pieces.{Piece, ended}
use Rattle.record_table.specs.Fields.{Texts}
use Rattle.record_table.specs.Faults.{Records, no_more, a_block, a_record, module_id, types_id}
use Rattle.record_table.specs.Records.{names_of}
use Rattle.record_table.specs.TypeRecords.{names_in}
pub use Rattle.record_read.specs.Counts.{one_where}
use Rattle.record_read.specs.Entries.{IsBefore}
use Rattle.record_read.specs.Reader.{Reader}
use Rattle.type_read.specs.declared.arena.counts.GlobalCounts.{GlobalCounts}
use Rattle.type_read.specs.Listed.{AreGathered}
use Rattle.bitcode_read.specs.declared.head.ahead.ModuleAhead.{ModuleAhead}
use Rattle.bitcode_read.specs.declared.head.ahead.NamedStructs.{NamedStructs}

-- whether there is a block of the module
abbrev pub has_module : Records → Bool
has_module no_more = false
has_module (a_block id inside behind) = nat_eq id module_id || has_module behind
has_module (a_record code operands behind) = has_module behind

-- what stands in the block of the module: the first of its id that is in no other
abbrev pub first_module : Records → Records
first_module no_more = no_more
first_module (a_block id inside behind) = if nat_eq id module_id then inside else first_module behind
first_module (a_record code operands behind) = first_module behind

-- what stands in the first block of types
abbrev pub first_types : Records → Records
first_types no_more = no_more
first_types (a_block id inside behind) = if nat_eq id types_id then inside else first_types behind
first_types (a_record code operands behind) = first_types behind

-- in front of these, the reader stands in the module's block, if there is one
pub record FindsFirst (found : Bool) (new : Reader) (all : Records) : Type 0 where
  pub is : found ≡ has_module all
  pub before : found ≡ true → (pieces : List Piece) × IsBefore new.left (first_module all) (ended ∷ pieces)

-- so many variables, functions and aliases are named by these records
pub record AreCounted (texts : Texts) (inside : Records) (counts : GlobalCounts) : Type 0 where
  pub variables : counts.variables ≡ length (names_of texts 5 inside)
  pub functions : counts.functions ≡ length (names_of texts 6 inside)
  pub aliases : counts.aliases ≡ length (names_of texts 7 inside)

-- What is known ahead of a module's block: how many entries there are, and its structs with an arena that has their names.
pub record IsAhead (texts : Texts) (inside : Records) (ahead : ModuleAhead) : Type 0 where
  pub counts : AreCounted texts inside ahead.counts
  pub structs : AreGathered ahead.named ahead.structs (names_in texts (first_types inside))

-- a record of that code is one entry more
pub record CountsRecord (code : ℕ) (old new : GlobalCounts) : Type 0 where
  pub variables : new.variables ≡ old.variables + one_where (nat_eq code 5)
  pub functions : new.functions ≡ old.functions + one_where (nat_eq code 6)
  pub aliases : new.aliases ≡ old.aliases + one_where (nat_eq code 7)

-- the structs of a block of types were gathered, and the reader stands behind it
pub record Gathers (texts : Texts) (held : Records) (others : List Piece) (new : Reader) (found : NamedStructs) : Type 0 where
  pub structs : AreGathered found.named found.structs (names_in texts held)
  pub left : new.left ≡ others

-- the structs of the first block of types are known behind it; another block adds nothing
abbrev pub GathersIf : Bool → Texts → Records → Bool → ModuleAhead → Bool → ModuleAhead → Type 0
GathersIf true texts held had old has new = (has ≡ true) × AreGathered new.named new.structs (names_in texts held) × (new.counts ≡ old.counts)
GathersIf false texts held had old has new = (has ≡ had) × (new ≡ old)

-- a block of that id, where there was a block of types before it or not
abbrev pub GathersBlock : Texts → ℕ → Records → Bool → ModuleAhead → Bool → ModuleAhead → Type 0
GathersBlock texts id held had old has new = GathersIf (nat_eq id types_id && not had) texts held had old has new

-- nothing is known
pub record IsNothing (ahead : ModuleAhead) : Type 0 where
  pub variables : ahead.counts.variables ≡ 0
  pub functions : ahead.counts.functions ≡ 0
  pub aliases : ahead.counts.aliases ≡ 0
  pub structs : AreGathered ahead.named ahead.structs []
