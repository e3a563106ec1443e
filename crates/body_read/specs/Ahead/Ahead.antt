-- For `gather_body`: what is known ahead of a body.
use Rattle.std.specs.Prelude.{◌≡◌, ◌-◌, ◌+◌, ℕ, nat_eq, not, Bool, true, false, List, [], ◌∷◌, length, map, slice_get, Option, Some, None, if◌then◌else◌}
use Rattle.std.specs.Option.{option_map_or}
use Rattle.ir_tables.specs.declared.opcode.Opcode.{Opcode}
use Rattle.ir_tables.specs.declared.opcode.Opcode.TheVariants as op
use Rattle.ir_tables.specs.Opcode.{opcode_of_code}
use Rattle.module_arena.specs.declared.entry.LocalName as the_local
use Rattle.module_arena.specs.Module.{LocalName}
use Rattle.module_arena.specs.TypeTests.{is_void}
use Rattle.module_arena.specs.View.{local_view}
use Rattle.record_table.specs.Bodies.{Labels, labels, parameters}
use Rattle.record_table.specs.Faults.{Records, no_more, a_block, a_record}
use Rattle.record_table.specs.Fields.{Numbering, Texts}
use Rattle.record_table.specs.Layout.{judged}
pub use Rattle.record_read.specs.Counts.{one_where}
use Rattle.type_read.specs.declared.arena.counts.LocalCounts.{LocalCounts}
use Rattle.body_read.specs.declared.ahead.ahead.BodyAhead.{BodyAhead}

-- for each type, whether it is `void`
abbrev pub AreVoids : List Bool → Numbering → Type 0
AreVoids voids k = map is_void k.types ≡ voids

-- ---- values

-- the type of that index is there and is not `void`
abbrev pub gives_where : List Bool → ℕ → Bool
gives_where voids index = option_map_or not (slice_get voids index) false

-- a call has a result where the type that stands in front of it is there and is not `void`
abbrev pub gives_value : List Bool → List ℕ → Bool
gives_value voids [] = false
gives_value voids (t ∷ operands) = gives_where voids t

-- whether a line of that opcode has a result
abbrev pub gives_by : List Bool → List ℕ → Opcode → Bool
gives_by voids operands op.Store = false
gives_by voids operands op.Ret = false
gives_by voids operands op.Br = false
gives_by voids operands op.Switch = false
gives_by voids operands op.Unreachable = false
gives_by voids operands op.Call = gives_value voids operands
gives_by voids operands _ = true

-- a line by its opcode, where it has one
abbrev pub gives_of : List Bool → List ℕ → Option Opcode → Bool
gives_of voids operands None = false
gives_of voids operands (Some o) = gives_by voids operands o

-- how many values a record of that code declares, and how many blocks
abbrev pub values_of : List Bool → ℕ → List ℕ → ℕ
values_of voids code operands = if nat_eq code 2 then 0 else one_where (gives_of voids operands (opcode_of_code (code - 10)))

-- the record of a block declares one
abbrev pub blocks_of : ℕ → ℕ
blocks_of code = one_where (nat_eq code 2)

-- ---- names

-- The names that are kept are those of the parameters; there are none exactly where their record breaks a rule.
abbrev pub AreNamesOf : Option (List the_local.LocalName) → List LocalName × Option ℕ → Type 0
AreNamesOf None read = read.1 ≡ None → ⊥
AreNamesOf (Some names) read = (map local_view names ≡ read.0) × (read.1 ≡ None)

-- the first record, where it is that of the parameters
abbrev pub first_names : Texts → ℕ → Records → List LocalName × Option ℕ
first_names texts count no_more = ([], Some 5)
first_names texts count (a_block id inside behind) = first_names texts count behind
first_names texts count (a_record code operands behind) = if nat_eq code 1 then judged (parameters texts count) operands else ([], Some 5)

-- ---- all of it

-- how many values and blocks these labels are
pub record AreCounts (counts : LocalCounts) (found : Labels) : Type 0 where
  pub values : counts.values ≡ length found.values
  pub blocks : counts.blocks ≡ length found.blocks

-- how many values and blocks a body has, and what its parameters are called where its first record says so
pub record IsAhead (texts : Texts) (k : Numbering) (count : ℕ) (inside : Records) (ahead : BodyAhead) : Type 0 where
  pub counts : AreCounts ahead.counts (labels texts k count inside)
  pub names : AreNamesOf ahead.names (first_names texts count inside)

-- the names behind the first record, which is that of the parameters or not
abbrev pub NamesFrom : Bool → List LocalName × Option ℕ → Option (List the_local.LocalName) → Option (List the_local.LocalName) → Type 0
NamesFrom true read old new = AreNamesOf new read
NamesFrom false read old new = new ≡ old

-- the names behind a record, which is the first or not
abbrev pub NamesBehind : Texts → ℕ → Bool → ℕ → List ℕ → Option (List the_local.LocalName) → Option (List the_local.LocalName) → Type 0
NamesBehind texts count true code operands old new = NamesFrom (nat_eq code 1) (judged (parameters texts count) operands) old new
NamesBehind texts count false code operands old new = new ≡ old

-- what one record adds to what is known ahead
pub record GathersRecord (texts : Texts) (count : ℕ) (voids : List Bool) (is_first : Bool) (code : ℕ) (operands : List ℕ) (old new : BodyAhead) : Type 0 where
  pub values : new.counts.values ≡ old.counts.values + values_of voids code operands
  pub blocks : new.counts.blocks ≡ old.counts.blocks + blocks_of code
  pub names : NamesBehind texts count is_first code operands old.names new.names
