-- For `read` of bitcode: what refuses a tree of blocks and records.
use Rattle.std.specs.Prelude.{ℕ, nat_eq, Bool, true, false, List, [], ◌∷◌, Option, Some, None, Result, Ok, Err, if◌then◌else◌}
use Rattle.std.specs.List.{list_any}
use Rattle.bit_tree.specs.Stream.{StreamTree, nothing, block, definition, values}
use Rattle.record_table.specs.Walk.{least}

-- what refuses it
pub data RecordFault : Type 0 where
  -- another program wrote it
  ForeignProducer : RecordFault
  -- its records are of another version, this one
  BadVersion : (version : ℕ) → RecordFault
  -- a code that this block does not have, 0 where there is no such block
  UnknownRecord : (block_id code : ℕ) → RecordFault
  -- a record, by its block, its index in the stream and the least rule that it breaks; where a block or a record is missing, by the id of the
  -- block that is due, and by how many records stand before
  BadRecord : (block_id index rule : ℕ) → RecordFault

-- what is read, or what refuses it
abbrev pub Answer : Type 0 → Type 0
Answer A = Result A RecordFault

infixl 10 ◌>>=◌
-- go on with what is read
abbrev pub ◌>>=◌ : {A B : Type 0} → Answer A → (A → Answer B) → Answer B
Ok x >>= f = f x
Err fault >>= f = Err fault

-- the blocks and records alone: BLOCKINFO is passed over with what it holds, and so are definitions and blobs
pub data Records : Type 0 where
  no_more : Records
  a_block : (id : ℕ) → (inside behind : Records) → Records
  a_record : (code : ℕ) → (operands : List ℕ) → (behind : Records) → Records

-- a block with what is behind it, but for BLOCKINFO
abbrev pub but_for_info : ℕ → Records → Records → Records
but_for_info id inside behind = if nat_eq id 0 then behind else a_block id inside behind

-- those of a tree
abbrev pub records : StreamTree → Records
records nothing = no_more
records (block id width words inside behind) = but_for_info id (records inside) (records behind)
records (definition id t behind) = records behind
records (values id code operands has_blob blob behind) = a_record code operands (records behind)

-- the ids of the blocks
abbrev pub producer_id : ℕ
producer_id = 13

-- that of the module
abbrev pub module_id : ℕ
module_id = 8

-- that of the types
abbrev pub types_id : ℕ
types_id = 17

-- that of a body
abbrev pub body_id : ℕ
body_id = 12

-- that of the string table
abbrev pub table_id : ℕ
table_id = 23

-- one of these
abbrev pub is_block_id : ℕ → Bool
is_block_id id = list_any (nat_eq id) (producer_id ∷ table_id ∷ module_id ∷ types_id ∷ body_id ∷ [])

-- a block where none of its kind may stand, behind so many records
abbrev pub misplaced : {A : Type 0} → ℕ → ℕ → Answer A
misplaced id at = if is_block_id id then Err (BadRecord id at 5) else Err (UnknownRecord id 0)

-- this, unless the record breaks a rule
abbrev pub unless_broken : {A : Type 0} → ℕ → ℕ → Option ℕ → A → Answer A
unless_broken id at None x = Ok x
unless_broken id at (Some rule) x = Err (BadRecord id at rule)

-- a rule besides those that the operands break
abbrev pub also : ℕ → Bool → Option ℕ → Option ℕ
also rule true broken = broken
also rule false broken = least rule broken
