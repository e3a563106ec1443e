-- For `read_producer` and `read_texts`: the block that names the producer, and what stands behind it.
use Rattle.std.specs.Prelude.{◌≡◌, ℕ, suc, nat_eq, ◌&&◌, Bool, true, false, List, [], ◌∷◌, Option, Some, None, Ok, Err, if◌then◌else◌}
use Rattle.bit_tree.specs.Pieces.{Piece, ended}
use Rattle.record_table.specs.Faults.{Answer, Records, no_more, a_block, a_record, ForeignProducer, producer_id, ◌>>=◌}
use Rattle.record_table.specs.Records as records
use Rattle.record_table.specs.Walk.{Walk, going}
use Rattle.record_read.specs.declared.entry.NextEntry.{NextEntry}
use Rattle.record_read.specs.declared.entry.NextEntry.TheVariants as entry
use Rattle.record_read.specs.Entries.{IsBefore}
use Rattle.record_read.specs.Reader.{Reader}
use Rattle.record_read.specs.declared.opening.producer.ProducerFront.{ProducerFront}

-- whether the next operand is that number, and what is left behind it
abbrev pub TakesThat : ℕ → List ℕ → Bool → Walk → Type 0
TakesThat number [] is walk = is ≡ false
TakesThat number (taken ∷ operands) is walk = (is ≡ nat_eq taken number) × (walk ≡ going operands None)

-- the blocks and records of a whole stream are left
pub record IsWholeStream (left : List Piece) : Type 0 where
  pub all : Records
  pub before : IsBefore left all []

-- an entry that is the producer's block
abbrev pub is_producer_block : NextEntry → Bool
is_producer_block (entry.Block id) = nat_eq id producer_id
is_producer_block _ = false

-- the first block is the producer's, and names this one: how many records stand in it, and what stands behind it
abbrev pub producer_of : Records → Answer (ℕ × Records)
producer_of (a_block id inside behind) =
    if nat_eq id producer_id && records.is_ours inside then (records.producer_from 0 inside >>= λ at. Ok (at, behind))
    else Err ForeignProducer
producer_of _ = Err ForeignProducer

-- the reader stands behind it
pub record IsBehind (new : Reader) (read : ℕ × Records) : Type 0 where
  pub at : new.at ≡ read.0
  pub before : IsBefore new.left read.1 []

-- the block that is first of all, where one is
abbrev pub first_block : Records → Option ℕ
first_block (a_block id inside behind) = Some id
first_block _ = None

-- what stands behind the first record
abbrev pub behind_first : Records → Records
behind_first no_more = no_more
behind_first (a_block id inside behind) = behind_first behind
behind_first (a_record code operands behind) = behind

-- what stands in front in the producer's block, and the reader behind it, if it is this producer's
pub record FindsFront (inside : Records) (others : List Piece) (front : ProducerFront) (old new : Reader) : Type 0 where
  pub ours : front.is_ours ≡ records.is_ours inside
  pub block : front.block ≡ first_block inside
  pub before : front.is_ours ≡ true → IsBefore new.left (behind_first inside) (ended ∷ others)
  pub at : front.is_ours ≡ true → new.at ≡ suc old.at

-- the first of some blocks, where that one is the next
abbrev pub noted_or : Option ℕ → ℕ → Option ℕ
noted_or (Some first) id = Some first
noted_or None id = Some id

-- another record of the producer's block, behind the one that it has
abbrev pub another : ℕ → List ℕ → Answer ℕ
another code operands = records.producer_from 1 (a_record code operands no_more)

-- the block is over behind so many records
pub record IsEnded (new : Reader) (others : List Piece) (at : ℕ) : Type 0 where
  pub left : new.left ≡ others
  pub at_is : new.at ≡ at
