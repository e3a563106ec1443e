-- A stream is read as what stands in front of the module's block, the block, and what stands behind it.
use Rattle.std.proofs.Common.{◌≡◌, ℕ, Bool, true, false, ◌&&◌, cond, nat_eq, refl}
use Rattle.std.specs.Prelude.{Ok, Err}
use Rattle.module_arena.specs.Module.{Module}
use Rattle.record_table.specs.Faults.{Answer, ◌>>=◌, BadRecord, ForeignProducer, Records, UnknownRecord, is_block_id, no_more, a_block, a_record, misplaced}
use Rattle.record_table.specs.Fields.{Texts, version_1}
use Rattle.record_table.specs.Records.{ReadTable, at_first, is_ours, module_behind, module_block, module_from, nothing_behind, producer_from, read, table}
use Rattle.record_table.specs.StringTable.{read_only}
use Rattle.record_read.specs.Opening.Entering.{Entered, block_of, module_in}
use Rattle.record_read.specs.Opening.Producer.{producer_of}

module _ (behind : Records) where
  in_two : (a : Answer ℕ) → (a >>= λ at. module_behind at behind) ≡ ((a >>= λ at. Ok (at, behind)) >>= λ (p : ℕ × Records). module_behind p.0 p.1)
  in_two (Ok at) = refl
  in_two (Err told) = refl

-- the producer's block, and what stands behind it
pub read_is : (all : Records) → read all ≡ (producer_of all >>= λ p. module_behind p.0 p.1)
read_is no_more = refl
read_is (a_record code operands behind) = refl
read_is (a_block id inside behind) = by (nat_eq id 13 && is_ours inside)
  where
    by : (b : Bool) → cond {A = Answer Module} b (producer_from 0 inside >>= λ at. module_behind at behind) (Err ForeignProducer)
        ≡ (cond {A = Answer (ℕ × Records)} b (producer_from 0 inside >>= λ at. Ok (at, behind)) (Err ForeignProducer) >>= λ (p : ℕ × Records). module_behind p.0 p.1)
    by true = in_two behind (producer_from 0 inside)
    by false = refl

-- what is in the module's block, and what is behind it
abbrev pub entered_module : Entered → Answer Module
entered_module e = module_from (at_first e.texts e.at e.inside) e.inside >>= λ s. nothing_behind s e.behind

never_there : (id at : ℕ) → misplaced {A = Module} id at ≡ (misplaced {A = Entered} id at >>= entered_module)
never_there id at = by (is_block_id id)
  where
    by : (b : Bool) → cond {A = Answer Module} b (Err (BadRecord id at 5)) (Err (UnknownRecord id 0)) ≡ (cond {A = Answer Entered} b (Err (BadRecord id at 5)) (Err (UnknownRecord id 0)) >>= entered_module)
    by true = refl
    by false = refl

block_is : (t : Texts) (at : ℕ) (all : Records) → module_block t at all ≡ (block_of t at all >>= entered_module)
block_is t at no_more = refl
block_is t at (a_record code operands behind) = refl
block_is t at (a_block id inside behind) = by (nat_eq id 8)
  where
    by : (b : Bool) → cond {A = Answer Module} b (module_from (at_first t at inside) inside >>= λ s. nothing_behind s behind) (misplaced id at)
        ≡ (cond {A = Answer Entered} b (Ok (record { texts = t; at = at; inside = inside; behind = behind })) (misplaced id at) >>= entered_module)
    by true = refl
    by false = never_there id at

-- the module's block, behind a table or not
pub module_is : (at : ℕ) (all : Records) → module_behind at all ≡ (module_in at all >>= entered_module)
module_is at no_more = refl
module_is at (a_record code operands behind) = refl
module_is at (a_block id inside behind) = by (nat_eq id 23)
  where
    tabled : (a : Answer ReadTable) → (a >>= λ t. module_block (read_only t.bytes) t.at behind) ≡ ((a >>= λ t. block_of (read_only t.bytes) t.at behind) >>= entered_module)
    tabled (Ok t) = block_is (read_only t.bytes) t.at behind
    tabled (Err told) = refl

    by : (b : Bool) → cond {A = Answer Module} b (table at inside >>= λ t. module_block (read_only t.bytes) t.at behind) (module_block version_1 at (a_block id inside behind))
        ≡ (cond {A = Answer Entered} b (table at inside >>= λ t. block_of (read_only t.bytes) t.at behind) (block_of version_1 at (a_block id inside behind)) >>= entered_module)
    by true = tabled (table at inside)
    by false = block_is version_1 at (a_block id inside behind)
