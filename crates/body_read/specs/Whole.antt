-- For `read_body`: a body in an arena, and the records that it is read of.
use Rattle.std.specs.Prelude.{◌≡◌, ◌-◌, ◌<◌, ◌^◌, ℕ, nat_eq, suc, Bool, true, false, List, length, Some, None, Result, Ok, Err}
use Rattle.ir_tables.specs.declared.opcode.Opcode.{Opcode}
use Rattle.ir_tables.specs.Opcode.{opcode_of_code}
use Rattle.type_table.specs.Types.{trees}
use Rattle.module_arena.specs.declared.entry.Body as the_body
use Rattle.module_arena.specs.Known.{KnowsBody}
use Rattle.module_arena.specs.Module.{LocalName}
use Rattle.module_arena.specs.View.{body_view, constants_of}
use Rattle.record_table.specs.Bodies as bodies
use Rattle.record_table.specs.Faults.{Answer, Records}
use Rattle.record_table.specs.Fields.{Numbering}
use Rattle.record_table.specs.Layout.{judged}
use Rattle.record_table.specs.Lines.{instruction, is_end}
use Rattle.record_table.specs.Walk.{going}
use Rattle.record_read.specs.declared.fault.BitcodeFault.{BitcodeFault}
use Rattle.record_read.specs.declared.fault.BitcodeFault.TheVariants as fault
use Rattle.record_read.specs.declared.texts.Texts as the_texts
use Rattle.record_read.specs.Faults.{Answers, IsFault}
use Rattle.record_read.specs.Fields.{texts_of}
use Rattle.type_read.specs.declared.arena.module_reader.ModuleReader.{ModuleReader}
use Rattle.type_read.specs.Arena.Growing.{Grows}
use Rattle.type_read.specs.Arena.Numbered.{Numbers, IsDeclared}
use Rattle.body_read.specs.Operands.Found.{Always}
use Rattle.body_read.specs.declared.blocks.begun.Begun.{Begun}
use Rattle.body_read.specs.Blocks.Begun.{Follows, Has, IsBody, IsCounted, Means, due_view}

-- what indices stand for outside the body: with so many values and blocks as were counted they stand for these inside
abbrev pub NumbersOutside : ModuleReader → Numbering → Type 0
NumbersOutside m k =
    (values blocks : List LocalName)
    → length values ≡ m.locals.values
    → length blocks ≡ m.locals.blocks
    → Numbers m (record k { values = values; blocks = blocks })

-- the results of lines are called as was counted ahead
abbrev pub AreCounted : the_texts.Texts → Numbering → bodies.Begun → ℕ → List ℕ → Type 0
AreCounted x k s code operands =
    (o : Opcode)
    → nat_eq code 2 ≡ false
    → opcode_of_code (code - 10) ≡ Some o
    → is_end o ≡ false
    → IsCounted k s (judged (instruction (texts_of x) k s.own o) operands)

-- a line in front, none of whose operands are taken, was read behind what was read so far
abbrev pub ReadsOpcode : the_texts.Texts → Numbering → ℕ → Opcode → ModuleReader → Begun → Result (Unit {0}) BitcodeFault → ModuleReader → Begun → Type 0
ReadsOpcode x k count o old before result new after =
    Numbers old k
    → (s : bodies.Begun) (code : ℕ) (operands : List ℕ)
    → old.reader.walk ≡ going operands None
    → old.reader.at ≡ suc s.at
    → Follows count before s
    → (is_end o ≡ false → IsCounted k s (judged (instruction (texts_of x) k s.own o) operands))
    → Answers (λ done t. IsBody k count old new before after s t) (bodies.with_opcode (texts_of x) k count s code operands (Some o)) result

-- a record in front, none of whose operands are taken, was read behind what was read so far
abbrev pub ReadsRecord : the_texts.Texts → Numbering → ℕ → ℕ → ModuleReader → Begun → Result (Unit {0}) BitcodeFault → ModuleReader → Begun → Type 0
ReadsRecord x k count code old before result new after =
    Numbers old k
    → (s : bodies.Begun) (operands : List ℕ)
    → old.reader.walk ≡ going operands None
    → old.reader.at ≡ suc s.at
    → Follows count before s
    → AreCounted x k s code operands
    → Answers (λ done t. IsBody k count old new before after s t) (bodies.with_record (texts_of x) k count s code operands) result

-- what indices stand for in a body of these records
abbrev pub numbering_in : the_texts.Texts → Numbering → ℕ → Records → Numbering
numbering_in x k count inside = let all = bodies.labels (texts_of x) k count inside in record k { values = all.values; blocks = all.blocks }

-- All records of a body were read. What they stand for is what was read, where it may end so.
pub record IsRead (x : the_texts.Texts) (k : Numbering) (count : ℕ) (inside : Records) (old new : ModuleReader) (after : Begun) : Type 0 where
  pub s : bodies.Begun
  pub same : bodies.body (texts_of x) k count old.reader.at inside ≡ bodies.closed_at s s.due
  pub follows : Follows count after s
  pub at : new.reader.at ≡ s.at
  pub has : Always new.growing (λ a. Has new.locals a count after)
  pub means : IsDeclared old k → Always new.growing (λ a. Means a (numbering_in x k count inside) after s)

-- records are refused so, or memory ran out
abbrev pub IsRefused : Answer bodies.Begun → BitcodeFault → Type 0
IsRefused (Ok s) given = given ≡ fault.Memory
IsRefused (Err told) given = IsFault given told

-- all records of a body were read, or the first that breaks a rule refuses it
abbrev pub ReadsRecords : the_texts.Texts → Numbering → ℕ → Records → ModuleReader → Result (Unit {0}) BitcodeFault → ModuleReader → Begun → Type 0
ReadsRecords x k count inside old (Ok done) new after = IsRead x k count inside old new after
ReadsRecords x k count inside old (Err given) new after = IsRefused (bodies.body (texts_of x) k count old.reader.at inside) given

-- the body may end
abbrev pub is_next : bodies.BodyDue → Bool
is_next bodies.NextBlock = true
is_next _ = false

-- what was read so far is a whole body
pub record IsClosed (b : Begun) (body : the_body.Body) : Type 0 where
  pub may : is_next (due_view b.due) ≡ true
  pub blocks : body.blocks ≡ b.blocks.items
  pub results : body.results ≡ b.results.items
  pub few : b.next < 2 ^ 32

-- behind so many records something is due that does not come
pub record IsUnclosed (b : Begun) (at : ℕ) (given : BitcodeFault) : Type 0 where
  pub may_not : is_next (due_view b.due) ≡ false
  pub told : given ≡ fault.BadRecord 12 at 5

-- a body is whole where it may end
abbrev pub Closes : Begun → ℕ → Result the_body.Body BitcodeFault → Type 0
Closes b at (Ok body) = IsClosed b body
Closes b at (Err given) = IsUnclosed b at given

-- the arena got constants alone, and as many entries, values and blocks are counted as before
pub record KeepsCounts (old new : ModuleReader) : Type 0 where
  pub grows : Grows old.growing new.growing
  pub globals : new.globals ≡ old.globals
  pub locals : new.locals ≡ old.locals

-- The body of the arena is that of the records, whatever constants are added later, and names what is there whether or not
-- all entries are declared. So many parameters are named.
pub record IsWhole (k : Numbering) (count : ℕ) (old new : ModuleReader) (body : the_body.Body) (s : bodies.Begun) : Type 0 where
  pub parameters : length s.parameters ≡ count
  pub blocks : IsDeclared old k → Always new.growing (λ a. body_view (trees a.table) (constants_of a) s.parameters body ≡ s.blocks)
  pub known : Always new.growing (λ a. KnowsBody (length a.table.types) (length a.constants) count body)
  pub at : new.reader.at ≡ s.at
