-- For `read` of bitcode: a body, first the names of its parameters, and then blocks of lines.
use Rattle.std.specs.Prelude.{ℕ, zero, suc, ◌-◌, ◌==◌, ◌&&◌, nat_eq, not, Bool, true, false, List, [], ◌∷◌, ◌++◌, length, flat_map, Option, Some, None, Ok, Err, bytes_eq, slice_index_or, if◌then◌else◌}
use Rattle.std.specs.List.{list_any}
use Rattle.ir_tables.specs.declared.opcode.Opcode.{Opcode}
use Rattle.ir_tables.specs.declared.opcode.Opcode.TheVariants as op
use Rattle.ir_tables.specs.Opcode.{opcode_of_code}
use Rattle.type_table.specs.Tree.{void}
use Rattle.module_arena.specs.Module.{Bytes, LocalName, Named, Numbered, Instruction, Ending, Block}
use Rattle.record_table.specs.Walk.{Walk, going, stopped}
use Rattle.record_table.specs.Layout.{Layout, judged}
use Rattle.record_table.specs.Fields.{Texts, Numbering, label, after}
use Rattle.record_table.specs.Lines.{instruction, ending, is_end}
use Rattle.module_arena.specs.TypeTests.{is_void}
use Rattle.record_table.specs.Faults.{UnknownRecord, BadRecord, Answer, ◌>>=◌, Records, no_more, a_block, a_record, body_id, misplaced, unless_broken, also}

-- so many names one behind the other, the next without a name having that number
unfoldable pub labels_by : Texts → ℕ → ℕ → Walk → List LocalName × Walk
labels_by t own zero w = ([], w)
labels_by t own (suc n) (stopped broken) = ([], stopped broken)
labels_by t own (suc n) (going rest broken) =
    let x = (label t own).read (going rest broken) in let xs = labels_by t (after own x.0) n x.1 in (x.0 ∷ xs.0, xs.1)

-- PARAMS
abbrev pub parameters : Texts → ℕ → Layout (List LocalName)
parameters t count = record { spell = λ names. flat_map (label t 0).spell names; read = λ w. labels_by t 0 count w }

-- the number that the next has behind these
abbrev pub after_all : ℕ → List LocalName → ℕ
after_all own [] = own
after_all own (name ∷ names) = after_all (after own name) names

-- the numbers from one on
unfoldable pub numbers_from : ℕ → ℕ → List LocalName
numbers_from own zero = []
numbers_from own (suc count) = Numbered own ∷ numbers_from (suc own) count

-- these names where they are so many, else numbers
abbrev pub known_or : ℕ → List LocalName → List LocalName
known_or count names = if length names == count then names else numbers_from 0 count

-- the parameters of a body whose function has so many. They stand in its first record
abbrev pub first_parameters : Texts → ℕ → Records → List LocalName
first_parameters t count no_more = numbers_from 0 count
first_parameters t count (a_block id inside behind) = first_parameters t count behind
first_parameters t count (a_record code operands behind) =
    if nat_eq code 1 then known_or count (judged (parameters t count) operands).0 else numbers_from 0 count

-- what a value index and a block index stand for, and the number of the next without a name
pub record Labels : Type 0 where
  pub own : ℕ
  pub values : List LocalName
  pub blocks : List LocalName

-- one more value
abbrev pub with_value : Labels → LocalName → Labels
with_value s name = record { own = after s.own name; values = s.values ++ name ∷ []; blocks = s.blocks }

-- one more block
abbrev pub with_block : Labels → LocalName → Labels
with_block s name = record { own = after s.own name; values = s.values; blocks = s.blocks ++ name ∷ [] }

module _ (texts : Texts) (k : Numbering) where
  -- the name at the front of these operands
  abbrev pub label_in : ℕ → List ℕ → LocalName
  label_in own operands = (judged (label texts own) operands).0

  -- a call has a result where it returns a type, and that is not `void`; the type stands in front of the name
  abbrev pub with_call : Labels → List ℕ → Labels
  with_call s [] = s
  with_call s (t ∷ operands) = if is_void (slice_index_or k.types t void) then s else with_value s (label_in s.own operands)

  -- a line by its opcode: what it declares
  abbrev pub with_line : Labels → List ℕ → Option Opcode → Labels
  with_line s operands None = s
  with_line s operands (Some op.Store) = s
  with_line s operands (Some op.Ret) = s
  with_line s operands (Some op.Br) = s
  with_line s operands (Some op.Switch) = s
  with_line s operands (Some op.Unreachable) = s
  with_line s operands (Some op.Call) = with_call s operands
  with_line s operands (Some o) = with_value s (label_in s.own operands)

  -- records, one by one
  abbrev pub labels_from : Labels → Records → Labels
  labels_from s no_more = s
  labels_from s (a_block id inside behind) = labels_from s behind
  labels_from s (a_record code operands behind) =
      labels_from (if nat_eq code 2 then with_block s (label_in s.own operands) else with_line s operands (opcode_of_code (code - 10))) behind

  -- the labels of a body whose function has so many parameters
  abbrev pub labels : ℕ → Records → Labels
  labels count inside = let names = first_parameters texts count inside in
      labels_from (record { own = after_all 0 names; values = names; blocks = [] }) inside

-- what is due: the parameters, the first block, a line of a block, or another block or the end
pub data BodyDue : Type 0 where
  Parameters : BodyDue
  FirstBlock : BodyDue
  Line : BodyDue
  NextBlock : BodyDue

-- the parameters are due
abbrev pub is_parameters : BodyDue → Bool
is_parameters Parameters = true
is_parameters _ = false

-- a block may begin
abbrev pub is_block : BodyDue → Bool
is_block FirstBlock = true
is_block NextBlock = true
is_block _ = false

-- a line is due
abbrev pub is_line : BodyDue → Bool
is_line Line = true
is_line _ = false

-- what is read so far: how many records of the stream, what is due, the number of the next without a name, the names
-- that are there, the parameters, the blocks that have ended, and the name and the instructions of the one that has not
pub record Begun : Type 0 where
  pub at : ℕ
  pub due : BodyDue
  pub own : ℕ
  pub taken : List Bytes
  pub parameters : List LocalName
  pub blocks : List Block
  pub name : LocalName
  pub instructions : List Instruction

-- nothing is read yet
abbrev pub at_first : ℕ → Begun
at_first at = record { at = at; due = Parameters; own = 0; taken = []; parameters = []; blocks = []; name = Numbered 0; instructions = [] }

-- no name is there already
abbrev pub are_new : List Bytes → List LocalName → Bool
are_new taken [] = true
are_new taken (Numbered n ∷ names) = are_new taken names
are_new taken (Named bytes ∷ names) = not (list_any (bytes_eq bytes) taken) && are_new (bytes ∷ taken) names

-- one more of each name
abbrev pub with_names : List Bytes → List LocalName → List Bytes
with_names taken [] = taken
with_names taken (Numbered n ∷ names) = with_names taken names
with_names taken (Named bytes ∷ names) = with_names (bytes ∷ taken) names

-- the record declares these names, and is a record that may stand here
abbrev pub declaring : {A : Type 0} → Begun → List LocalName → Bool → Option ℕ → A → Answer A
declaring s names may_stand broken x = unless_broken body_id s.at (also 5 may_stand (also 4 (are_new s.taken names) broken)) x

-- PARAMS
abbrev pub with_parameters : Begun → List LocalName × Option ℕ → Answer Begun
with_parameters s x = declaring s x.0 (is_parameters s.due) x.1
    (record s { at = suc s.at; due = FirstBlock; own = after_all s.own x.0; taken = with_names s.taken x.0; parameters = x.0 })

-- the record of a block
abbrev pub with_label : Begun → LocalName × Option ℕ → Answer Begun
with_label s x = declaring s (x.0 ∷ []) (is_block s.due) x.1
    (record s { at = suc s.at; due = Line; own = after s.own x.0; taken = with_names s.taken (x.0 ∷ []); name = x.0; instructions = [] })

-- the names that a result declares
abbrev pub results : Option LocalName → List LocalName
results None = []
results (Some name) = name ∷ []

-- an instruction
abbrev pub with_instruction : Begun → Instruction × Option ℕ → Answer Begun
with_instruction s x = declaring s (results x.0.result) (is_line s.due) x.1
    (record s { at = suc s.at; own = after_all s.own (results x.0.result); taken = with_names s.taken (results x.0.result); instructions = s.instructions ++ x.0 ∷ [] })

-- an end
abbrev pub with_end : Begun → Ending × Option ℕ → Answer Begun
with_end s x = declaring s [] (is_line s.due) x.1
    (record s { at = suc s.at; due = NextBlock; blocks = s.blocks ++ record { name = s.name; instructions = s.instructions; ending = x.0 } ∷ [] })

-- a body is over behind the end of a block; else its parameters, a block or a line of it are missing
abbrev pub closed_at : Begun → BodyDue → Answer Begun
closed_at s NextBlock = Ok s
closed_at s _ = Err (BadRecord body_id s.at 5)

module _ (texts : Texts) (k : Numbering) (count : ℕ) where
  -- a line by its opcode
  abbrev pub with_opcode : Begun → ℕ → List ℕ → Option Opcode → Answer Begun
  with_opcode s code operands None = Err (UnknownRecord body_id code)
  with_opcode s code operands (Some o) =
      if is_end o then with_end s (judged (ending k o) operands) else with_instruction s (judged (instruction texts k s.own o) operands)

  -- a record by its code
  abbrev pub with_record : Begun → ℕ → List ℕ → Answer Begun
  with_record s code operands =
      if nat_eq code 1 then with_parameters s (judged (parameters texts count) operands)
      else (if nat_eq code 2 then with_label s (judged (label texts s.own) operands)
      else with_opcode s code operands (opcode_of_code (code - 10)))

  -- the records of a body, one by one
  abbrev pub body_from : Begun → Records → Answer Begun
  body_from s no_more = closed_at s s.due
  body_from s (a_block id inside behind) = misplaced id s.at
  body_from s (a_record code operands behind) = with_record s code operands >>= λ t. body_from t behind

-- the body of a function of so many parameters, whose block stands behind so many records
abbrev pub body : Texts → Numbering → ℕ → ℕ → Records → Answer Begun
body texts k count at inside = let all = labels texts k count inside in
    body_from texts (record k { values = all.values; blocks = all.blocks }) count (at_first at) inside
