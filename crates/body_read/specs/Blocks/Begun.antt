-- For `read_parameters`, `read_block`, `read_line` and `read_end`: a body in the making, and what each record of a body adds to it.
use Rattle.std.specs.Prelude.{◌≡◌, ◌+◌, ℕ, suc, true, false, List, [], ◌∷◌, ◌++◌, length, map, flat_map, All, Option, Some, None, Result, slice_index_or, option_to_list, OnOk, Bool}
use Rattle.ir_tables.specs.declared.opcode.Opcode.{Opcode}
use Rattle.type_table.specs.Types.{trees}
use Rattle.module_arena.specs.declared.entry.Block as the_block
use Rattle.module_arena.specs.declared.entry.LocalName as the_local
use Rattle.module_arena.specs.declared.entry.LocalName.TheVariants as the_name
use Rattle.module_arena.specs.declared.instruction.Ending as the_ending
use Rattle.module_arena.specs.declared.instruction.Inst.{Inst}
use Rattle.module_arena.specs.Known.{KnowsBlock, upto}
use Rattle.module_arena.specs.Lists.{Lists}
use Rattle.module_arena.specs.Mentions.{block_results, result_of}
use Rattle.module_arena.specs.Module as m
use Rattle.module_arena.specs.View.{block_view, constants_of, inst_view, local_view}
use Rattle.record_table.specs.Bodies as bodies
use Rattle.record_table.specs.Faults.{Answer}
use Rattle.record_table.specs.Fields.{Numbering, label}
use Rattle.record_table.specs.Layout.{judged}
use Rattle.record_table.specs.Lines.{ending, instruction}
use Rattle.record_table.specs.Walk.{going}
use Rattle.record_law.specs.Labels.Laws.{opened, results_in, results_of}
use Rattle.record_read.specs.declared.fault.BitcodeFault.{BitcodeFault}
use Rattle.record_read.specs.declared.texts.Texts as the_texts
use Rattle.record_read.specs.Faults.{Answers}
use Rattle.record_read.specs.Fields.{texts_of}
use Rattle.type_read.specs.declared.arena.counts.LocalCounts.{LocalCounts}
use Rattle.type_read.specs.declared.arena.module_reader.ModuleReader.{ModuleReader}
use Rattle.type_read.specs.Arena.Growing.{Grows}
use Rattle.type_read.specs.Arena.Numbered.{Numbers, IsDeclared}
use Rattle.body_read.specs.Operands.Found.{Always}
use Rattle.body_read.specs.Lines.Kept.{HasInst}
use Rattle.body_read.specs.Names.Called.{AreNames, Calls}
use Rattle.body_read.specs.declared.names.called.BodyNames.{BodyNames}
use Rattle.body_read.specs.declared.blocks.begun.Begun.{Begun}
use Rattle.body_read.specs.declared.blocks.begun.BodyDue as the_due
use Rattle.body_read.specs.declared.blocks.begun.BodyDue.TheVariants as due

-- what is due
abbrev pub due_view : the_due.BodyDue → bodies.BodyDue
due_view due.Parameters = bodies.Parameters
due_view due.FirstBlock = bodies.FirstBlock
due_view due.Line = bodies.Line
due_view due.NextBlock = bodies.NextBlock

-- ---- a body in the making

-- nothing was read
pub record StartsEmpty (b : Begun) : Type 0 where
  pub due_is : b.due ≡ due.Parameters
  pub next : b.next ≡ 0
  pub own : b.names.own ≡ 0
  pub taken : b.names.taken.keys ≡ []
  pub strange : b.names.strange ≡ false
  pub name : b.name ≡ the_name.Numbered 0
  pub instructions : b.instructions.items ≡ []
  pub blocks : b.blocks.items ≡ []
  pub results : b.results.items ≡ []

-- a block begins, and has no instruction yet
pub record Begins (old : Begun) (name : the_local.LocalName) (new : Begun) : Type 0 where
  pub instructions : new.instructions.items ≡ []
  pub rest : new ≡ record old { due = due.Line; name = name; instructions = new.instructions }

-- one more instruction of the block that has not ended
pub record Pushes (old : Begun) (i : Inst) (new : Begun) : Type 0 where
  pub instructions : new.instructions.items ≡ old.instructions.items ++ i ∷ []
  pub rest : new ≡ record old { instructions = new.instructions }

-- one more result
pub record AddsResult (old : Begun) (name : the_local.LocalName) (new : Begun) : Type 0 where
  pub next : new.next ≡ old.next + 1
  pub results : new.results.items ≡ old.results.items ++ name ∷ []
  pub rest : new ≡ record old { next = new.next; results = new.results }

-- one more instruction of the block that has not ended, with what its result is called
pub record Adds (old : Begun) (i : Inst) (name : Option the_local.LocalName) (new : Begun) : Type 0 where
  pub instructions : new.instructions.items ≡ old.instructions.items ++ i ∷ []
  pub next : new.next ≡ old.next + length (option_to_list name)
  pub results : new.results.items ≡ old.results.items ++ option_to_list name
  pub rest : new ≡ record old { next = new.next; instructions = new.instructions; results = new.results }

-- the same, where there is an instruction
abbrev pub AddsLine : {E : Type 0} → Begun → Option Inst → Option the_local.LocalName → Result (Unit {0}) E → Begun → Type 0
AddsLine old instruction name result new = (i : Inst) → instruction ≡ Some i → OnOk result (Adds old i name new)

-- what is known to be called so is called so from now on, and the name was new or not
abbrev pub CallsKept : BodyNames → Option the_local.LocalName → Bool → BodyNames → Type 0
CallsKept old None is_new new = (is_new ≡ true) × (new ≡ old)
CallsKept old (Some name) is_new new = Calls old (Some name) is_new new

-- the block that has not ended ends
pub record Ends (old : Begun) (end : the_ending.Ending) (new : Begun) : Type 0 where
  pub instructions : new.instructions.items ≡ []
  pub blocks : new.blocks.items ≡ old.blocks.items ++ record { name = old.name; instructions = old.instructions.items; end = end } ∷ []
  pub name : new.name ≡ the_name.Numbered 0
  pub rest : new ≡ record old { due = due.NextBlock; name = new.name; instructions = new.instructions; blocks = new.blocks }

-- ---- what it is

-- the names of the results so far
abbrev pub results_so_far : bodies.Begun → List m.LocalName
results_so_far s = results_of s.blocks ++ results_in (opened s.due s.instructions)

-- what a block is called
abbrev pub block_called : the_block.Block → m.LocalName
block_called b = local_view b.name

-- what was read so far, but for what it does
pub record Follows (count : ℕ) (b : Begun) (s : bodies.Begun) : Type 0 where
  pub due_is : due_view b.due ≡ s.due
  pub names : AreNames b.names s.own s.taken
  pub ordinary : b.names.strange ≡ false
  pub name : s.due ≡ bodies.Line → local_view b.name ≡ s.name
  pub blocks : map block_called b.blocks.items ≡ map (λ (c : m.Block). c.name) s.blocks
  pub results : map local_view b.results.items ≡ results_so_far s
  pub counted : (s.due ≡ bodies.Parameters → ⊥) → length s.parameters ≡ count
  pub next : (s.due ≡ bodies.Parameters → ⊥) → b.next ≡ count + length b.results.items
  -- no instruction is kept but in a block that has not ended
  pub closed : opened s.due b.instructions.items ≡ b.instructions.items
  -- and nothing is there before the parameters
  pub first : s.due ≡ bodies.Parameters → (b.results.items ≡ []) × (s.own ≡ 0)

-- what it does, by the ids of the arena
pub record Means (a : Lists) (k : Numbering) (b : Begun) (s : bodies.Begun) : Type 0 where
  pub blocks : map (block_view (trees a.table) (constants_of a) k.values k.blocks) b.blocks.items ≡ s.blocks
  pub instructions : map (inst_view (trees a.table) (constants_of a) k.values k.blocks) b.instructions.items ≡ opened s.due s.instructions

-- What it names is there, whether or not all entries are declared, and its results are numbered in order behind so many
-- parameters.
pub record Has (l : LocalCounts) (a : Lists) (count : ℕ) (b : Begun) : Type 0 where
  pub blocks : All (KnowsBlock (length a.table.types) (length a.constants) l.values l.blocks) b.blocks.items
  pub instructions : All (HasInst l a) b.instructions.items
  pub in_order : flat_map block_results b.blocks.items ++ flat_map result_of b.instructions.items ≡ upto count (length b.results.items)

-- ---- what a record adds

-- the arena got constants alone, and the reader is behind the record
pub record Passes (old new : ModuleReader) : Type 0 where
  pub grows : Grows old.growing new.growing
  pub globals : new.globals ≡ old.globals
  pub locals : new.locals ≡ old.locals
  pub spent : new.reader.spent ≡ old.reader.spent
  pub left : new.reader.left ≡ old.reader.left
  pub at : new.reader.at ≡ old.reader.at

-- what was read so far is this
pub record IsBody (k : Numbering) (count : ℕ) (old new : ModuleReader) (before after : Begun) (s t : bodies.Begun) : Type 0 where
  pub passes : Passes old new
  pub follows : Follows count after t
  pub at : t.at ≡ suc s.at
  pub has : Always old.growing (λ a. Has old.locals a count before) → Always new.growing (λ a. Has new.locals a count after)
  pub means : IsDeclared old k → Always old.growing (λ a. Means a k before s) → Always new.growing (λ a. Means a k after t)

-- A record was read behind what was read so far, and answers as the records say.
abbrev pub ReadsOne : Numbering → ℕ → (bodies.Begun → List ℕ → Answer bodies.Begun) → ModuleReader → Begun
    → Result (Unit {0}) BitcodeFault → ModuleReader → Begun → Type 0
ReadsOne k count answer old before result new after =
    Numbers old k → (s : bodies.Begun) (operands : List ℕ) → old.reader.walk ≡ going operands None → old.reader.at ≡ suc s.at → Follows count before s
    → Answers (λ done t. IsBody k count old new before after s t) (answer s operands) result

-- the names of the parameters
abbrev pub ReadsParameters : the_texts.Texts → Numbering → ℕ → ModuleReader → Begun → Result (Unit {0}) BitcodeFault → ModuleReader → Begun → Type 0
ReadsParameters x k count = ReadsOne k count (λ s operands. bodies.with_parameters s (judged (bodies.parameters (texts_of x) count) operands))

-- the name of a block
abbrev pub ReadsBlock : the_texts.Texts → Numbering → ℕ → ModuleReader → Begun → Result (Unit {0}) BitcodeFault → ModuleReader → Begun → Type 0
ReadsBlock x k count = ReadsOne k count (λ s operands. bodies.with_label s (judged (label (texts_of x) s.own) operands))

-- the end of a block
abbrev pub ReadsEnd : Numbering → ℕ → Opcode → ModuleReader → Begun → Result (Unit {0}) BitcodeFault → ModuleReader → Begun → Type 0
ReadsEnd k count o = ReadsOne k count (λ s operands. bodies.with_end s (judged (ending k o) operands))

-- the result of an instruction is called as the value of its index is, where these were counted ahead
abbrev pub IsCounted : Numbering → bodies.Begun → m.Instruction × Option ℕ → Type 0
IsCounted k s (i, broken) = s.due ≡ bodies.Line → broken ≡ None
    → (name : m.LocalName) → i.result ≡ Some name
    → slice_index_or k.values (length s.parameters + length (results_so_far s)) (m.Numbered 0) ≡ name

-- an instruction
abbrev pub ReadsInstruction : the_texts.Texts → Numbering → ℕ → Opcode → ModuleReader → Begun → Result (Unit {0}) BitcodeFault → ModuleReader → Begun → Type 0
ReadsInstruction x k count o old before result new after =
    Numbers old k → (s : bodies.Begun) (operands : List ℕ) → old.reader.walk ≡ going operands None → old.reader.at ≡ suc s.at
    → Follows count before s
    → IsCounted k s (judged (instruction (texts_of x) k s.own o) operands)
    → Answers (λ done t. IsBody k count old new before after s t) (bodies.with_instruction s (judged (instruction (texts_of x) k s.own o) operands)) result
