-- For `read_ending`: ends of blocks as they are kept, what they name, and what they are.
use Rattle.std.specs.Prelude.{◌≡◌, ◌<◌, ℕ, true, List, length, map, All, Option, Some, None}
use Rattle.ir_tables.specs.declared.opcode.Opcode.{Opcode}
use Rattle.type_table.specs.Tree.{int}
use Rattle.type_table.specs.Types.{trees}
use Rattle.module_arena.specs.declared.instruction.Case as the_case
use Rattle.module_arena.specs.declared.instruction.Ending as the_ending
use Rattle.module_arena.specs.declared.instruction.Ending.TheVariants as kept
use Rattle.module_arena.specs.declared.instruction.Operand.{Operand}
use Rattle.module_arena.specs.Lists.{Lists}
use Rattle.module_arena.specs.Mentions.{end_operands_of, targets_of}
use Rattle.module_arena.specs.Module as m
use Rattle.module_arena.specs.View.{constants_of, case_view, ending_view}
use Rattle.record_table.specs.Constants.{value}
use Rattle.record_table.specs.Fields.{Numbering, block}
use Rattle.record_table.specs.Layout.{◌&◌}
use Rattle.record_table.specs.Lines.{ending, operand}
use Rattle.record_table.specs.Walk.{Walk}
use Rattle.record_read.specs.Reader.{is_broken}
use Rattle.type_read.specs.declared.arena.counts.LocalCounts.{LocalCounts}
use Rattle.type_read.specs.declared.arena.module_reader.ModuleReader.{ModuleReader}
use Rattle.body_read.specs.Operands.Found.{Finds, HasBlock, HasOperand, HasType}

-- ---- what the arena and the body have

-- the operands and the blocks of an end
pub record HasEnding (l : LocalCounts) (a : Lists) (e : the_ending.Ending) : Type 0 where
  pub operands : All (HasOperand l a) (end_operands_of e)
  pub targets : All (HasBlock l a) (targets_of e)

-- the type, the constant and the block of a case
pub record HasCase (l : LocalCounts) (a : Lists) (c : the_case.Case) : Type 0 where
  pub ty : HasType l a c.ty
  pub value : c.value < length a.constants
  pub target : HasBlock l a c.target

-- those of several cases
abbrev pub HaveCases : LocalCounts → Lists → List the_case.Case → Type 0
HaveCases l a cs = All (HasCase l a) cs

-- ---- what it is

-- the end that is kept so
abbrev pub ending_in : Numbering → Lists → the_ending.Ending → m.Ending
ending_in k a e = ending_view (trees a.table) (constants_of a) k.values k.blocks e

-- the case that is kept so
abbrev pub case_in : Numbering → Lists → the_case.Case → m.Case
case_in k a c = case_view (trees a.table) (constants_of a) k.values k.blocks c

-- the cases that are kept so
abbrev pub cases_in : Numbering → Lists → List the_case.Case → List m.Case
cases_in k a cs = map (case_in k a) cs

-- ---- ends of their parts

-- a return of what is written, if anything is
abbrev pub kept_return : Option Operand → the_ending.Ending
kept_return None = kept.ReturnVoid
kept_return (Some v) = kept.Return v

-- a branch by a condition
abbrev pub kept_branch : Operand × (ℕ × ℕ) → the_ending.Ending
kept_branch (c, (a, b)) = kept.Branch c a b

-- a case of a switch
abbrev pub kept_case : ℕ × (ℕ × ℕ) → the_case.Case
kept_case (t, (v, b)) = record { ty = t; value = v; target = b }

-- a switch
abbrev pub kept_switch : Operand × (ℕ × List the_case.Case) → the_ending.Ending
kept_switch (v, (b, cs)) = kept.Switch v b cs

-- a condition and two blocks, behind the number that says that they follow
abbrev pub condition : Numbering → Walk → m.Ending × Walk
condition k w = let ((c, (then_to, else_to)), behind) = (value k (int 1) & block k & block k).read w in (m.Branch (operand (int 1) c) then_to else_to, behind)

-- An end was read by the layout of its opcode, and all that it names is there. There is none exactly where a rule is broken.
pub record ReadsEnding (opcode : Opcode) (old new : ModuleReader) (found : Option the_ending.Ending) : Type 0 where
  pub reads : Finds HasEnding ending_in (λ k. (ending k opcode).read) old new found
  pub none : is_broken new.reader.walk ≡ true → found ≡ None
