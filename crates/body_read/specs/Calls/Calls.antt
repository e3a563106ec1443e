-- For `read_instruction`: instructions with what their results are called, and the parts of a call.
use Rattle.std.specs.Prelude.{◌≡◌, ℕ, Bool, true, List, [], ◌∷◌, map, flat_map, option_to_list, All, ⊤, Option, Some, None, IfSome}
use Rattle.ir_tables.specs.declared.opcode.Opcode.{Opcode}
use Rattle.ir_tables.specs.declared.opcode.Opcode.TheVariants as op
use Rattle.type_table.specs.Tree.{Tree}
use Rattle.module_arena.specs.declared.entry.LocalName as the_local
use Rattle.module_arena.specs.declared.instruction.Call as the_call
use Rattle.module_arena.specs.declared.instruction.Operand.{Operand}
use Rattle.module_arena.specs.declared.instruction.Value.{Value}
use Rattle.module_arena.specs.Mentions.{result_of}
use Rattle.module_arena.specs.Module as m
use Rattle.module_arena.specs.TypeTests.{is_void}
use Rattle.record_table.specs.Fields.{Texts, Numbering, label, ty}
use Rattle.record_table.specs.Layout.{counted}
use Rattle.record_table.specs.Lines.{instruction, result_by, return_type}
use Rattle.record_table.specs.Walk.{Walk}
use Rattle.record_read.specs.Fields.{IsLocal}
use Rattle.record_read.specs.Reader.{IsBroken, is_broken}
use Rattle.type_read.specs.declared.arena.module_reader.ModuleReader.{ModuleReader}
use Rattle.type_read.specs.Arena.Kept.{IsKnownType, TakesOnly, tree_at}
use Rattle.type_read.specs.Arena.Numbered.{Numbers}
use Rattle.body_read.specs.Operands.Found.{Finds}
use Rattle.body_read.specs.Lines.Kept.{HasInst, operation_in}
use Rattle.body_read.specs.declared.calls.line.ReadLine.{ReadLine}

-- the type that a call returns was read, and nothing else changed; none stands for `void`
pub record ReadsReturned (old new : ModuleReader) (found : Option ℕ) : Type 0 where
  pub takes : TakesOnly old new
  pub known : IsKnownType new found
  pub tree_is : (k : Numbering) → Numbers old k → tree_at old.growing.arena.table found ≡ ((return_type k).read old.reader.walk).0
  pub walk : (k : Numbering) → Numbers old k → new.reader.walk ≡ ((return_type k).read old.reader.walk).1

-- The name that is kept is that of the result; there is none where there is no result, or where a rule is broken.
abbrev pub IsNameOf : Option the_local.LocalName → Option m.LocalName → Walk → Type 0
IsNameOf None None w = ⊤
IsNameOf None (Some name) w = IsBroken w
IsNameOf (Some kept) None w = ⊥
IsNameOf (Some kept) (Some name) w = IsLocal kept name

-- the name of the result of a call was read, where it has one, and nothing else changed
pub record NamesResult (texts : Texts) (own : ℕ) (is_void : Bool) (old new : ModuleReader) (name : Option the_local.LocalName) : Type 0 where
  pub kept : IsNameOf name ((result_by texts own is_void).read old.reader.walk).0 new.reader.walk
  pub rest : new ≡ record old { reader = record old.reader { walk = ((result_by texts own is_void).read old.reader.walk).1 } }
  pub lasts : IsBroken old.reader.walk → IsBroken new.reader.walk

-- the types of the parameters of a call were read, and nothing else changed; none stands for one that is not known
pub record ReadsParameters (old new : ModuleReader) (found : List (Option ℕ)) : Type 0 where
  pub takes : TakesOnly old new
  pub known : All (IsKnownType new) found
  pub trees : (k : Numbering) → Numbers old k → map (tree_at old.growing.arena.table) found ≡ ((counted (ty k)).read old.reader.walk).0
  pub walk : (k : Numbering) → Numbers old k → new.reader.walk ≡ ((counted (ty k)).read old.reader.walk).1

-- the types that are known
abbrev pub only_known : List (Option ℕ) → List ℕ
only_known xs = flat_map option_to_list xs

-- the same, and those that are known are gathered
pub record ReadsBoth (old new : ModuleReader) (found : List (Option ℕ)) (known : List ℕ) : Type 0 where
  pub reads : ReadsParameters old new found
  pub known_are : known ≡ only_known found

-- the type of an argument: that of its parameter, or one that stands in front
abbrev pub argument_type : Numbering → Option Tree → Walk → Tree × Walk
argument_type k (Some t) w = (t, w)
argument_type k None w = (ty k).read w

-- that type was found, and nothing else changed; none stands for one that is not known
pub record TypesArgument (parameter : Option Tree) (old new : ModuleReader) (found : Option ℕ) : Type 0 where
  pub takes : TakesOnly old new
  pub known : IsKnownType new found
  pub tree_is : (k : Numbering) → Numbers old k → tree_at new.growing.arena.table found ≡ (argument_type k parameter old.reader.walk).0
  pub walk : (k : Numbering) → Numbers old k → new.reader.walk ≡ (argument_type k parameter old.reader.walk).1

-- a call of its parts
abbrev pub kept_call : Option ℕ → ℕ × (Bool × (List ℕ × (Value × List Operand))) → the_call.Call
kept_call result (returns, (variadic, (parameters, (callee, arguments)))) =
    record { result = result; signature = record { returns = returns; parameters = parameters; variadic = variadic }; callee = callee; arguments = arguments }

-- the value that a result is, where there is one
abbrev pub ids_of : ℕ → Option the_local.LocalName → List ℕ
ids_of defined None = []
ids_of defined (Some name) = defined ∷ []

-- what an instruction of that opcode does, as its record has it
abbrev pub operation_read : Texts → ℕ → Opcode → Numbering → Walk → m.Operation × Walk
operation_read texts own opcode k w = let i = (instruction texts k own opcode).read w in (i.0.operation, i.1)

-- the walk behind the name of the result, from which on it is read what the instruction does
abbrev pub name_behind : Texts → ℕ → Opcode → Numbering → Walk → Walk
name_behind texts own op.Call k w = let t = (return_type k).read w in ((result_by texts own (is_void t.0)).read t.1).1
name_behind texts own op.Store k w = w
name_behind texts own o k w = ((label texts own).read w).1

-- An instruction was read by the layout of its opcode, and all that it names is there. There is none exactly where a rule is
-- broken. It defines that value where it has a result, and the result is called as its record says: there is no name only
-- where a rule is broken by then.
pub record ReadsLine (texts : Texts) (defined own : ℕ) (opcode : Opcode) (old new : ModuleReader) (line : ReadLine) : Type 0 where
  pub reads : Finds HasInst operation_in (operation_read texts own opcode) old new line.instruction
  pub none : is_broken new.reader.walk ≡ true → line.instruction ≡ None
  pub defines : IfSome line.instruction (λ i. result_of i ≡ ids_of defined line.name)
  pub name : (k : Numbering)
      → Numbers old k
      → IsNameOf line.name
      ((instruction texts k own opcode).read old.reader.walk).0.result
      (name_behind texts own opcode k old.reader.walk)
