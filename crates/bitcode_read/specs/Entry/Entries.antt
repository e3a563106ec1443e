-- For `read_variable`, `read_function` and `read_alias`: the record of an entry.
use Rattle.std.specs.Prelude.{◌≡◌, ◌↔◌, ◌<◌, ◌-◌, ℕ, suc, Bool, true, false, List, length, max, All, Option, Some, None, IfSome, Result, option_to_list}
use Rattle.std.specs.Option.{option_map}
use Rattle.module_arena.specs.declared.entry.GlobalId.{GlobalId}
use Rattle.module_arena.specs.declared.entry.GlobalId.TheVariants as entry
use Rattle.module_arena.specs.Known.{HasGlobal, counts}
use Rattle.module_arena.specs.Lists.{Lists, global_name, name_at}
use Rattle.module_arena.specs.Module as m
use Rattle.module_arena.specs.Module.{Bytes}
use Rattle.module_arena.specs.View.{constant_at, constants_of}
use Rattle.record_table.specs.Faults.{module_id}
use Rattle.record_table.specs.Fields as fields
use Rattle.record_table.specs.Fields.{Texts, Numbering}
use Rattle.record_table.specs.Layout.{judged}
use Rattle.record_table.specs.Records as records
use Rattle.record_table.specs.Walk.{Walk, going}
use Rattle.record_read.specs.declared.fault.BitcodeFault.{BitcodeFault}
use Rattle.record_read.specs.declared.fault.BitcodeFault.TheVariants as fault
use Rattle.record_read.specs.Faults.{Answers}
use Rattle.record_read.specs.Reader.{IsBroken, also_asked, is_broken}
use Rattle.type_read.specs.Fields.{IsNameOf, is_good}
use Rattle.type_read.specs.declared.arena.counts.LocalCounts.{LocalCounts}
use Rattle.type_read.specs.declared.arena.module_reader.ModuleReader.{ModuleReader}
use Rattle.type_read.specs.Arena.Growing.{Grows}
use Rattle.type_read.specs.Arena.Numbered.{Numbers, IsDeclared}
use Rattle.body_read.specs.Operands.Found.{Always, Finds}
use Rattle.bitcode_read.specs.Head.Fronts.{variable_front, function_front, alias_front}
use Rattle.bitcode_read.specs.declared.entry.holding.VariableFields.{VariableFields}

-- The record that was given last stands behind what was read so far, and none of its operands are taken.
pub record IsInFront (texts : Texts) (m : ModuleReader) (s : records.Sofar) (operands : List ℕ) : Type 0 where
  pub numbers : Numbers m s.k
  pub texts_are : s.texts ≡ texts
  pub walk : m.reader.walk ≡ going operands None
  pub at : m.reader.at ≡ suc s.at

-- Whether a name is new is told by the arena, in which entries are declared ahead: it is where no other entry has it. A text
-- that is no name is that of no entry.
pub record IsToldNew (a : Lists) (own : GlobalId) (s : records.Sofar) (name : Bytes) : Type 0 where
  pub told : is_good name ≡ true → (records.is_new s name ≡ true) ↔ ((g : GlobalId) → global_name a g ≡ Some name → g ≡ own)
  pub other : is_good name ≡ false → records.is_new s name ≡ true

-- The arena got constants alone, the record is behind, and nothing else changed.
pub record Passes (old new : ModuleReader) (t : records.Sofar) : Type 0 where
  pub rest : new ≡ record old { growing = new.growing; reader = new.reader }
  pub grows : Grows old.growing new.growing
  pub spent : new.reader.spent ≡ old.reader.spent
  pub left : new.reader.left ≡ old.reader.left
  pub at : new.reader.at ≡ t.at

-- a constant of the arena, or none
abbrev pub HasInitialiser : Lists → Option ℕ → Type 0
HasInitialiser a initialiser = All (λ id. id < length a.constants) (option_to_list initialiser)

-- what a variable is set to
abbrev pub initialiser_in : Lists → Option ℕ → Option m.Constant
initialiser_in a initialiser = option_map (constant_at (constants_of a)) initialiser

-- The record of a variable is read, no rule of which is broken. Its initialiser is there, and where all entries are declared it
-- is the one that is read.
pub record ReadsVariable (texts : Texts) (k : Numbering) (operands : List ℕ) (old new : ModuleReader) (initialiser : Option ℕ) (t : records.Sofar) : Type 0 where
  pub passes : Passes old new t
  pub there : Always new.growing (λ a. HasInitialiser a initialiser)
  pub is : IsDeclared old k → Always new.growing (λ a. initialiser_in a initialiser ≡ (judged (records.variable texts k) operands).0.initialiser)
  pub good : is_good (judged (records.variable texts k) operands).0.name ≡ true
  pub front : is_broken ((variable_front texts (length k.types)).read (going operands None)).1 ≡ false

-- whether the function of a record is defined
abbrev pub told_defined : (Bool × m.Function) × Option ℕ → Bool
told_defined ((defined, function), broken) = defined

-- the function of a record, as a declaration
abbrev pub told_function : (Bool × m.Function) × Option ℕ → m.Function
told_function ((defined, function), broken) = function

-- the record of a function is read: it is defined or not
pub record ReadsFunction (texts : Texts) (k : Numbering) (operands : List ℕ) (old new : ModuleReader) (defined : Bool) (t : records.Sofar) : Type 0 where
  pub passes : Passes old new t
  pub is : defined ≡ told_defined (judged (records.function texts k) operands)
  pub good : is_good (told_function (judged (records.function texts k) operands)).name ≡ true
  pub front : (judged (function_front texts (length k.types)) operands).1 ≡ None

-- The record of an alias is read. Its target is there, and where all entries are declared it is the one that is read.
pub record ReadsAlias (texts : Texts) (k : Numbering) (operands : List ℕ) (old new : ModuleReader) (target : Option GlobalId) (t : records.Sofar) : Type 0 where
  pub passes : Passes old new t
  pub there : IfSome target (HasGlobal (counts new.growing.arena))
  pub is : IsDeclared old k → (g : GlobalId) × (target ≡ Some g) × (name_at new.growing.arena g ≡ (judged (records.alias texts k) operands).0.target)
  pub good : is_good (judged (records.alias texts k) operands).0.name ≡ true
  pub front : is_broken ((alias_front texts (length k.types)).read (going operands None)).1 ≡ false

-- ---- what a call answers

-- of the record of a variable in front, behind so many others, the answer is what its operands say
abbrev pub AnswersVariable : Texts → ModuleReader → (number : ℕ) → (in_order : Bool) → Result (Option ℕ) BitcodeFault → ModuleReader → Type 0
AnswersVariable texts old number in_order answer new =
    (s : records.Sofar) (operands : List ℕ)
    → IsInFront texts old s operands
    → number ≡ length s.variables
    → in_order ≡ records.may_follow s.last records.variables_rank
    → IsToldNew old.growing.arena (entry.Variable number) s (judged (records.variable s.texts s.k) operands).0.name
    → Answers (ReadsVariable s.texts s.k operands old new) (records.variable_record s (judged (records.variable s.texts s.k) operands)) answer

-- of the record of a function
abbrev pub AnswersFunction : Texts → ModuleReader → (number : ℕ) → (in_order : Bool) → Result Bool BitcodeFault → ModuleReader → Type 0
AnswersFunction texts old number in_order answer new =
    (s : records.Sofar) (operands : List ℕ)
    → IsInFront texts old s operands
    → number ≡ length s.functions
    → in_order ≡ records.may_follow s.last records.functions_rank
    → IsToldNew old.growing.arena (entry.Function number) s (records.function_named (judged (records.function s.texts s.k) operands))
    → Answers (ReadsFunction s.texts s.k operands old new) (records.function_record s (judged (records.function s.texts s.k) operands)) answer

-- of the record of an alias, where variables or functions are so many others, whichever are more
abbrev pub AnswersAlias : Texts → ModuleReader → (number others : ℕ) → (in_order : Bool) → Result (Option GlobalId) BitcodeFault → ModuleReader → Type 0
AnswersAlias texts old number others in_order answer new =
    (s : records.Sofar) (operands : List ℕ)
    → IsInFront texts old s operands
    → number ≡ length s.aliases
    → others ≡ max (length s.variables) (length s.functions)
    → in_order ≡ records.may_follow s.last records.aliases_rank
    → IsToldNew old.growing.arena (entry.Alias number) s (judged (records.alias s.texts s.k) operands).0.name
    → Answers (ReadsAlias s.texts s.k operands old new) (records.alias_record s (judged (records.alias s.texts s.k) operands)) answer

-- ---- the end of a record

-- rule 4 is asked of a name: no other entry has it
pub record AsksName (old : ModuleReader) (name : Bytes) (own : GlobalId) (new : ModuleReader) : Type 0 where
  pub is : Bool
  pub asks : new ≡ record old { reader = record old.reader { walk = also_asked 4 is old.reader.walk } }
  pub told : (is ≡ true) ↔ ((g : GlobalId) → global_name old.growing.arena g ≡ Some name → g ≡ own)

-- the same of a name that may be none
abbrev pub AsksNew : ModuleReader → Option Bytes → GlobalId → ModuleReader → Type 0
AsksNew old None own new = new ≡ old
AsksNew old (Some name) own new = AsksName old name own new

-- the record is behind, and nothing else changed
pub record EndsRecord (old new : ModuleReader) : Type 0 where
  pub rest : new ≡ record old { reader = new.reader }
  pub spent : new.reader.spent ≡ old.reader.spent
  pub left : new.reader.left ≡ old.reader.left
  pub at : new.reader.at ≡ old.reader.at

-- a record of the module's block, behind which so many were given, is refused by that rule
abbrev pub IsRefusedAt : ℕ → ℕ → BitcodeFault → Type 0
IsRefusedAt at rule given = given ≡ fault.BadRecord module_id (at - 1) rule

-- ---- the operands of a variable

-- what a variable is set to, as `Finds` says it
abbrev pub HasHeld : LocalCounts → Lists → Option ℕ → Type 0
HasHeld l a initialiser = HasInitialiser a initialiser

-- the same as it is meant
abbrev pub held_in : Numbering → Lists → Option ℕ → Option m.Constant
held_in k a initialiser = initialiser_in a initialiser

-- what is read of a variable's initialiser
abbrev pub initialiser_read : Texts → Numbering → Walk → Option m.Constant × Walk
initialiser_read texts k w = let x = (records.variable texts k).read w in (x.0.initialiser, x.1)

-- The operands of a variable were read. Its name is none exactly where it is none that is good.
pub record ReadsFields (texts : Texts) (old new : ModuleReader) (found : VariableFields) : Type 0 where
  pub name : IsNameOf found.name ((fields.name texts).read old.reader.walk).0
  pub named : found.name ≡ None → IsBroken new.reader.walk
  pub initialiser : Finds HasHeld held_in (initialiser_read texts) old new found.initialiser
  pub front : (k : Numbering) → Numbers old k → is_broken new.reader.walk ≡ false → is_broken ((variable_front texts (length k.types)).read old.reader.walk).1 ≡ false
