-- For `constants_are_read_back`, `values_are_read_back`, `instructions_are_read_back` and `endings_are_read_back`: the laws of constants and
-- lines as operands.
use Rattle.std.specs.Prelude.{◌≡◌, ℕ, List, ◌++◌, None}
use Rattle.type_table.specs.declared.measure.TheConstants.{NESTING_LIMIT}
use Rattle.type_table.specs.Tree.{Tree}
use Rattle.module_arena.specs.Module.{Instruction, Ending}
use Rattle.record_table.specs.Walk.{going}
use Rattle.record_table.specs.Fields.{Texts, Numbering, label}
use Rattle.record_table.specs.Listed.{IsLabel}
use Rattle.record_table.specs.Lays.{Lays}
use Rattle.record_table.specs.Constants.{constant, value}
use Rattle.record_table.specs.Lines.{instruction, ending, operation_opcode, ending_opcode}
use Rattle.record_table.specs.FittingConstants.{Fits, ValueFits}
use Rattle.record_table.specs.FittingLines.{InstructionFits, EndingFits}

-- a constant that fits its type is read of what it spells
abbrev pub ConstantsAreReadBack : Type 0
ConstantsAreReadBack = (k : Numbering) (t : Tree) → Lays (λ c. Fits k c NESTING_LIMIT t) (constant k t)

-- and so is a value
abbrev pub ValuesAreReadBack : Type 0
ValuesAreReadBack = (k : Numbering) (t : Tree) → Lays (ValueFits k t) (value k t)

-- an instruction that fits is read of what it spells by its opcode, where names and numbers of locals are read back
abbrev pub InstructionsAreReadBack : Type 0
InstructionsAreReadBack = (texts : Texts) (k : Numbering) → ((own : ℕ) → Lays (IsLabel texts own) (label texts own))
    → (own : ℕ) (i : Instruction) → InstructionFits texts k own i
    → (rest : List ℕ)
    → (instruction texts k own (operation_opcode i.operation)).read (going ((instruction texts k own (operation_opcode i.operation)).spell i ++ rest) None)
    ≡ (i, going rest None)

-- and so is an end
abbrev pub EndingsAreReadBack : Type 0
EndingsAreReadBack = (k : Numbering) (e : Ending) → EndingFits k e → (rest : List ℕ)
    → (ending k (ending_opcode e)).read (going ((ending k (ending_opcode e)).spell e ++ rest) None) ≡ (e, going rest None)
