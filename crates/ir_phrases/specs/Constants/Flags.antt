-- For `flags_of`: the flags of an opcode: which it may have, in any order, each once.
use Rattle.std.specs.Prelude.{ℕ, true, false, not, ◌&&◌, [], ◌∷◌, cond, Option, Some, None}
use Rattle.ir_terminals.specs.PhraseRows.Row.{Row, PhraseShape, one, loop, labelled}
use Rattle.ir_lexer.specs.Ahead.{Located}
use Rattle.ir_tables.specs.declared.opcode.Opcode.{Opcode}
use Rattle.ir_tables.specs.declared.flag.Flag.{Flag}
use Rattle.ir_tables.specs.MayHave.{may_have}
use Rattle.ir_tables.specs.Flags.{has_flag, flags_with}
use Rattle.ir_terminals.specs.Role.{class}
use Rattle.ir_terminals.specs.Terminal.{flag_class}
use Rattle.ir_terminals.specs.Values.{flag_of}

-- the flags with one more, where the opcode may have it and it is not there yet
abbrev pub with_flag : Opcode → ℕ → Option Flag → Option ℕ
with_flag opcode flags None = None
with_flag opcode flags (Some f) = cond (may_have opcode f && not (has_flag flags f)) (Some (flags_with flags f)) None

-- how a flag begins
abbrev pub flag_shape : PhraseShape
flag_shape = record { first = flag_class ∷ []; more = []; empty = false }

-- FLAG
abbrev pub flag_step : Opcode → ℕ → Row Located ℕ
flag_step opcode flags = one class (flag_class ∷ []) (λ t. with_flag opcode flags (flag_of t))

-- FLAG*
unfoldable pub flags_core : Opcode → Row Located ℕ
flags_core opcode = loop class flag_shape (flag_step opcode) 0

-- how flags begin and go on
abbrev pub flags_shape : PhraseShape
flags_shape = record { first = flag_class ∷ []; more = flag_class ∷ []; empty = true }

-- FLAG*, each that the opcode may have, once
abbrev pub flags_row : Opcode → Row Located ℕ
flags_row opcode = labelled flags_shape (flags_core opcode)
