-- For `blocks_of`: the rows of the instructions that end a block.
use Rattle.std.specs.Prelude.{false, List, [], ◌∷◌}
use Rattle.ir_terminals.specs.PhraseRows.Row.{Row, PhraseShape, mapped, keep_second, keep_first, pair, alt, many, labelled}
use Rattle.ir_lexer.specs.Ahead.{Located}
use Rattle.ir_tables.specs.declared.opcode.Opcode.TheVariants as op
use Rattle.ir_terminals.specs.declared.limits.Limits.{Limits}
use Rattle.ir_terminals.specs.declared.terminal.Terminal.TheVariants as terminal
use Rattle.ir_terminals.specs.declared.values.Local.{Local}
use Rattle.ir_terminals.specs.Role.{class}
use Rattle.ir_terminals.specs.Terminal.{code}
use Rattle.ir_terminals.specs.Tokens.{word, local_row}
use Rattle.ir_phrases.specs.Constants.Types.{type_shape, value_type_row}
use Rattle.ir_phrases.specs.Constants.Constants.{typed_constant_row}
use Rattle.ir_phrases.specs.Constants.Values.{value_row, typed_value_row}
use Rattle.ir_phrases.specs.Instructions.Tree.{CaseTree, EndingTree, ReturnVoid, Return, Jump, Branch, Switch, Unreachable}
use Rattle.ir_phrases.specs.Instructions.Dropped.{comma_shape, attachments_row}
use Rattle.ir_phrases.specs.Instructions.Operations.{tail_shape}

-- how a target begins
abbrev pub target_shape : PhraseShape
target_shape = record { first = code terminal.LabelWord ∷ []; more = []; empty = false }

-- label LOCAL, by its parts
unfoldable pub target_core : Row Located Local
target_core = keep_second (word terminal.LabelWord) local_row

-- label LOCAL
abbrev pub target_row : Row Located Local
target_row = labelled target_shape target_core

-- , label LOCAL, by its parts
unfoldable pub next_target_core : Row Located Local
next_target_core = keep_second (word terminal.Comma) target_row

-- , label LOCAL
abbrev pub next_target_row : Row Located Local
next_target_row = labelled comma_shape next_target_core

-- TYPE VALUE, the type not `void`
abbrev pub returned_row : Limits → Row Located EndingTree
returned_row limits = mapped (λ v. Return (v.0, v.1)) (pair (value_type_row limits) (value_row limits))

-- void, or TYPE VALUE, by its parts
unfoldable pub return_value_core : Limits → Row Located EndingTree
return_value_core limits = alt class (mapped (λ p. ReturnVoid) (word terminal.Void)) (returned_row limits)

-- void, or TYPE VALUE
abbrev pub return_value_row : Limits → Row Located EndingTree
return_value_row limits = labelled type_shape (return_value_core limits)

-- how `ret` begins and goes on
abbrev pub return_shape : PhraseShape
return_shape = record { first = code (terminal.Opcode op.Ret) ∷ []; more = comma_shape.first; empty = false }

-- ret void, or ret TYPE VALUE, by its parts
unfoldable pub return_core : Limits → Row Located EndingTree
return_core limits = keep_second (word (terminal.Opcode op.Ret)) (keep_first (return_value_row limits) attachments_row)

-- ret void, or ret TYPE VALUE
abbrev pub return_row : Limits → Row Located EndingTree
return_row limits = labelled return_shape (return_core limits)

-- TYPE VALUE , label LOCAL , label LOCAL
abbrev pub condition_row : Limits → Row Located EndingTree
condition_row limits = mapped (λ (condition, (then_to, else_to)). Branch condition then_to else_to) (pair (typed_value_row limits) (pair next_target_row next_target_row))

-- how the targets of a branch begin
abbrev pub branch_target_shape : PhraseShape
branch_target_shape = record { first = code terminal.LabelWord ∷ type_shape.first; more = []; empty = false }

-- label LOCAL, or TYPE VALUE , label LOCAL , label LOCAL, by its parts
unfoldable pub branch_target_core : Limits → Row Located EndingTree
branch_target_core limits = alt class (mapped Jump target_row) (condition_row limits)

-- label LOCAL, or TYPE VALUE , label LOCAL , label LOCAL
abbrev pub branch_target_row : Limits → Row Located EndingTree
branch_target_row limits = labelled branch_target_shape (branch_target_core limits)

-- how `br` begins and goes on
abbrev pub branch_shape : PhraseShape
branch_shape = record { first = code (terminal.Opcode op.Br) ∷ []; more = comma_shape.first; empty = false }

-- br label LOCAL, or br TYPE VALUE , label LOCAL , label LOCAL, by its parts
unfoldable pub branch_core : Limits → Row Located EndingTree
branch_core limits = keep_second (word (terminal.Opcode op.Br)) (keep_first (branch_target_row limits) attachments_row)

-- br label LOCAL, or br TYPE VALUE , label LOCAL , label LOCAL
abbrev pub branch_row : Limits → Row Located EndingTree
branch_row limits = labelled branch_shape (branch_core limits)

-- TYPE CONST , label LOCAL, by its parts
unfoldable pub case_core : Limits → Row Located CaseTree
case_core limits = pair (typed_constant_row limits) next_target_row

-- TYPE CONST , label LOCAL
abbrev pub case_row : Limits → Row Located CaseTree
case_row limits = labelled type_shape (case_core limits)

-- (TYPE CONST , label LOCAL)*
abbrev pub case_list_row : Limits → Row Located (List CaseTree)
case_list_row limits = many class (case_row limits)

-- how the cases of a `switch` begin
abbrev pub cases_shape : PhraseShape
cases_shape = record { first = code terminal.OpenBracket ∷ []; more = []; empty = false }

-- [ (TYPE CONST , label LOCAL)* ], by its parts
unfoldable pub cases_core : Limits → Row Located (List CaseTree)
cases_core limits = keep_second (word terminal.OpenBracket) (keep_first (case_list_row limits) (word terminal.CloseBracket))

-- [ (TYPE CONST , label LOCAL)* ]
abbrev pub cases_row : Limits → Row Located (List CaseTree)
cases_row limits = labelled cases_shape (cases_core limits)

-- , label LOCAL [ (TYPE CONST , label LOCAL)* ] (, MD)*, by its parts
unfoldable pub switch_targets_core : Limits → Row Located (Local × List CaseTree)
switch_targets_core limits = pair next_target_row (keep_first (cases_row limits) attachments_row)

-- , label LOCAL [ (TYPE CONST , label LOCAL)* ] (, MD)*
abbrev pub switch_targets_row : Limits → Row Located (Local × List CaseTree)
switch_targets_row limits = labelled tail_shape (switch_targets_core limits)

-- how `switch` begins and goes on
abbrev pub switch_shape : PhraseShape
switch_shape = record { first = code (terminal.Opcode op.Switch) ∷ []; more = comma_shape.first; empty = false }

-- switch TYPE VALUE , label LOCAL [ (TYPE CONST , label LOCAL)* ], by its parts
unfoldable pub switch_core : Limits → Row Located EndingTree
switch_core limits =
    keep_second (word (terminal.Opcode op.Switch))
    (mapped
    (λ (value, (otherwise, cases)). Switch value otherwise cases)
    (pair (typed_value_row limits) (switch_targets_row limits)))

-- switch TYPE VALUE , label LOCAL [ (TYPE CONST , label LOCAL)* ]
abbrev pub switch_row : Limits → Row Located EndingTree
switch_row limits = labelled switch_shape (switch_core limits)

-- how `unreachable` begins and goes on
abbrev pub unreachable_shape : PhraseShape
unreachable_shape = record { first = code (terminal.Opcode op.Unreachable) ∷ []; more = comma_shape.first; empty = false }

-- unreachable, by its parts
unfoldable pub unreachable_core : Row Located EndingTree
unreachable_core = mapped (λ p. Unreachable) (keep_first (word (terminal.Opcode op.Unreachable)) attachments_row)

-- unreachable
abbrev pub unreachable_row : Row Located EndingTree
unreachable_row = labelled unreachable_shape unreachable_core

-- how the ends of blocks begin and go on
abbrev pub ending_shape : PhraseShape
ending_shape = record {
  first = code (terminal.Opcode op.Ret) ∷ code (terminal.Opcode op.Br) ∷ code (terminal.Opcode op.Switch) ∷ code (terminal.Opcode op.Unreachable) ∷ [];
  more = code terminal.Comma ∷ [];
  empty = false;
}

-- END
unfoldable pub ending_core : Limits → Row Located EndingTree
ending_core limits = alt class (return_row limits) (alt class (branch_row limits) (alt class (switch_row limits) unreachable_row))

-- the instruction that ends a block
abbrev pub ending_row : Limits → Row Located EndingTree
ending_row limits = labelled ending_shape (ending_core limits)
