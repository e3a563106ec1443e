-- For `read_items`: what stands before the type of a variable, an alias or a function.
use Rattle.std.specs.Prelude.{false, [], ◌∷◌, Option}
use Rattle.ir_terminals.specs.PhraseRows.Row.{Row, PhraseShape, keep_first, pair, alt, optional, loop, labelled}
use Rattle.ir_lexer.specs.Ahead.{Located}
use Rattle.ir_tables.specs.declared.linkage.Linkage.{Linkage}
use Rattle.ir_terminals.specs.declared.terminal.Terminal.TheVariants as terminal
use Rattle.ir_terminals.specs.declared.values.PlacedName.{PlacedName}
use Rattle.ir_terminals.specs.Role.{class}
use Rattle.ir_terminals.specs.Terminal.{code, linkage_class}
use Rattle.ir_terminals.specs.Tokens.{word, global_name_row, linkage_row}
use Rattle.ir_phrases.specs.Instructions.Dropped.{dropped}

-- LINKAGE?
abbrev pub optional_linkage_row : Row Located (Option Linkage)
optional_linkage_row = optional class linkage_row

-- how a word begins that is dropped
abbrev pub global_word_shape : PhraseShape
global_word_shape = record { first = code terminal.GlobalDropped ∷ code terminal.UnnamedAddress ∷ []; more = []; empty = false }

-- GDROP
abbrev pub global_word_row : Row Located (Unit {0})
global_word_row = alt class (dropped (word terminal.GlobalDropped)) (dropped (word terminal.UnnamedAddress))

-- GDROP*
abbrev pub global_words_row : Row Located (Unit {0})
global_words_row = loop class global_word_shape (λ u. global_word_row) tt

-- what a variable or an alias is called, and its linkage where that is written
abbrev pub GlobalHead : Type 0
GlobalHead = PlacedName × Option Linkage

-- how the head of a variable or an alias begins and goes on
abbrev pub global_head_shape : PhraseShape
global_head_shape = record { first = code terminal.GlobalName ∷ []; more = linkage_class ∷ global_word_shape.first; empty = false }

-- GLOBAL = LINKAGE? GDROP*, by its parts
unfoldable pub global_head_core : Row Located GlobalHead
global_head_core = pair (keep_first global_name_row (word terminal.Equals)) (keep_first optional_linkage_row global_words_row)

-- GLOBAL = LINKAGE? GDROP*
abbrev pub global_head_row : Row Located GlobalHead
global_head_row = labelled global_head_shape global_head_core
