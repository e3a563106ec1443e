-- For `blocks_of`: what stands behind commas at the end of an instruction: alignments, further parts, and metadata,
-- which comes last.
use Rattle.std.specs.Prelude.{ℕ, Bool, true, false, cond, List, [], ◌∷◌, ◌++◌, Option, Some, None}
use Rattle.ir_terminals.specs.PhraseRows.Row.{PhraseShape, Row, mapped, keep_second, keep_first, pair, alt, nothing, loop, labelled}
use Rattle.ir_lexer.specs.Ahead.{Located}
use Rattle.ir_terminals.specs.declared.limits.Limits.{Limits}
use Rattle.ir_terminals.specs.declared.terminal.Terminal.TheVariants as terminal
use Rattle.ir_terminals.specs.declared.values.Integer.{Integer}
use Rattle.ir_terminals.specs.Role.{class}
use Rattle.ir_terminals.specs.Tokens.{word, integer_row}
use Rattle.ir_phrases.specs.Constants.Tree.{TypedValueTree}
use Rattle.ir_phrases.specs.Constants.Values.{typed_value_row}
use Rattle.ir_phrases.specs.Instructions.Dropped.{attachment_row, attachments_row, comma_shape, commas_shape}

-- align INT (, MD)*, or MD (, MD)*
abbrev pub alignment_behind_row : Row Located (Option Integer)
alignment_behind_row =
    alt class
    (keep_first (mapped Some (keep_second (word terminal.Align) integer_row)) attachments_row)
    (mapped (λ u. None) (keep_second attachment_row attachments_row))

-- (, align INT)? (, MD)*, by its parts
unfoldable pub alignment_core : Row Located (Option Integer)
alignment_core = alt class (keep_second (word terminal.Comma) alignment_behind_row) (nothing None)

-- (, align INT)? (, MD)*
abbrev pub alignment_row : Row Located (Option Integer)
alignment_row = labelled commas_shape alignment_core

-- TYPE VALUE (, align INT)? (, MD)*, or (align INT)? (, MD)*
abbrev pub count_behind_row : Limits → Row Located (Option TypedValueTree × Option Integer)
count_behind_row limits = alt class (pair (mapped Some (typed_value_row limits)) alignment_row) (mapped (λ a. (None, a)) alignment_behind_row)

-- (, TYPE VALUE)? (, align INT)? (, MD)*, by its parts
unfoldable pub count_core : Limits → Row Located (Option TypedValueTree × Option Integer)
count_core limits = alt class (keep_second (word terminal.Comma) (count_behind_row limits)) (nothing (None, None))

-- (, TYPE VALUE)? (, align INT)? (, MD)*
abbrev pub count_row : Limits → Row Located (Option TypedValueTree × Option Integer)
count_row limits = labelled commas_shape (count_core limits)

-- a part that begins with one of these
abbrev pub part_shape : List ℕ → PhraseShape
part_shape first = record { first = first; more = []; empty = false }

-- the parts so far, and whether metadata has begun
abbrev pub ListedParts : Type 0 → Type 0
ListedParts A = List A × Bool

-- , PART or , MD, and behind MD only that
abbrev pub listed_step : {A : Type 0} → Row Located A → ListedParts A → Row Located (ListedParts A)
listed_step p s =
    keep_second (word terminal.Comma)
    (cond s.1 (mapped (λ u. s) attachment_row)
    (alt class (mapped (λ u. (s.0, true)) attachment_row) (mapped (λ a. (s.0 ++ a ∷ [], false)) p)))

-- (, PART)* (, MD)*, behind these parts, as a loop
unfoldable pub listed_core : {A : Type 0} → Row Located A → List A → Row Located (List A)
listed_core p parts = mapped (λ s. s.0) (loop class comma_shape (listed_step p) (parts, false))

-- (, PART)* (, MD)*, behind these parts
abbrev pub listed_row : {A : Type 0} → Row Located A → List A → Row Located (List A)
listed_row p parts = labelled commas_shape (listed_core p parts)

-- behind a comma: metadata and no part, or a part
abbrev pub part_begins_row : Row Located Bool
part_begins_row = alt class (mapped (λ u. false) (keep_second attachment_row attachments_row)) (nothing true)

-- whether another part follows: the comma before it is read, or the metadata behind the last part
abbrev pub part_ahead_row : Row Located Bool
part_ahead_row = alt class (keep_second (word terminal.Comma) part_begins_row) (nothing false)
