-- Says how the code reads: what is told so far of a stream, and what one more piece of it adds.
use Rattle.std.specs.Prelude.{ℕ, ◌-◌, Bool, List, [], ◌∷◌, ◌++◌, codes, length, take, Option, Some, if◌then◌else◌, slice_get, slice_index_or}
use Rattle.std.specs.Fmt.{decimal}
use Rattle.bit_stream.specs.declared.abbreviation.AbbrevOp.{AbbrevOp}
use Rattle.bit_stream.specs.Abbreviation.{ops_of}
use Rattle.bit_tree.specs.Pieces.{Piece, begun, ended, defines, holds}
use Rattle.bit_dump.specs.declared.counts.CountedKind.TheVariants.{Blocks, Records, Abbreviations}
use Rattle.bit_dump.specs.Tally.{Tally, no_tally, counted}
use Rattle.bit_dump.specs.Text.{indent, operand_text, blob_text, block_line, end_line, definition_line, record_line, summary}

-- whether each entry is told; the ids of the open blocks, the outermost first; the counts; and the text that is not written
pub record Outline : Type 0 where
  pub whole : Bool
  pub unclosed : List ℕ
  pub tally : Tally
  pub text : List ℕ

-- before the first piece
abbrev pub nothing_told : Bool → Outline
nothing_told whole = record { whole = whole; unclosed = []; tally = no_tally; text = [] }

-- the innermost open block
abbrev pub here : List ℕ → Option ℕ
here unclosed = slice_get unclosed (length unclosed - 1)

-- a line, where the whole is told
abbrev pub shown : Bool → List ℕ → List ℕ
shown whole line = if whole then line else []

-- a block begins
abbrev pub after_block : Outline → ℕ → ℕ → ℕ → Outline
after_block o id width words = record {
  whole = o.whole;
  unclosed = o.unclosed ++ id ∷ [];
  tally = counted Blocks o.tally (Some id);
  text = o.text ++ shown o.whole (block_line (length o.unclosed) id width words);
}

-- the innermost block ends
abbrev pub after_end : Outline → Outline
after_end o = record {
  whole = o.whole;
  unclosed = take (length o.unclosed - 1) o.unclosed;
  tally = o.tally;
  text = o.text ++ shown o.whole (end_line (length o.unclosed - 1) (slice_index_or o.unclosed (length o.unclosed - 1) 0));
}

-- an abbreviation is defined
abbrev pub after_definition : Outline → ℕ → List AbbrevOp → Outline
after_definition o id ops = record {
  whole = o.whole;
  unclosed = o.unclosed;
  tally = counted Abbreviations o.tally (here o.unclosed);
  text = o.text ++ shown o.whole (definition_line (length o.unclosed) id ops);
}

-- a record with all its operands
abbrev pub after_record : Outline → (id code : ℕ) → List ℕ → Bool → ℕ → Outline
after_record o id code operands has_blob size = record {
  whole = o.whole;
  unclosed = o.unclosed;
  tally = counted Records o.tally (here o.unclosed);
  text = o.text ++ shown o.whole (record_line (length o.unclosed) id code operands has_blob size);
}

-- one more piece
abbrev pub after : Outline → Piece → Outline
after o (begun id width words) = after_block o id width words
after o ended = after_end o
after o (defines id t) = after_definition o id (ops_of t)
after o (holds id code operands has_blob blob) = after_record o id code operands has_blob (length blob)

-- some pieces
unfoldable pub told : Outline → List Piece → Outline
told o [] = o
told o (p ∷ ps) = told (after o p) ps

-- a record up to its operands, and behind them
unfoldable pub record_head : (depth id code : ℕ) → List ℕ
record_head depth id code = indent depth ++ codes "record " ++ decimal code ++ codes " by " ++ decimal id ++ codes ":"

-- what stands behind the operands of a record: the size of its blob, where it has one
unfoldable pub record_end : Bool → ℕ → List ℕ
record_end has_blob size = blob_text has_blob size ++ codes "\n"

-- more text
abbrev pub with_more : Outline → List ℕ → Outline
with_more o more = record { whole = o.whole; unclosed = o.unclosed; tally = o.tally; text = o.text ++ shown o.whole more }

-- a record begins
abbrev pub after_head : Outline → (id code : ℕ) → Outline
after_head o id code = record {
  whole = o.whole;
  unclosed = o.unclosed;
  tally = counted Records o.tally (here o.unclosed);
  text = o.text ++ shown o.whole (record_head (length o.unclosed) id code);
}

-- one more operand, and some
abbrev pub after_operand : Outline → ℕ → Outline
after_operand o operand = with_more o (operand_text operand)

-- several operands, one after another
unfoldable pub after_operands : Outline → List ℕ → Outline
after_operands o [] = o
after_operands o (n ∷ ns) = after_operands (after_operand o n) ns

-- a record ends
abbrev pub after_close : Outline → Bool → ℕ → Outline
after_close o has_blob size = with_more o (record_end has_blob size)

-- the text is written
abbrev pub emptied : Outline → Outline
emptied o = record { whole = o.whole; unclosed = o.unclosed; tally = o.tally; text = [] }

-- the summary is told
abbrev pub summed : Outline → Outline
summed o = record { whole = o.whole; unclosed = o.unclosed; tally = o.tally; text = o.text ++ summary o.tally }

-- with a text in front
abbrev pub front : List ℕ → Outline → Outline
front w o = record { whole = o.whole; unclosed = o.unclosed; tally = o.tally; text = w ++ o.text }
