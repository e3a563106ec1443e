-- For `dump`: which text a tree is told by.
use Rattle.std.specs.Prelude.{ℕ, zero, suc, Bool, true, false, List, [], ◌∷◌, ◌++◌, length, codes, if◌then◌else◌, None}
use Rattle.std.specs.List.{flat_map}
use Rattle.std.specs.Fmt.{decimal}
use Rattle.bit_stream.specs.declared.abbreviation.AbbrevOp.{AbbrevOp}
use Rattle.bit_stream.specs.declared.abbreviation.AbbrevOp.TheVariants.{Literal, Fixed, Vbr, Array, Char6, Blob}
use Rattle.bit_stream.specs.Abbreviation.{ops_of}
use Rattle.bit_tree.specs.Stream.{StreamTree, nothing, block, definition, values}
use Rattle.bit_dump.specs.declared.counts.StreamCounts.{StreamCounts}
use Rattle.bit_dump.specs.Tally.{Tally, no_tally, tally}

-- two spaces for each block that is open
unfoldable pub indent : ℕ → List ℕ
indent zero = []
indent (suc depth) = indent depth ++ codes "  "

-- an operand of a definition
abbrev pub op_text : AbbrevOp → List ℕ
op_text (Literal number) = codes "literal " ++ decimal number
op_text (Fixed width) = codes "fixed " ++ decimal width
op_text (Vbr width) = codes "vbr " ++ decimal width
op_text Array = codes "array"
op_text Char6 = codes "char6"
op_text Blob = codes "blob"

-- operands, with a comma and a space between each two
abbrev pub later_op : AbbrevOp → List ℕ
later_op op = codes ", " ++ op_text op

-- the operands of a definition, with commas between them
unfoldable pub ops_text : List AbbrevOp → List ℕ
ops_text [] = []
ops_text (op ∷ ops) = op_text op ++ flat_map later_op ops

-- `block ID width W words C`
unfoldable pub block_line : (depth id width words : ℕ) → List ℕ
block_line depth id width words = indent depth ++ codes "block " ++ decimal id ++ codes " width " ++ decimal width ++ codes " words " ++ decimal words ++ codes "\n"

-- `end ID`
unfoldable pub end_line : (depth id : ℕ) → List ℕ
end_line depth id = indent depth ++ codes "end " ++ decimal id ++ codes "\n"

-- `abbreviation ID: OPS`
unfoldable pub definition_head : (depth id : ℕ) → List ℕ
definition_head depth id = indent depth ++ codes "abbreviation " ++ decimal id ++ codes ": "

-- the line of a definition
unfoldable pub definition_line : (depth id : ℕ) → List AbbrevOp → List ℕ
definition_line depth id ops = definition_head depth id ++ ops_text ops ++ codes "\n"

-- a space and the number
abbrev pub operand_text : ℕ → List ℕ
operand_text number = codes " " ++ decimal number

-- ` blob N`, its count of bytes, where the record ends in a blob
abbrev pub blob_text : Bool → ℕ → List ℕ
blob_text true size = codes " blob " ++ decimal size
blob_text false size = []

-- `record CODE by A:`, its operands and its blob
unfoldable pub record_line : (depth id code : ℕ) → List ℕ → Bool → ℕ → List ℕ
record_line depth id code operands has_blob size =
    indent depth ++ codes "record " ++ decimal code ++ codes " by " ++ decimal id ++ codes ":" ++ flat_map operand_text operands ++ blob_text has_blob size ++ codes "\n"

-- the entries and definitions in the order of the stream, a line each and one more at the end of a block
unfoldable pub lines : ℕ → StreamTree → List ℕ
lines depth nothing = []
lines depth (block id width words inside behind) = block_line depth id width words ++ lines (suc depth) inside ++ end_line depth id ++ lines depth behind
lines depth (definition id t behind) = definition_line depth id (ops_of t) ++ lines depth behind
lines depth (values id code operands has_blob blob behind) = record_line depth id code operands has_blob (length blob) ++ lines depth behind

-- `B blocks, R records, A abbreviations`
unfoldable pub counts_line : StreamCounts → List ℕ
counts_line c = decimal c.blocks ++ codes " blocks, " ++ decimal c.records ++ codes " records, " ++ decimal c.abbreviations ++ codes " abbreviations\n"

-- `block ID: ` and the counts of that id
unfoldable pub row_line : ℕ × StreamCounts → List ℕ
row_line (id, counts) = codes "block " ++ decimal id ++ codes ": " ++ counts_line counts

-- a line for each block id, the ids ascending, and one for all
unfoldable pub summary : Tally → List ℕ
summary t = flat_map row_line t.rows ++ codes "total: " ++ counts_line t.total

-- the entries and definitions, where the whole is asked for, and then always the summary
unfoldable pub dump_text : StreamTree → Bool → List ℕ
dump_text tree whole = (if whole then lines 0 tree else []) ++ summary (tally None tree no_tally)
