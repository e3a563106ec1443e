-- For `what_was_written_is_read`: what a writer is told to write, when its calls may be made, and the tree that was
-- written.
use Rattle.std.specs.Prelude.{◌≡◌, ℕ, ◌+◌, ◌<◌, ◌≤◌, ◌/◌, ◌^◌, ◌++◌, Bool, true, false, List, [], ◌∷◌, length, take, drop, Option, Some, None, IsSome, nat_lt}
use Rattle.std.specs.List.{list_all}
use Rattle.bit_stream.specs.Bits.Bits.{stream_bits}
use Rattle.bit_stream.specs.Bits.Writing.{byte_pad}
use Rattle.bit_stream.specs.declared.abbreviation.TheConstants.{WIDEST_CHUNK}
use Rattle.bit_stream.specs.declared.abbreviation.AbbrevOp.{AbbrevOp}
use Rattle.bit_stream.specs.declared.abbreviation.AbbrevOp.TheVariants.{Literal, Fixed, Vbr, Array, Char6, Blob}
use Rattle.bit_stream.specs.declared.abbreviation.Tail.{Tail}
use Rattle.bit_stream.specs.declared.abbreviation.Tail.TheVariants.{NoTail, Elements, Bytes}
use Rattle.bit_stream.specs.declared.item.TheConstants.{ID_LIMIT, MAX_OPEN, WORDS_LIMIT}
use Rattle.bit_stream.specs.Abbreviation.{AdmittedAbbreviation, is_blob}
use Rattle.bit_stream.specs.Scope.{abbreviation_of}
use Rattle.bit_stream.specs.Record.{names_block}
use Rattle.bit_stream.specs.Entry.{is_top, is_blockinfo}
use Rattle.bit_stream.specs.Spelling.{abbreviation_for, record_fits}
use Rattle.bit_stream.specs.Writer.{Writer, begun, enter, ended, end_block, define, in_force, put_record, abbreviated}
use Rattle.bit_stream.specs.Law.{AreOperands}
use Rattle.bit_tree.specs.Stream.{StreamTree, nothing, block, definition, values, Stream}

-- What is written one behind another: a block, by its id, the width of its abbreviation ids and what is written inside
-- it; a definition, by its operands; a record, by its code and its operands, or by an abbreviation's id as well; and then
-- what is written behind that.
pub data Written : Type 0 where
  no_more : Written
  a_block : ℕ → ℕ → Written → Written → Written
  a_definition : List AbbrevOp → Written → Written
  a_record : ℕ → List ℕ → Written → Written
  a_short_record : ℕ → ℕ → List ℕ → Written → Written

-- the writer behind it
unfoldable pub written : Writer → Written → Writer
written w no_more = w
written w (a_block id width inside behind) = written (end_block (written (enter w id width) inside)) behind
written w (a_definition ops behind) = written (define w ops) behind
written w (a_record code ns behind) = written (put_record w code ns) behind
written w (a_short_record id code ns behind) = written (abbreviated w id code ns) behind

-- of the values behind a record's code, those that are operands, and the bytes of the blob
abbrev pub front_of : Tail → ℕ → List ℕ → List ℕ
front_of NoTail k ns = ns
front_of (Elements s) k ns = ns
front_of Bytes k ns = take k ns

-- what a blob has, of values that are written by an abbreviation with so many operands
abbrev pub back_of : Tail → ℕ → List ℕ → List ℕ
back_of NoTail k ns = []
back_of (Elements s) k ns = []
back_of Bytes k ns = drop k ns

-- the operands of a record that is written by an abbreviation
abbrev pub operands_by : AdmittedAbbreviation → List ℕ → List ℕ
operands_by t ns = front_of t.tail (length t.operands) ns

-- the blob of a record that is written by an abbreviation
abbrev pub blob_by : AdmittedAbbreviation → List ℕ → List ℕ
blob_by t ns = back_of t.tail (length t.operands) ns

-- a definition stands in front, where it is one
abbrev pub with_definition : ℕ → Option AdmittedAbbreviation → StreamTree → StreamTree
with_definition id None behind = behind
with_definition id (Some t) behind = definition id t behind

-- a record stands in front
abbrev pub with_values : ℕ → Option AdmittedAbbreviation → ℕ → List ℕ → StreamTree → StreamTree
with_values id None code ns behind = values id code ns false [] behind
with_values id (Some t) code ns behind = values id code (operands_by t ns) (is_blob t.tail) (blob_by t ns) behind

-- the tree that is written
unfoldable pub tree_of : Writer → Written → StreamTree
tree_of w no_more = nothing
tree_of w (a_block id width inside behind) =
    block id width
    (length (ended (written (enter w id width) inside)) / 32)
    (tree_of (enter w id width) inside)
    (tree_of (end_block (written (enter w id width) inside)) behind)
tree_of w (a_definition ops behind) = with_definition (in_force w.scope + 4) (abbreviation_for ops) (tree_of (define w ops) behind)
tree_of w (a_record code ns behind) = values 3 code ns false [] (tree_of (put_record w code ns) behind)
tree_of w (a_short_record id code ns behind) = with_values id (abbreviation_of w.scope id) code ns (tree_of (abbreviated w id code ns) behind)

-- a block: no more are open at once than may be, and none is inside BLOCKINFO
pub record MayEnter (w : Writer) (id width : ℕ) : Type 0 where
  pub id_small : id < ID_LIMIT
  pub low : 2 ≤ width
  pub high : width ≤ WIDEST_CHUNK
  pub shallow : length w.scope.around < MAX_OPEN
  pub ordinary : is_blockinfo w.scope ≡ false

-- the end of a block: it has no more words than its count can tell
abbrev pub MayEnd : Writer → Type 0
MayEnd w = length (ended w) / 32 < WORDS_LIMIT

-- a literal has 64 bits
abbrev pub is_number : AbbrevOp → Bool
is_number (Literal n) = nat_lt n (2 ^ 64)
is_number (Fixed w) = true
is_number (Vbr w) = true
is_number Array = true
is_number Char6 = true
is_number Blob = true

-- a definition: the format admits it, and in BLOCKINFO a block was named before
pub record MayDefine (w : Writer) (ops : List AbbrevOp) : Type 0 where
  pub inside : is_top w.scope ≡ false
  pub numbers : list_all is_number ops ≡ true
  pub admitted : IsSome (abbreviation_for ops)
  pub named : is_blockinfo w.scope ≡ true → IsSome w.scope.block.target

-- an id of a block is first
abbrev pub NamesFirst : List ℕ → Type 0
NamesFirst [] = ⊥
NamesFirst (id ∷ others) = id < ID_LIMIT

-- a record: one of code 1 in BLOCKINFO names a block
pub record MayPut (w : Writer) (code : ℕ) (ns operands : List ℕ) : Type 0 where
  pub inside : is_top w.scope ≡ false
  pub code_small : code < ID_LIMIT
  pub numbers : AreOperands ns
  pub names : names_block (is_blockinfo w.scope) code ≡ true → NamesFirst operands

-- the operands of a record that is written by an abbreviation or without one
abbrev pub operands_of : Option AdmittedAbbreviation → List ℕ → List ℕ
operands_of None ns = ns
operands_of (Some t) ns = operands_by t ns

-- a record by an abbreviation that it fits
pub record MayAbbreviate (w : Writer) (id code : ℕ) (ns : List ℕ) : Type 0 where
  pub put : MayPut w code ns (operands_of (abbreviation_of w.scope id) ns)
  pub low : 4 ≤ id
  pub narrow : id < 2 ^ w.scope.block.width
  pub fits : record_fits (abbreviation_of w.scope id) code ns ≡ true

-- each call may be made
unfoldable pub Allowed : Writer → Written → Type 0
Allowed w no_more = Unit {0}
Allowed w (a_block id width inside behind) =
    MayEnter w id width × Allowed (enter w id width) inside × MayEnd (written (enter w id width) inside) × Allowed (end_block (written (enter w id width) inside)) behind
Allowed w (a_definition ops behind) = MayDefine w ops × Allowed (define w ops) behind
Allowed w (a_record code ns behind) = MayPut w code ns ns × Allowed (put_record w code ns) behind
Allowed w (a_short_record id code ns behind) = MayAbbreviate w id code ns × Allowed (abbreviated w id code ns) behind

-- the bytes that a writer gives which was told to write this and nothing else
abbrev pub AreBytesOf : Writer → List ℕ → Type 0
AreBytesOf w bytes = stream_bits bytes ≡ w.bits ++ byte_pad (length w.bits)

-- what was written is read as its tree, whatever abbreviations were used
abbrev pub WrittenIsRead : Type 0
WrittenIsRead = (all : Written) (bytes : List ℕ) → Allowed begun all → AreBytesOf (written begun all) bytes → Stream bytes (tree_of begun all)
