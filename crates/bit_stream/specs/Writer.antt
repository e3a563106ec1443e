-- For `enter`, `put_record`, `end_block` and the other calls of `BitWriter`: a writer of a stream, and what its calls
-- add.
use Rattle.std.specs.Prelude.{◌≡◌, ℕ, ◌+◌, ◌-◌, ◌/◌, ◌%◌, ◌^◌, Bool, true, false, List, [], ◌∷◌, ◌++◌, length, take, Option, Some, None, Result, Ok, Err, IsErr, if◌then◌else◌, ◌==◌, ◌&&◌, slice_index_or}
use Rattle.bit_stream.specs.Bits.Bits.{bits_of}
use Rattle.bit_stream.specs.declared.abbreviation.AbbrevOp.{AbbrevOp}
use Rattle.bit_stream.specs.declared.reader.TheConstants.{MAGIC}
use Rattle.bit_stream.specs.Abbreviation.{AdmittedAbbreviation}
use Rattle.bit_stream.specs.Scope.{Scope, top_level, given_to, abbreviation_of}
use Rattle.bit_stream.specs.Entry.{is_blockinfo, entered, block_left, defined, given_for, targeting}
use Rattle.bit_stream.specs.Spelling.{chunks, definition_bits, abbreviation_for, record_bits, with_record, aligned}

-- The bits behind the count of words of the innermost open block, or of the whole stream where none is open; the bits
-- of each block around it, from the stream in, up to the count of words of the block inside it; the abbreviations in
-- force; and whether it is spent.
pub record Writer : Type 0 where
  pub bits : List Bool
  pub around : List (List Bool)
  pub scope : Scope
  pub spent : Bool

-- a stream begins with the bytes 42 43 C0 DE
abbrev pub begun : Writer
begun = record { bits = bits_of 32 MAGIC; around = []; scope = top_level; spent = false }

-- bits are added
abbrev pub write : Writer → List Bool → Writer
write w more = record w { bits = w.bits ++ more }

-- an abbreviation id, as wide as the block says
abbrev pub id_bits : Writer → ℕ → List Bool
id_bits w id = bits_of w.scope.block.width id

-- ENTER_SUBBLOCK up to its count of words
abbrev pub enter : Writer → ℕ → ℕ → Writer
enter w id width = record {
  bits = [];
  around = w.around ++ aligned (w.bits ++ id_bits w 1 ++ chunks 8 id ++ chunks 4 width) ∷ [];
  scope = entered w.scope id width 0 0;
  spent = w.spent;
}

-- the bits of a block with END_BLOCK
abbrev pub ended : Writer → List Bool
ended w = aligned (w.bits ++ id_bits w 0)

-- END_BLOCK: the count of the block's words modulo 2 ^ 32, and its bits, behind those of the block around it
abbrev pub end_block : Writer → Writer
end_block w = record {
  bits = slice_index_or w.around (length w.around - 1) [] ++ bits_of 32 (length (ended w) / 32 % 2 ^ 32) ++ ended w;
  around = take (length w.around - 1) w.around;
  scope = block_left w.scope;
  spent = w.spent;
}

-- a definition, which is the block's own, or, in BLOCKINFO, for the block that it names
abbrev pub defined_in : Scope → Option ℕ → AdmittedAbbreviation → Scope
defined_in s None t = s
defined_in s (Some id) t = given_for s id t

-- an abbreviation is defined, where the definition is one: in BLOCKINFO for its target, else for the innermost block
abbrev pub with_abbreviation : Scope → Option AdmittedAbbreviation → Scope
with_abbreviation s None = s
with_abbreviation s (Some t) = if is_blockinfo s then defined_in s s.block.target t else defined s t

-- the definition of an abbreviation is written
abbrev pub define : Writer → List AbbrevOp → Writer
define w ops = record {
  bits = w.bits ++ id_bits w 2 ++ definition_bits ops;
  around = w.around;
  scope = with_abbreviation w.scope (abbreviation_for ops);
  spent = w.spent;
}

-- how many abbreviations are in force where the next one is defined
abbrev pub given_count : Scope → Option ℕ → ℕ
given_count s None = 0
given_count s (Some id) = length (given_to s.given id)

-- how many abbreviations are in force: in BLOCKINFO those of its target, else those of the innermost block
abbrev pub in_force : Scope → ℕ
in_force s = if is_blockinfo s then given_count s s.block.target else s.block.given + length s.block.own

-- a record of code 1 in BLOCKINFO names the block that definitions are for
abbrev pub naming : Scope → List ℕ → Scope
naming s [] = s
naming s (id ∷ others) = targeting s id

-- what a record makes of the open blocks: in BLOCKINFO the one of code 1 names a block id
abbrev pub after_record : Scope → ℕ → List ℕ → Scope
after_record s code operands = if is_blockinfo s && (code == 1) then naming s operands else s

-- a record is written without an abbreviation
abbrev pub put_record : Writer → ℕ → List ℕ → Writer
put_record w code operands = record {
  bits = w.bits ++ id_bits w 3 ++ record_bits code operands;
  around = w.around;
  scope = after_record w.scope code operands;
  spent = w.spent;
}

-- a record is written by the abbreviation with this id
abbrev pub abbreviated : Writer → ℕ → ℕ → List ℕ → Writer
abbreviated w id code operands = record {
  bits = with_record (abbreviation_of w.scope id) code operands (w.bits ++ id_bits w id);
  around = w.around;
  scope = after_record w.scope code operands;
  spent = w.spent;
}

-- a call wrote what it was to write, or the writer is spent
abbrev pub Wrote : {X E : Type 0} → Writer → Result X E → Writer → Type 0
Wrote expected (Ok x) new = new ≡ expected
Wrote expected (Err e) new = new.spent ≡ true

-- the same of a call at any writer: one that is spent writes nothing more
abbrev pub Writes : {X E : Type 0} → Bool → Writer → Writer → Result X E → Writer → Type 0
Writes true old expected result new = IsErr result × (new ≡ old)
Writes false old expected result new = Wrote expected result new
