-- For `abbreviation` of `AdmittedAbbreviation` and `is_blob` of `Tail`: an abbreviation that the format admits, and the operands
-- that define it.
use Rattle.std.specs.Prelude.{Bool, true, false, List, [], ◌∷◌, ◌++◌, Option, Some, None, map}
use Rattle.bit_stream.specs.declared.abbreviation.AbbrevOp.{AbbrevOp}
use Rattle.bit_stream.specs.declared.abbreviation.AbbrevOp.TheVariants.{Literal, Fixed, Vbr, Array, Char6, Blob}
use Rattle.bit_stream.specs.declared.abbreviation.ValueSpelling.{ValueSpelling}
use Rattle.bit_stream.specs.declared.abbreviation.ValueSpelling.TheVariants.{Known, Field, Chunks, Letter}
use Rattle.bit_stream.specs.declared.abbreviation.Tail.{Tail}
use Rattle.bit_stream.specs.declared.abbreviation.Tail.TheVariants.{NoTail, Elements, Bytes}

-- how the code of a record is spelled, how each operand, and what follows them
pub record AdmittedAbbreviation : Type 0 where
  pub code : ValueSpelling
  pub operands : List ValueSpelling
  pub tail : Tail

-- the operand that defines a value; a width of 0 has become the literal 0
abbrev pub op_of : ValueSpelling → AbbrevOp
op_of (Known number) = Literal number
op_of (Field width) = Fixed width
op_of (Chunks width) = Vbr width
op_of Letter = Char6

-- the operands that define what follows the values
abbrev pub tail_ops : Tail → List AbbrevOp
tail_ops NoTail = []
tail_ops (Elements s) = Array ∷ op_of s ∷ []
tail_ops Bytes = Blob ∷ []

-- the operands that define an abbreviation, that of the code first
abbrev pub ops_of : AdmittedAbbreviation → List AbbrevOp
ops_of t = op_of t.code ∷ (map op_of t.operands ++ tail_ops t.tail)

-- whether a record by an abbreviation ends in a blob
abbrev pub is_blob : Tail → Bool
is_blob NoTail = false
is_blob (Elements s) = false
is_blob Bytes = true

-- there is an abbreviation, and its last operand is a blob
abbrev pub ends_in_blob : Option AdmittedAbbreviation → Bool
ends_in_blob None = false
ends_in_blob (Some t) = is_blob t.tail
