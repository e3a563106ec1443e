-- For `wholes_may_be_written`, `wholes_are_short` and `records_take_bits`: the laws of small wholes.
use Rattle.std.specs.Prelude.{◌<◌, ◌≤◌, ◌*◌, length}
use Rattle.bit_stream.specs.declared.item.TheConstants.{WORDS_LIMIT}
use Rattle.bit_stream.specs.Writer.{begun}
use Rattle.bit_tree.specs.Written.{Written, written, Allowed}
use Rattle.bit_tree.specs.Sizes.Plain.{IsWhole, AreShort, weight}

-- such blocks may be written, where all together have no more words of 32 bits than a block may have
abbrev pub WholesMayBeWritten : Type 0
WholesMayBeWritten = (all : Written) → IsWhole all → length (written begun all).bits < 32 * WORDS_LIMIT → Allowed begun all

-- blocks of bytes have few bytes there
abbrev pub WholesAreShort : Type 0
WholesAreShort = (all : Written) → IsWhole all → length (written begun all).bits < 32 * WORDS_LIMIT → AreShort all

-- each record takes a bit, and each of its operands one
abbrev pub RecordsTakeBits : Type 0
RecordsTakeBits = (all : Written) → weight all ≤ length (written begun all).bits
