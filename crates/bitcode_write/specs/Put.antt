-- Says how the code of `write` reads: what is written from call to call.
use Rattle.std.specs.Prelude.{◌≡◌, ◌<◌, false, List, [], length}
use Rattle.bit_stream.specs.Writer.{Writer}
use Rattle.bit_tree.specs.Written.{Written, no_more, written}
use Rattle.record_table.specs.Spelling as spelling

-- in a block, where no call failed
pub record IsOpen (w : Writer) : Type 0 where
  pub unspent : w.spent ≡ false
  pub inside : 0 < length w.around

-- outside of all blocks, where no call failed and no BLOCKINFO gave an abbreviation
pub record IsOutside (w : Writer) : Type 0 where
  pub unspent : w.spent ≡ false
  pub outside : w.around ≡ []
  pub none_given : w.scope.given ≡ []

-- this was written in a block, behind what was there
pub record Puts (old : Writer) (more : Written) (new : Writer) : Type 0 where
  pub put : new ≡ written old more
  pub ready : IsOpen new

-- the same of records that are written one by one
abbrev pub PutsLines : Writer → List spelling.Line → Writer → Type 0
PutsLines old lines new = Puts old (spelling.put lines no_more) new

-- blocks were written outside of all others, behind what was there
pub record PutsOutside (old : Writer) (more : Written) (new : Writer) : Type 0 where
  pub put : new ≡ written old more
  pub outside : IsOutside new
