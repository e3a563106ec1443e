-- Says how the code reads: what is kept so that the end of a run of bytes of names is looked for once.
use Rattle.std.specs.Prelude.{◌≡◌, ℕ, ◌<◌, Bool, true, false, List, drop}
use Rattle.ir_lexer.specs.Class.{in_name, is_colon, starts_with}
use Rattle.ir_lexer.specs.Form.{run}
use Rattle.ir_lexer.specs.declared.class.Class.{Class}
use Rattle.ir_lexer.specs.declared.class.Class.TheVariants as c

-- the text begins with so many bytes of names, behind which no colon stands
pub record IsRun (known : ℕ) (text : List ℕ) : Type 0 where
  pub length_is : run in_name text ≡ known
  pub no_colon : starts_with is_colon (drop known text) ≡ false

-- a count that is not zero is that of the run of bytes of names at the front
abbrev pub KnownRun : ℕ → List ℕ → Type 0
KnownRun known text = 0 < known → IsRun known text

-- what stands behind nearly every word and number, and neither goes on with it nor makes a label of it
abbrev pub ends_name : Class → Bool
ends_name c.Mark = true
ends_name c.Semicolon = true
ends_name c.LineFeed = true
ends_name c.Blank = true
ends_name c.Other = true
ends_name _ = false
