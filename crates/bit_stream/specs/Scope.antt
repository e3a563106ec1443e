-- For all calls of `BitReader` and `BitWriter`, and how the code of `Scope` reads: the blocks that are open at a
-- place of a stream, and the abbreviations that are in force there.
use Rattle.std.specs.Prelude.{ℕ, ◌-◌, List, [], ◌∷◌, ◌++◌, Option, Some, None, if◌then◌else◌, nat_lt, slice_get, unwrap_or}
use Rattle.std.specs.Ordering.{nat_cmp}
use Rattle.std.specs.Map.{lookup, remove_entry}
use Rattle.std.specs.BTreeMap.{is_at, insert_entry}
use Rattle.bit_stream.specs.Abbreviation.{AdmittedAbbreviation}

-- An open block. Its id (none where no block is open), the width of its abbreviation ids, the bit of its count of
-- words and the count, how many of the abbreviations that were given to its id are in force in it, those that it
-- defined itself, and, where it is a BLOCKINFO, the block that its definitions are for.
pub record BlockFrame : Type 0 where
  pub id : Option ℕ
  pub width : ℕ
  pub count_bit : ℕ
  pub words : ℕ
  pub given : ℕ
  pub own : List AdmittedAbbreviation
  pub target : Option ℕ

-- the innermost block, those around it from the top level in, and the abbreviations that BLOCKINFO gave each id
pub record Scope : Type 0 where
  pub block : BlockFrame
  pub around : List BlockFrame
  pub given : List (ℕ × List AdmittedAbbreviation)

-- no block is open, and an abbreviation id has two bits
abbrev pub top_level : Scope
top_level = record { block = record { id = None; width = 2; count_bit = 0; words = 0; given = 0; own = []; target = None }; around = []; given = [] }

-- the abbreviations that BLOCKINFO gave a block id, in order
abbrev pub given_to : List (ℕ × List AdmittedAbbreviation) → ℕ → List AdmittedAbbreviation
given_to table id = unwrap_or (lookup (is_at (nat_cmp id)) table) []

-- one more abbreviation for a block id
abbrev pub give : List (ℕ × List AdmittedAbbreviation) → ℕ → AdmittedAbbreviation → List (ℕ × List AdmittedAbbreviation)
give table id t = insert_entry nat_cmp (remove_entry (is_at (nat_cmp id)) table) id (given_to table id ++ t ∷ [])

-- what BLOCKINFO gave to this block before it was entered
abbrev pub given_here : Scope → List AdmittedAbbreviation
given_here s = given_by s.given s.block.id where
  -- what a table gave to blocks of this id, and nothing where no block is open
  given_by : List (ℕ × List AdmittedAbbreviation) → Option ℕ → List AdmittedAbbreviation
  given_by table None = []
  given_by table (Some id) = given_to table id

-- the abbreviation of an id from 4 on: first those that were given, then the block's own
abbrev pub abbreviation_of : Scope → ℕ → Option AdmittedAbbreviation
abbreviation_of s id =
    if nat_lt (id - 4) s.block.given then slice_get (given_here s) (id - 4)
    else slice_get s.block.own (id - 4 - s.block.given)
