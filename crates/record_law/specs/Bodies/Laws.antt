-- For `bodies_are_read_back`: the law of bodies.
use Rattle.std.specs.Prelude.{◌≡◌, ℕ, List, length, Ok}
use Rattle.bit_tree.specs.Written.{no_more}
use Rattle.module_arena.specs.Module.{LocalName, Block, Function}
use Rattle.module_arena.specs.Names.{parameter_names}
use Rattle.record_table.specs.Fields.{Texts, Numbering, label}
use Rattle.record_table.specs.Listed.{IsLabel}
use Rattle.record_table.specs.Lays.{Lays}
use Rattle.record_table.specs.Faults.{Answer}
use Rattle.record_table.specs.Bodies.{Begun, body}
use Rattle.record_table.specs.Spelling.{put, records_put, body_lines}
use Rattle.record_law.specs.Bodies.FittingBodies.{BodyFits}

-- what is read has these parameters and blocks
pub record HasRead (names : List LocalName) (blocks : List Block) (answer : Answer Begun) : Type 0 where
  pub begun : Begun
  pub is : answer ≡ Ok begun
  pub parameters_are : begun.parameters ≡ names
  pub blocks_are : begun.blocks ≡ blocks

-- A body that fits is read of the records that are written for it, with the names of its parameters, where names and
-- numbers of locals are read back
abbrev pub BodiesAreReadBack : Type 0
BodiesAreReadBack =
    (texts : Texts) (k : Numbering)
    → ((own : ℕ) → Lays (IsLabel texts own) (label texts own))
    → (f : Function) (blocks : List Block) (at : ℕ)
    → BodyFits texts k f blocks
    → HasRead (parameter_names f) blocks (body texts k (length f.parameters) at (records_put (put (body_lines texts k f blocks) no_more)))
