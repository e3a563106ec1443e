-- For `bodies_are_read_back`: what a body must be so that its lines are read back. Each line fits where it stands, and what it
-- declares is new.
use Rattle.std.specs.Prelude.{◌≡◌, ℕ, true, List, [], ◌∷◌, ⊤}
use Rattle.module_arena.specs.Module.{Bytes, LocalName, Instruction, Block, Function}
use Rattle.record_table.specs.Fields.{Texts, Numbering, after}
use Rattle.record_table.specs.Bodies.{results, after_all, with_names, are_new}
use Rattle.module_arena.specs.Names.{parameter_names}
use Rattle.record_table.specs.Spelling.{within}
use Rattle.record_table.specs.Listed.{IsLabel}
use Rattle.record_table.specs.FittingLines.{InstructionFits, EndingFits}

-- the number of the next without a name, and the names that are there, behind these instructions
abbrev pub own_behind : ℕ → List Instruction → ℕ
own_behind own [] = own
own_behind own (i ∷ is) = own_behind (after_all own (results i.result)) is

-- the names that are there behind these instructions
abbrev pub taken_behind : List Bytes → List Instruction → List Bytes
taken_behind taken [] = taken
taken_behind taken (i ∷ is) = taken_behind (with_names taken (results i.result)) is

-- and behind a block
abbrev pub own_behind_block : ℕ → Block → ℕ
own_behind_block own b = own_behind (after own b.name) b.instructions

-- and the names
abbrev pub taken_behind_block : List Bytes → Block → List Bytes
taken_behind_block taken b = taken_behind (with_names taken (b.name ∷ [])) b.instructions

module _ (texts : Texts) where
  -- names one behind the other, each held or the number that it has
  abbrev pub AreLabels : ℕ → List LocalName → Type 0
  AreLabels own [] = ⊤
  AreLabels own (name ∷ names) = IsLabel texts own name × AreLabels (after own name) names

  module _ (k : Numbering) where
    -- instructions one behind the other
    abbrev pub InstructionsFit : ℕ → List Bytes → List Instruction → Type 0
    InstructionsFit own taken [] = ⊤
    InstructionsFit own taken (i ∷ is) =
        InstructionFits texts k own i
        × (are_new taken (results i.result) ≡ true)
        × InstructionsFit (after_all own (results i.result)) (with_names taken (results i.result)) is

    -- a block: its name is new, and its lines fit
    abbrev pub BlockFits : ℕ → List Bytes → Block → Type 0
    BlockFits own taken b =
        IsLabel texts own b.name
        × (are_new taken (b.name ∷ []) ≡ true)
        × InstructionsFit (after own b.name) (with_names taken (b.name ∷ [])) b.instructions
        × EndingFits k b.ending

    -- blocks one behind the other
    abbrev pub BlocksFit : ℕ → List Bytes → List Block → Type 0
    BlocksFit own taken [] = ⊤
    BlocksFit own taken (b ∷ bs) = BlockFits own taken b × BlocksFit (own_behind_block own b) (taken_behind_block taken b) bs

-- a body has a block, and its parameters are new to each other
abbrev pub BodyFits : Texts → Numbering → Function → List Block → Type 0
BodyFits texts k f [] = ⊥
BodyFits texts k f (b ∷ bs) =
    AreLabels texts 0 (parameter_names f) × (are_new [] (parameter_names f) ≡ true)
    × BlocksFit texts (within k f (b ∷ bs)) (after_all 0 (parameter_names f)) (with_names [] (parameter_names f)) (b ∷ bs)
