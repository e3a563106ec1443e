-- For `next` of `Walker`: what a tree is one piece after another, as a stream gives it.
use Rattle.std.specs.Prelude.{ℕ, Bool, List, [], ◌∷◌, ◌++◌}
use Rattle.bit_stream.specs.Abbreviation.{AdmittedAbbreviation}
use Rattle.bit_tree.specs.Stream.{StreamTree, nothing, block, definition, values}

-- a block begins or ends, or a definition or a record stands there
pub data Piece : Type 0 where
  begun : (id width words : ℕ) → Piece
  ended : Piece
  defines : (id : ℕ) → AdmittedAbbreviation → Piece
  holds : (id code : ℕ) → (operands : List ℕ) → (has_blob : Bool) → (blob : List ℕ) → Piece

-- what a tree is, piece by piece
unfoldable pub flat : StreamTree → List Piece
flat nothing = []
flat (block id width words inside behind) = begun id width words ∷ (flat inside ++ ended ∷ flat behind)
flat (definition id t behind) = defines id t ∷ flat behind
flat (values id code operands has_blob blob behind) = holds id code operands has_blob blob ∷ flat behind
