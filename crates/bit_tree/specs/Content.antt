-- For `content_is_enough`: what a tree holds whatever it is spelled by: two spellings of the same records have one
-- content.
use Rattle.std.specs.Prelude.{ℕ, List}
use Rattle.bit_tree.specs.Stream.{StreamTree, nothing, block, definition, values}

-- What stands one behind another: a block with its id and what is inside it, or a record with its code, its operands and
-- its blob; and then what stands behind that.
pub data Content : Type 0 where
  no_content : Content
  block_of : (id : ℕ) → (inside behind : Content) → Content
  record_of : (code : ℕ) → (operands blob : List ℕ) → (behind : Content) → Content

-- the content of a tree: without widths, counts of words, definitions and abbreviation ids
unfoldable pub content : StreamTree → Content
content nothing = no_content
content (block id width words inside behind) = block_of id (content inside) (content behind)
content (definition id t behind) = content behind
content (values id code operands has_blob blob behind) = record_of code operands blob (content behind)
