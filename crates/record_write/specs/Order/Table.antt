-- For `text_table`, and `new` and `add` of `TextTable`: a table of texts in the making, and what it holds.
use Rattle.std.specs.Prelude.{◌≡◌, ℕ, true, List, [], Some}
use Rattle.std.specs.List.{fold}
use Rattle.type_table.specs.Names.Entries.{value_of}
use Rattle.module_arena.specs.Module.{Bytes}
use Rattle.record_table.specs.StringTable.{has_text, joined, offset_among, with_text}

-- where each text stands, and the bytes of all
pub record PlacedTexts : Type 0 where
  pub offsets : List (Bytes × ℕ)
  pub bytes : List ℕ

-- no text
abbrev pub no_texts : PlacedTexts
no_texts = record { offsets = []; bytes = [] }

-- it holds these texts, each once, one behind the other
pub record Holds (table : PlacedTexts) (texts : List Bytes) : Type 0 where
  pub bytes : table.bytes ≡ joined texts
  pub placed : (text : Bytes) → has_text texts text ≡ true → value_of table.offsets text ≡ Some (offset_among texts text)
  pub others : (text : Bytes) (offset : ℕ) → value_of table.offsets text ≡ Some offset → has_text texts text ≡ true

-- whatever it held, it holds these texts besides
pub record Gains (old new : PlacedTexts) (more : List Bytes) : Type 0 where
  pub holds : (texts : List Bytes) → Holds old texts → Holds new (fold with_text texts more)
