-- For `texts_are_held`, `texts_are_read_back`, `names_are_read_back` and `labels_are_read_back`: the laws of texts and names in records of
-- version 2.
use Rattle.std.specs.Prelude.{◌≡◌, ℕ, true, List}
use Rattle.module_arena.specs.Module.{Bytes}
use Rattle.record_table.specs.Fields.{name, label}
use Rattle.record_table.specs.StringTable.{version_2, has_text, in_table_of}
use Rattle.record_table.specs.Listed.{IsName, IsLabel}
use Rattle.record_table.specs.Lays.{Lays}

-- each text of a list is held in the list's table
abbrev pub TextsAreHeld : Type 0
TextsAreHeld = (texts : List Bytes) (text : Bytes) → has_text texts text ≡ true → (in_table_of texts).holds text ≡ true

-- a text that is held is read of what it spells
abbrev pub TextsAreReadBack : Type 0
TextsAreReadBack = (table : Bytes) (offset_of : Bytes → ℕ) → Lays (λ text. (version_2 table offset_of).holds text ≡ true) (version_2 table offset_of).last

-- and so is a name
abbrev pub NamesAreReadBack : Type 0
NamesAreReadBack = (table : Bytes) (offset_of : Bytes → ℕ) → Lays (IsName (version_2 table offset_of)) (name (version_2 table offset_of))

-- and a name or number of a local
abbrev pub LabelsAreReadBack : Type 0
LabelsAreReadBack = (table : Bytes) (offset_of : Bytes → ℕ) (own : ℕ) → Lays (IsLabel (version_2 table offset_of) own) (label (version_2 table offset_of) own)
