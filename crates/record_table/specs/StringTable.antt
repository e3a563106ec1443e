-- For `write` and `read` of bitcode: version 2, where all texts stand in one table, one behind the other, and a record
-- says of a text where it stands and how long it is.
use Rattle.std.specs.Prelude.{ℕ, zero, suc, ◌+◌, nat_le, Bool, List, [], ◌∷◌, ◌++◌, length, take, drop, flat_map, Option, Some, None, bytes_eq, ◌&&◌, if◌then◌else◌}
use Rattle.std.specs.List.{list_any, fold}
use Rattle.module_arena.specs.Module.{Bytes}
use Rattle.record_table.specs.Walk.{Walk, ask, next}
use Rattle.record_table.specs.Layout.{Layout}
use Rattle.record_table.specs.Fields.{Texts}

-- what stands for a text that passes the end of the table: no text in bytes, and empty only where its size is 0
abbrev pub beyond : ℕ → Bytes
beyond zero = []
beyond (suc size) = 256 ∷ []

-- so many bytes at that offset do not pass the end of the table
abbrev pub is_within : Bytes → ℕ → ℕ → Bool
is_within table offset size = nat_le (offset + size) (length table)

-- the text of that size at that offset
abbrev pub text_at : Bytes → ℕ → ℕ → Bytes
text_at table offset size = if is_within table offset size then take size (drop offset table) else beyond size

-- a text: an offset and a size
abbrev pub sized : Bytes → (Bytes → ℕ) → Layout Bytes
sized table offset_of = record {
  spell = λ text. offset_of text ∷ length text ∷ [];
  read = λ w. let offset = next w in let size = next offset.1 in (text_at table offset.0 size.0, ask 8 (is_within table offset.0 size.0) size.1);
}

-- a name or none: 0, or one more than a size, and an offset
unfoldable pub label_at : Bytes → ℕ → Walk → Option Bytes × Walk
label_at table zero w = (None, w)
label_at table (suc size) w = let offset = next w in (Some (text_at table offset.0 size), ask 8 (is_within table offset.0 size) offset.1)

-- the same of a text that stands at a known offset
abbrev pub label_placed : (Bytes → ℕ) → Option Bytes → List ℕ
label_placed offset_of None = 0 ∷ []
label_placed offset_of (Some text) = suc (length text) ∷ offset_of text ∷ []

-- texts in a table, where those that are written stand at these offsets
abbrev pub version_2 : Bytes → (Bytes → ℕ) → Texts
version_2 table offset_of = record {
  version = 2;
  middle = sized table offset_of;
  last = sized table offset_of;
  label = record { spell = label_placed offset_of; read = λ w. let n = next w in label_at table n.0 n.1 };
  holds = λ text. is_within table (offset_of text) (length text) && bytes_eq (text_at table (offset_of text) (length text)) text;
}

-- a table of which nothing is written
abbrev pub read_only : Bytes → Texts
read_only table = version_2 table (λ text. 0)

-- whether a text is one of these
abbrev pub has_text : List Bytes → Bytes → Bool
has_text all text = list_any (λ t. bytes_eq t text) all

-- one more text, if it is new; the empty one needs no place
abbrev pub with_text : List Bytes → Bytes → List Bytes
with_text all [] = all
with_text all (b ∷ bs) = if has_text all (b ∷ bs) then all else (all ++ (b ∷ bs) ∷ [])

-- each text but the empty one once, where it first occurs
abbrev pub once_each : List Bytes → List Bytes
once_each texts = fold with_text [] texts

-- one behind the other
abbrev pub joined : List Bytes → Bytes
joined texts = flat_map (λ text. text) texts

-- how many bytes stand before a text
abbrev pub offset_among : List Bytes → Bytes → ℕ
offset_among [] text = 0
offset_among (t ∷ ts) text = if bytes_eq t text then 0 else (length t + offset_among ts text)

-- where a text stands; the empty one has offset 0
abbrev pub offset_in : List Bytes → Bytes → ℕ
offset_in texts [] = 0
offset_in texts (b ∷ bs) = offset_among texts (b ∷ bs)

-- the texts of these records, which are written in this order
abbrev pub in_table_of : List Bytes → Texts
in_table_of texts = version_2 (joined (once_each texts)) (offset_in (once_each texts))
