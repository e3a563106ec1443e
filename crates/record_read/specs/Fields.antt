-- For `read_text`, `read_last` and `read_label`: what texts are, and fields that are kept.
use Rattle.std.specs.Prelude.{◌≡◌, ℕ, ◌<◌, ◌++◌, ◌∷◌, [], nat_lt, Bool, true, false, Option, Some, None}
use Rattle.module_arena.specs.declared.entry.LocalName as the_local
use Rattle.module_arena.specs.declared.entry.LocalName.TheVariants as local
use Rattle.module_arena.specs.Module.{Bytes, LocalName}
pub use Rattle.module_arena.specs.Names.{are_bytes}
use Rattle.module_arena.specs.View.{local_view}
use Rattle.record_table.specs.Layout.{Layout}
use Rattle.record_table.specs.Fields.{Texts, version_1, is_name}
use Rattle.record_table.specs.StringTable.{read_only, text_at, is_within, beyond}
use Rattle.record_table.specs.Walk.{Walk, ask, break}
use Rattle.record_read.specs.declared.texts.Texts as the_texts
use Rattle.record_read.specs.declared.texts.Texts.TheVariants.{Inline, Table}
use Rattle.record_read.specs.Reader.{Reader, IsBroken, IsBrokenBy}

-- how texts stand
abbrev pub texts_of : the_texts.Texts → Texts
texts_of Inline = version_1
texts_of (Table bytes) = read_only bytes

-- the local name that is meant
abbrev pub IsLocal : the_local.LocalName → LocalName → Type 0
IsLocal kept name = local_view kept ≡ name

-- the very number is kept, and it is below this one
abbrev pub IsBelow : ℕ → ℕ → ℕ → Type 0
IsBelow count kept value = (kept ≡ value) × (kept < count)

-- bytes are kept; none only where one of them is no byte, so that no rule behind rule 3 need be asked
abbrev pub AreBytesKept : Option Bytes → Bytes → Walk → Type 0
AreBytesKept (Some kept) value w = kept ≡ value
AreBytesKept None value w = (are_bytes value ≡ false) × IsBrokenBy 3 w

-- the operands in front were read by a layout as bytes that are kept
pub record ReadsBytes (l : Layout Bytes) (old new : Reader) (answer : Option Bytes) : Type 0 where
  pub kept : AreBytesKept answer (l.read old.walk).0 new.walk
  pub reader : new ≡ record old { walk = (l.read old.walk).1 }

-- a text is kept; none only where one of it is no byte, and then a rule is broken beside which
-- the rule on names tells nothing more
abbrev pub IsTextKept : Option Bytes → Bytes → Walk → Type 0
IsTextKept (Some kept) value w = kept ≡ value
IsTextKept None value w = (are_bytes value ≡ false) × IsBroken w × (ask 4 (is_name value) w ≡ w)

-- the operands in front were read by a layout as a text that is kept
pub record ReadsText (l : Layout Bytes) (old new : Reader) (answer : Option Bytes) : Type 0 where
  pub kept : IsTextKept answer (l.read old.walk).0 new.walk
  pub reader : new ≡ record old { walk = (l.read old.walk).1 }

-- one more byte, or a number that is none, which breaks rule 3
abbrev pub PushesByte : Reader → Bytes → ℕ → Bool → Reader → Bytes → Type 0
PushesByte before text number is_byte after now =
    (is_byte ≡ nat_lt number 256) × (after ≡ record before { walk = ask 3 is_byte before.walk }) × (is_byte ≡ true → now ≡ text ++ number ∷ [])

-- a text of that size that passes the end of the table, which breaks rule 8
pub record IsBeyond (size : ℕ) (before after : Reader) (answer : Option Bytes) : Type 0 where
  pub kept : IsTextKept answer (beyond size) after.walk
  pub reader : after ≡ record before { walk = break 8 before.walk }

-- the text of that size at that offset, where rule 8 is broken if it passes the end of the table
pub record IsTextAt (table : Bytes) (offset size : ℕ) (before after : Reader) (answer : Option Bytes) : Type 0 where
  pub kept : IsTextKept answer (text_at table offset size) after.walk
  pub reader : after ≡ record before { walk = ask 8 (is_within table offset size) before.walk }

-- a text as a name; one that is none breaks rule 4
abbrev pub IsNamed : Option Bytes → Reader → Option Bytes → Reader → Type 0
IsNamed None before named after = (named ≡ None) × (after ≡ before)
IsNamed (Some text) before None after = (is_name text ≡ false) × (after ≡ record before { walk = ask 4 false before.walk }) × IsBroken after.walk
IsNamed (Some text) before (Some named) after = (named ≡ text) × (is_name text ≡ true) × (after ≡ before)

-- a text as the name of a local
abbrev pub IsLocalNamed : Option Bytes → Reader → Option the_local.LocalName → Reader → Type 0
IsLocalNamed text before None after = IsNamed text before None after
IsLocalNamed text before (Some (local.Named name)) after = IsNamed text before (Some name) after
IsLocalNamed text before (Some (local.Numbered number)) after = ⊥
