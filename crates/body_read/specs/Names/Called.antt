-- For `BodyNames`, `read_called` and `read_names`: which names are there, and what is called so.
use Rattle.std.specs.Prelude.{◌≡◌, ◌⊎◌, ◌≤◌, ℕ, ◌||◌, not, is_none, Bool, true, false, List, [], ◌∷◌, ◌++◌, Option, Some, None, bytes_eq, if◌then◌else◌}
use Rattle.std.specs.List.{list_any}
use Rattle.module_arena.specs.declared.entry.LocalName as the_local
use Rattle.module_arena.specs.Module.{Bytes, LocalName, Named}
use Rattle.module_arena.specs.View.{local_view}
use Rattle.record_table.specs.Bodies.{after_all, are_new, labels_by, with_names}
use Rattle.record_table.specs.Fields.{label}
use Rattle.record_table.specs.Walk.{Walk}
use Rattle.record_read.specs.declared.texts.Texts as the_texts
use Rattle.record_read.specs.declared.texts.Texts.TheVariants.{Inline, Table}
use Rattle.record_read.specs.Fields.{IsLocal, texts_of}
use Rattle.record_read.specs.Reader.{Reader, ReadsAs, IsBrokenBy, broken_by, is_broken, is_stopped}
use Rattle.body_read.specs.declared.names.called.BodyNames.{BodyNames}

-- what stands for all texts that pass the end of the string table
abbrev pub beyond_table : Bytes
beyond_table = 256 ∷ []

-- the names that are there
abbrev pub keys_of : BodyNames → List Bytes
keys_of n = if n.strange then beyond_table ∷ n.taken.keys else n.taken.keys

-- what it is called; none stands for a text that passes the end of the table
abbrev pub called_as : Option the_local.LocalName → LocalName
called_as None = Named beyond_table
called_as (Some name) = local_view name

-- these are the names that are there, and the number that the next has
pub record AreNames (n : BodyNames) (own : ℕ) (taken : List Bytes) : Type 0 where
  pub own_is : n.own ≡ own
  pub there : (text : Bytes) → list_any (bytes_eq text) (keys_of n) ≡ list_any (bytes_eq text) taken
  pub bytes : list_any (bytes_eq beyond_table) n.taken.keys ≡ false

-- one name more, which is new or was there
abbrev pub AddsName : List Bytes → Bytes → Bool → List Bytes → Type 0
AddsName old name is_new new = (is_new ≡ not (list_any (bytes_eq name) old)) × (new ≡ (if is_new then old ++ name ∷ [] else old))

-- something is called so from now on, and the name was new or not
pub record Calls (old : BodyNames) (name : Option the_local.LocalName) (is_new : Bool) (new : BodyNames) : Type 0 where
  pub judged : (own : ℕ) (taken : List Bytes) → AreNames old own taken
      → (is_new ≡ are_new taken (called_as name ∷ []))
      × AreNames new (after_all own (called_as name ∷ [])) (with_names taken (called_as name ∷ []))
  pub strange : new.strange ≡ (old.strange || is_none name)

-- ---- names as they are read

-- no rule is broken, or one at most this
abbrev pub IsLowRule : ℕ → Option ℕ → Type 0
IsLowRule limit None = Unit {0}
IsLowRule limit (Some rule) = rule ≤ limit

-- Byte by byte no rule above 4 is broken by names. In a table rule 8 may be, but by none of them is it unknown what follows.
abbrev pub IsTame : the_texts.Texts → Walk → Type 0
IsTame Inline w = IsLowRule 4 (broken_by w)
IsTame (Table table) w = is_stopped w ≡ true → IsBrokenBy 4 w

-- The name in front was read by its layout. There is none only where a rule up to 4 is broken, or where it is a text that
-- passes the end of the table.
pub record ReadsCalled (x : the_texts.Texts) (own : ℕ) (old new : Reader) (name : Option the_local.LocalName) : Type 0 where
  pub reads : ReadsAs IsLocal (label (texts_of x) own) old new name
  pub none : IsTame x old.walk → name ≡ None → IsBrokenBy 4 new.walk ⊎ (((label (texts_of x) own).read old.walk).0 ≡ Named beyond_table)

-- names were read, each of which is called so from now on, and whether they are new
pub record AreCalled (before : BodyNames) (own : ℕ) (taken : List Bytes) (names : List LocalName) (w : Walk) (all_new : Bool) (after : BodyNames) : Type 0 where
  pub is_new : all_new ≡ are_new taken names
  pub names_are : AreNames after own (with_names taken names)
  pub strange : is_broken w ≡ false → after.strange ≡ before.strange

-- So many names were read, the first without a name having number 0. Unless a rule up to 4 is broken it is known whether
-- all of them are new.
pub record ReadsNames (x : the_texts.Texts) (count : ℕ) (old : Reader) (before : BodyNames) (all_new : Bool) (new : Reader) (after : BodyNames) : Type 0 where
  pub reader : new ≡ record old { walk = (labels_by (texts_of x) 0 count old.walk).1 }
  pub judged : IsTame x old.walk → (own : ℕ) (taken : List Bytes) → AreNames before own taken
      → IsBrokenBy 4 new.walk ⊎ (let names = (labels_by (texts_of x) 0 count old.walk).0 in AreCalled before (after_all 0 names) taken names new.walk all_new after)
