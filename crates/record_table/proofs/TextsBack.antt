-- What version 2 spells of texts and names is read back.
use Rattle.std.proofs.Common.{◌≡◌, ℕ, true, List, ◌++◌, length, None, refl}
use Rattle.std.specs.Prelude.{bytes_eq}
use Rattle.std.proofs.lemmas.Bool.{and_parts}
use Rattle.std.proofs.lemmas.Slice.Eq.{bytes_eq-Decides}
use Rattle.module_arena.specs.Module.{Bytes, LocalName, Named, Numbered}
use Rattle.record_table.specs.Walk.{going, next}
use Rattle.record_table.specs.Fields.{is_name, name, label}
use Rattle.record_table.specs.StringTable.{is_within, text_at, sized, label_at, version_2, read_only}
use Rattle.record_table.specs.Listed.{IsName, IsLabel}
use Rattle.record_table.specs.Lays.{Lays}
use Rattle.record_table.proofs.Layouts.{lays_asking}

module _ (table : Bytes) (offset_of : Bytes → ℕ) where
  -- a text that is held stands in the table where it is said to stand
  held : (text : Bytes) → (version_2 table offset_of).holds text ≡ true → (is_within table (offset_of text) (length text) ≡ true) × (text_at table (offset_of text) (length text) ≡ text)
  held text h =
      let p = and_parts (is_within table (offset_of text) (length text)) (bytes_eq (text_at table (offset_of text) (length text)) text) h in
      (p.0, (bytes_eq-Decides (text_at table (offset_of text) (length text)) text).0 p.1)

  pub lays_sized : Lays (λ text. (version_2 table offset_of).holds text ≡ true) (sized table offset_of)
  unfolding next
  lays_sized = record { back = λ text rest h. let p = held text h in rw (p.1, p.0) refl }

  pub lays_name : Lays (IsName (version_2 table offset_of)) (name (version_2 table offset_of))
  lays_name = lays_asking 4 is_name lays_sized

  pub lays_label : (own : ℕ) → Lays (IsLabel (version_2 table offset_of) own) (label (version_2 table offset_of) own)
  unfolding next label_at
  lays_label own = record { back = back } where
    back : (x : LocalName) (rest : List ℕ) → IsLabel (version_2 table offset_of) own x
        → (label (version_2 table offset_of) own).read (going ((label (version_2 table offset_of) own).spell x ++ rest) None) ≡ (x, going rest None)
    back (Numbered n) rest fit = rw fit refl
    back (Named text) rest fit = let p = held text fit.0 in rw (p.1, p.0, fit.1) refl

  -- what is read does not depend on where texts are written
  pub name_read : (name (version_2 table offset_of)).read ≡ (name (read_only table)).read
  name_read = refl

  pub label_read : (own : ℕ) → (label (version_2 table offset_of) own).read ≡ (label (read_only table) own).read
  label_read own = refl
