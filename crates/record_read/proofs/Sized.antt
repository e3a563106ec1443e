-- Texts at an offset of the string table, and names.
use Rattle.std.proofs.Common.{◌≡◌, ◌<◌, ◌+◌, ℕ, zero, suc, true, false, [], Option, Some, None, refl, sym, ap, ◌∙◌, arith}
use Rattle.module_arena.specs.declared.entry.LocalName as the_local
use Rattle.module_arena.specs.declared.entry.LocalName.TheVariants as local
use Rattle.module_arena.specs.Module.{Bytes, Named}
use Rattle.record_table.specs.Walk.{Walk, ask, next}
use Rattle.record_table.specs.Layout.{Layout, number, many, times}
use Rattle.record_table.specs.Fields.{Texts, label, label_by, is_name, version_1, byte}
use Rattle.record_table.specs.StringTable.{beyond, is_within, text_at, read_only, label_at}
use Rattle.record_read.specs.Reader.{Reader, Reads, ReadsAs, IsBroken, is_broken}
use Rattle.record_read.specs.Fields.{IsTextAt, IsTextKept, IsNamed, IsLocalNamed, ReadsText, ReadsBytes, IsLocal, IsBeyond}
use Rattle.record_read.proofs.Asking.{tells_no_more, is_broken_by}

-- a text that passes the end of the table
pub beyond_is : (table : Bytes) (offset size : ℕ) (before after : Reader) (kept : Option Bytes) → is_within table offset size ≡ false → IsBeyond size before after kept → IsTextAt table offset size before after kept
beyond_is table offset size before after kept out h = record { kept = rw out h.kept; reader = rw out h.reader }

pub beyond_none : (size : ℕ) (w : Walk) → 0 < size → IsBroken w → IsTextKept None (beyond size) w
beyond_none zero w some broken = absurd (omega arith)
beyond_none (suc size) w some broken = (refl, broken, refl)

-- bytes that are kept are a text
pub bytes_text : (l : Layout Bytes) (old now : Reader) (kept : Option Bytes) → ReadsBytes l old now kept → ReadsText l old now kept
bytes_text l old now (Some kept) h = record { kept = h.kept; reader = h.reader }
bytes_text l old now None h = record { kept = (h.kept.0, is_broken_by 3 now.walk h.kept.1, tells_no_more 4 3 (is_name (l.read old.walk).0) now.walk (omega arith) h.kept.1); reader = h.reader }

-- an offset and a size
pub sized_is : (table : Bytes) (old first second now : Reader) (offset size : ℕ) (kept : Option Bytes) → Reads number old first offset → Reads number first second size → IsTextAt table offset size second now kept → ReadsText (read_only table).middle old now kept
sized_is table old first second now offset size kept a b h =
    let first_walk : first.walk ≡ (next old.walk).1 = ap (λ (r : Reader). r.walk) a.reader in
    let size_is : size ≡ (next (next old.walk).1).0 = b.value ∙ ap (λ w. (next w).0) first_walk in
    let second_is : second ≡ record old { walk = (next (next old.walk).1).1 } = b.reader ∙ (ap (λ (r : Reader). record r { walk = (next first.walk).1 }) a.reader ∙ ap (λ w. record old { walk = (next w).1 }) first_walk) in
    record {
      kept = rw (← size_is, ← a.value) h.kept;
      reader = h.reader ∙ (ap (λ (r : Reader). record r { walk = ask 8 (is_within table offset size) r.walk }) second_is ∙ rw (← size_is, ← a.value) refl);
    }

-- a text as a name
pub named_reads : (l : Layout Bytes) (old mid now : Reader) (text name : Option Bytes) → ReadsText l old mid text → IsNamed text mid name now
    → (now ≡ record old { walk = ask 4 (is_name (l.read old.walk).0) (l.read old.walk).1 })
named_reads l old mid now None name h n =
    let at : mid.walk ≡ (l.read old.walk).1 = ap (λ (r : Reader). r.walk) h.reader in
    n.1 ∙ (h.reader ∙ ap (λ w. record old { walk = w }) (sym (rw (← at) h.kept.2)))
named_reads l old mid now (Some text) None h n =
    let bad : is_name (l.read old.walk).0 ≡ false = ap is_name (sym h.kept) ∙ n.0 in
    n.1 ∙ (ap (λ (r : Reader). record r { walk = ask 4 false r.walk }) h.reader ∙ ap (λ b. record old { walk = ask 4 b (l.read old.walk).1 }) (sym bad))
named_reads l old mid now (Some text) (Some name) h n =
    let good : is_name (l.read old.walk).0 ≡ true = ap is_name (sym h.kept) ∙ n.1 in
    n.2 ∙ (h.reader ∙ ap (λ b. record old { walk = ask 4 b (l.read old.walk).1 }) (sym good))

-- what a local is called

kept_name : (text : Option Bytes) (name value : Bytes) (last now : Reader) → IsTextKept text value last.walk → IsNamed text last (Some name) now → name ≡ value
kept_name None name value last now kept named = absurd (cc)
kept_name (Some text) name value last now kept named = named.0 ∙ kept

no_name : (text : Option Bytes) (value : Bytes) (last now : Reader) → IsTextKept text value last.walk → IsNamed text last None now → IsBroken now.walk
no_name None value last now kept named = ap (λ (r : Reader). is_broken r.walk) named.1 ∙ kept.1
no_name (Some text) value last now kept named = named.2

abbrev as_read : Bytes → Walk → Layout Bytes
as_read value w = record { spell = λ text. []; read = λ v. (value, w) }

-- none: it has its number
pub unnamed : (t : Texts) (own : ℕ) (old mid : Reader) → t.label.read old.walk ≡ (None, mid.walk) → mid ≡ record old { walk = mid.walk } → ReadsAs IsLocal (label t own) old mid (Some (local.Numbered own))
unnamed t own old mid is reader = record { kept = rw is refl; reader = rw is reader }

-- a name
pub named_some : (t : Texts) (own : ℕ) (old last now : Reader) (text : Option Bytes) (name : Bytes) (value : Bytes) (w : Walk) → t.label.read old.walk ≡ (Some value, w) → IsTextKept text value last.walk → last ≡ record old { walk = w } → IsNamed text last (Some name) now
    → ReadsAs IsLocal (label t own) old now (Some (local.Named name))
named_some t own old last now text name value w is kept reader named =
    let reads : ReadsText (as_read value w) old last text = record { kept = kept; reader = reader } in
    record { kept = rw is (ap (λ (b : Bytes). Named b) (kept_name text name value last now kept named)); reader = rw is (named_reads (as_read value w) old last now text (Some name) reads named) }

-- a text that is none
pub named_none : (t : Texts) (own : ℕ) (old last now : Reader) (text : Option Bytes) (value : Bytes) (w : Walk) → t.label.read old.walk ≡ (Some value, w) → IsTextKept text value last.walk → last ≡ record old { walk = w } → IsNamed text last None now
    → ReadsAs IsLocal (label t own) old now None
named_none t own old last now text value w is kept reader named =
    let reads : ReadsText (as_read value w) old last text = record { kept = kept; reader = reader } in
    record { kept = no_name text value last now kept named; reader = rw is (named_reads (as_read value w) old last now text None reads named) }

-- the four ways that a label stands

pub inline_none : (old mid : Reader) (n : ℕ) → Reads number old mid n → n ≡ 0 → version_1.label.read old.walk ≡ (None, mid.walk)
unfolding label_by
inline_none old mid n h is =
    let at : (next old.walk).0 ≡ 0 = sym h.value ∙ is in
    let mid_is : mid.walk ≡ (next old.walk).1 = ap (λ (r : Reader). r.walk) h.reader in
    rw (at, mid_is) refl

pub inline_some : (old mid : Reader) (n size : ℕ) → Reads number old mid n → n ≡ size + 1 → version_1.label.read old.walk ≡ (Some (many byte.read size mid.walk).0, (many byte.read size mid.walk).1)
unfolding label_by
inline_some old mid n size h is =
    let at : (next old.walk).0 ≡ suc size = sym h.value ∙ omega (arith, is) in
    let mid_is : mid.walk ≡ (next old.walk).1 = ap (λ (r : Reader). r.walk) h.reader in
    rw (at, mid_is) refl

pub table_none : (table : Bytes) (old mid : Reader) (n : ℕ) → Reads number old mid n → n ≡ 0 → (read_only table).label.read old.walk ≡ (None, mid.walk)
unfolding label_at
table_none table old mid n h is =
    let at : (next old.walk).0 ≡ 0 = sym h.value ∙ is in
    let mid_is : mid.walk ≡ (next old.walk).1 = ap (λ (r : Reader). r.walk) h.reader in
    rw (at, mid_is) refl

pub table_some : (table : Bytes) (old mid last : Reader) (n size offset : ℕ) → Reads number old mid n → n ≡ size + 1 → Reads number mid last offset
    → (read_only table).label.read old.walk ≡ (Some (text_at table offset size), ask 8 (is_within table offset size) last.walk)
unfolding label_at
table_some table old mid last n size offset h is b =
    let at : (next old.walk).0 ≡ suc size = sym h.value ∙ omega (arith, is) in
    let mid_is : mid.walk ≡ (next old.walk).1 = ap (λ (r : Reader). r.walk) h.reader in
    let last_is : last.walk ≡ (next mid.walk).1 = ap (λ (r : Reader). r.walk) b.reader in
    rw (at, last_is, b.value, mid_is) refl

local_kept : (t : Texts) (own : ℕ) (old last now : Reader) (text : Option Bytes) (name : Option the_local.LocalName) (value : Bytes) (w : Walk) → t.label.read old.walk ≡ (Some value, w) → IsTextKept text value last.walk → last ≡ record old { walk = w }
    → IsLocalNamed text last name now → ReadsAs IsLocal (label t own) old now name
local_kept t own old last now text None value w is kept reader named = named_none t own old last now text value w is kept reader named
local_kept t own old last now text (Some (local.Named name)) value w is kept reader named = named_some t own old last now text name value w is kept reader named
local_kept t own old last now text (Some (local.Numbered n)) value w is kept reader named = absurd named

own_walk : (old mid : Reader) (n : ℕ) → Reads number old mid n → mid ≡ record old { walk = mid.walk }
own_walk old mid n h = h.reader ∙ ap (λ w. record old { walk = w }) (sym (ap (λ (r : Reader). r.walk) h.reader))

pub inline_label_none : (own : ℕ) (old mid : Reader) (n : ℕ) → Reads number old mid n → n ≡ 0 → ReadsAs IsLocal (label version_1 own) old mid (Some (local.Numbered own))
inline_label_none own old mid n h is = unnamed version_1 own old mid (inline_none old mid n h is) (own_walk old mid n h)

pub table_label_none : (table : Bytes) (own : ℕ) (old mid : Reader) (n : ℕ) → Reads number old mid n → n ≡ 0 → ReadsAs IsLocal (label (read_only table) own) old mid (Some (local.Numbered own))
table_label_none table own old mid n h is = unnamed (read_only table) own old mid (table_none table old mid n h is) (own_walk old mid n h)

pub inline_label : (own : ℕ) (old mid last now : Reader) (n size : ℕ) (text : Option Bytes) (name : Option the_local.LocalName) → Reads number old mid n → n ≡ size + 1 → ReadsBytes (times size byte) mid last text → IsLocalNamed text last name now
    → ReadsAs IsLocal (label version_1 own) old now name
inline_label own old mid last now n size text name h is bytes named =
    let kept = bytes_text (times size byte) mid last text bytes in
    local_kept version_1 own old last now text name _ _ (inline_some old mid n size h is) kept.kept
    (bytes.reader ∙ ap (λ (r : Reader). record r { walk = (many byte.read size mid.walk).1 }) h.reader) named

pub table_label : (table : Bytes) (own : ℕ) (old mid last after now : Reader) (n size offset : ℕ) (text : Option Bytes) (name : Option the_local.LocalName) → Reads number old mid n → n ≡ size + 1 → Reads number mid last offset → IsTextAt table offset size last after text → IsLocalNamed text after name now
    → ReadsAs IsLocal (label (read_only table) own) old now name
table_label table own old mid last after now n size offset text name h is b at named =
    local_kept (read_only table) own old after now text name _ _ (table_some table old mid last n size offset h is b) at.kept
    (at.reader ∙ (ap (λ (r : Reader). record r { walk = ask 8 (is_within table offset size) last.walk }) b.reader ∙ ap (λ (r : Reader). record r { walk = ask 8 (is_within table offset size) last.walk }) h.reader)) named
