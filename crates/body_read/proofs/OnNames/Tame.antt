-- Which rules are broken while names are read.
use Rattle.std.proofs.Common.{◌≡◌, ◌⊎◌, ◌≤◌, ◌+◌, ℕ, zero, suc, Bool, true, false, [], ◌∷◌, Option, Some, None, Result, Ok, Err, IfOk, nat_lt, inl, inr, refl, sym, ap, subst, ◌∙◌, arith}
use Rattle.std.proofs.lemmas.Bool.{false≢true}
use Rattle.module_arena.specs.declared.entry.LocalName as the_local
use Rattle.module_arena.specs.declared.entry.LocalName.TheVariants as local
use Rattle.module_arena.specs.Module.{Bytes, Named}
use Rattle.record_table.specs.Walk.{Walk, going, stopped, ask, break, stop, next}
use Rattle.record_table.specs.Layout.{many, number}
use Rattle.record_table.specs.Fields.{byte, called, is_label, label, label_by, version_1}
use Rattle.record_table.specs.StringTable.{is_within, label_at, read_only, text_at}
use Rattle.record_read.specs.declared.texts.Texts as the_texts
use Rattle.record_read.specs.declared.texts.Texts.TheVariants.{Inline, Table}
use Rattle.record_read.specs.Fields.{IsLocal, IsLocalNamed, IsTextAt, texts_of}
use Rattle.record_read.specs.Reader.{Reader, Reads, ReadsAs, IsBroken, IsBrokenBy, broken_by, is_broken, is_stopped}
use Rattle.record_read.proofs.Sized.{table_label, table_label_none, table_some}
use Rattle.record_law.proofs.OnLabels.Lasting.{Lasts, inline_keeps, table_keeps}
use Rattle.body_read.specs.Names.Called.{IsLowRule, IsTame, ReadsCalled, beyond_table}

-- ---- what lasts

by_taken : (w : Walk) → IsBrokenBy 4 w → IsBrokenBy 4 (next w).1
unfolding next
by_taken (going [] None) h = absurd h
by_taken (going [] (Some r)) h = omega arith
by_taken (going (n ∷ rest) broken) h = h
by_taken (stopped broken) h = h

by_broken : (rule : ℕ) (w : Walk) → IsBrokenBy 4 w → IsBrokenBy 4 (break rule w)
by_broken rule (going rest None) h = absurd h
by_broken rule (going rest (Some r)) h = omega arith
by_broken rule (stopped broken) h = h

by_asked : (rule : ℕ) (b : Bool) (w : Walk) → IsBrokenBy 4 w → IsBrokenBy 4 (ask rule b w)
by_asked rule true w h = h
by_asked rule false w h = by_broken rule w h

by_stopped : (rule : ℕ) (w : Walk) → IsBrokenBy 4 w → IsBrokenBy 4 (stop rule w)
by_stopped rule (going rest None) h = absurd h
by_stopped rule (going rest (Some r)) h = omega arith
by_stopped rule (stopped broken) h = h

-- a rule up to 4 that is broken stays so
pub low_lasts : Lasts (IsBrokenBy 4)
low_lasts = record { taken = by_taken; asked = by_asked; stopped_by = by_stopped; broken_by = by_broken }

any_taken : (w : Walk) → is_broken w ≡ true → is_broken (next w).1 ≡ true
unfolding next
any_taken (going [] None) h = absurd (cc)
any_taken (going [] (Some r)) h = refl
any_taken (going (n ∷ rest) broken) h = h
any_taken (stopped broken) h = h

any_broken : (rule : ℕ) (w : Walk) → is_broken w ≡ true → is_broken (break rule w) ≡ true
any_broken rule (going rest None) h = refl
any_broken rule (going rest (Some r)) h = refl
any_broken rule (stopped broken) h = h

any_asked : (rule : ℕ) (b : Bool) (w : Walk) → is_broken w ≡ true → is_broken (ask rule b w) ≡ true
any_asked rule true w h = h
any_asked rule false w h = any_broken rule w h

any_stopped : (rule : ℕ) (w : Walk) → is_broken w ≡ true → is_broken (stop rule w) ≡ true
any_stopped rule (going rest None) h = refl
any_stopped rule (going rest (Some r)) h = refl
any_stopped rule (stopped broken) h = h

-- and so does any
pub any_lasts : Lasts IsBroken
any_lasts = record { taken = any_taken; asked = any_asked; stopped_by = any_stopped; broken_by = any_broken }

-- both stay so behind a name
pub label_low : (x : the_texts.Texts) (own : ℕ) (w : Walk) → IsBrokenBy 4 w → IsBrokenBy 4 ((label (texts_of x) own).read w).1
label_low Inline own w h = inline_keeps (IsBrokenBy 4) low_lasts own w h
label_low (Table table) own w h = table_keeps (IsBrokenBy 4) low_lasts table own w h

pub label_broken : (x : the_texts.Texts) (own : ℕ) (w : Walk) → IsBroken w → IsBroken ((label (texts_of x) own).read w).1
label_broken Inline own w h = inline_keeps IsBroken any_lasts own w h
label_broken (Table table) own w h = table_keeps IsBroken any_lasts table own w h

-- ---- byte by byte

abbrev IsLow : Walk → Type 0
IsLow w = IsLowRule 4 (broken_by w)

low_taken : (w : Walk) → IsLow w → IsLow (next w).1
unfolding next
low_taken (going [] None) h = omega arith
low_taken (going [] (Some r)) h = omega arith
low_taken (going (n ∷ rest) broken) h = h
low_taken (stopped broken) h = h

low_asked : (rule : ℕ) (b : Bool) (w : Walk) → rule ≤ 4 → IsLow w → IsLow (ask rule b w)
low_asked rule true w le h = h
low_asked rule false (going rest None) le h = le
low_asked rule false (going rest (Some r)) le h = omega arith
low_asked rule false (stopped broken) le h = h

low_bytes : (n : ℕ) (w : Walk) → IsLow w → IsLow (many byte.read n w).1
unfolding many
low_bytes zero w h = h
low_bytes (suc n) (stopped broken) h = h
low_bytes (suc n) (going rest broken) h =
    low_bytes n (byte.read (going rest broken)).1 (low_asked 3 (nat_lt (next (going rest broken)).0 256) (next (going rest broken)).1 (omega arith) (low_taken (going rest broken) h))

low_label_by : (n : ℕ) (w : Walk) → IsLow w → IsLow (label_by n w).1
unfolding label_by
low_label_by zero w h = h
low_label_by (suc size) w h = low_bytes size w h

pub low_broken : (w : Walk) → IsLow w → IsBroken w → IsBrokenBy 4 w
low_broken (going rest None) h b = absurd (cc)
low_broken (going rest (Some r)) h b = h
low_broken (stopped None) h b = absurd (cc)
low_broken (stopped (Some r)) h b = h

-- ---- in a table

abbrev IsSettled : Walk → Type 0
IsSettled w = is_stopped w ≡ true → IsBrokenBy 4 w

settled_taken : (w : Walk) → IsSettled w → IsSettled (next w).1
unfolding next
settled_taken (going [] None) h = λ e. omega arith
settled_taken (going [] (Some r)) h = λ e. omega arith
settled_taken (going (n ∷ rest) broken) h = λ e. absurd (false≢true e)
settled_taken (stopped broken) h = h

settled_asked : (rule : ℕ) (b : Bool) (w : Walk) → IsSettled w → IsSettled (ask rule b w)
settled_asked rule true w h = h
settled_asked rule false (going rest broken) h = λ e. absurd (false≢true e)
settled_asked rule false (stopped broken) h = h

settled_label_at : (table : Bytes) (n : ℕ) (w : Walk) → IsSettled w → IsSettled (label_at table n w).1
unfolding label_at
settled_label_at table zero w h = h
settled_label_at table (suc size) w h = settled_asked 8 (is_within table (next w).0 size) (next w).1 (settled_taken w h)

asked_in_vain : (w : Walk) → IsSettled w → IsBrokenBy 4 (ask 4 false w)
asked_in_vain (going rest None) h = omega arith
asked_in_vain (going rest (Some r)) h = omega arith
asked_in_vain (stopped broken) h = h refl

-- what is asked of a name keeps this
pub tame_label : (x : the_texts.Texts) (own : ℕ) (w : Walk) → IsTame x w → IsTame x ((label (texts_of x) own).read w).1
tame_label Inline own w h = low_asked 4 (is_label (label_by (next w).0 (next w).1).0) (label_by (next w).0 (next w).1).1 (omega arith) (low_label_by (next w).0 (next w).1 (low_taken w h))
tame_label (Table table) own w h = settled_asked 4 (is_label (label_at table (next w).0 (next w).1).0) (label_at table (next w).0 (next w).1).1 (settled_label_at table (next w).0 (next w).1 (settled_taken w h))

-- ---- names as they are read

pub inline_called : {E : Type 0} (r : Result (Option the_local.LocalName) E) (x : the_texts.Texts) (own : ℕ) (old new : Reader) → x ≡ Inline → IfOk r (ReadsAs IsLocal (label (texts_of x) own) old new) → IfOk r (ReadsCalled x own old new)
inline_called (Err e) x own old new is h = tt
inline_called (Ok name) x own old new is h = subst (λ y. ReadsCalled y own old new name) (sym is) (by name (subst (λ y. ReadsAs IsLocal (label (texts_of y) own) old new name) is h))
  where
    by : (name : Option the_local.LocalName) → ReadsAs IsLocal (label version_1 own) old new name → ReadsCalled Inline own old new name
    by (Some kept) h = record { reads = h; none = λ tame e. absurd (cc) }
    by None h = record {
      reads = h;
      none = λ tame e.
          let at : new.walk ≡ ((label version_1 own).read old.walk).1 = ap (λ (q : Reader). q.walk) h.reader in
          inl (low_broken new.walk (subst IsLow (sym at) (tame_label Inline own old.walk tame)) h.kept);
    }

pub table_called_none : (table : Bytes) (own : ℕ) (old mid : Reader) (n : ℕ) → Reads number old mid n → n ≡ 0 → ReadsCalled (Table table) own old mid (Some (local.Numbered own))
table_called_none table own old mid n h is = record { reads = table_label_none table own old mid n h is; none = λ tame e. absurd (cc) }

pub table_called : (table : Bytes) (own : ℕ) (old mid last after now : Reader) (n size offset : ℕ) (text : Option Bytes) (name : Option the_local.LocalName) → Reads number old mid n → n ≡ size + 1 → Reads number mid last offset
    → IsTextAt table offset size last after text → (text ≡ None → text_at table offset size ≡ beyond_table) → IsLocalNamed text after name now → ReadsCalled (Table table) own old now name
table_called table own old mid last after now n size offset text name h is b at beyond named = record {
  reads = table_label table own old mid last after now n size offset text name h is b at named;
  none = λ tame e. by text at beyond (subst (λ nm. IsLocalNamed text after nm now) e named) tame;
}
  where
    value_is : ((label (read_only table) own).read old.walk).0 ≡ Named (text_at table offset size)
    value_is = ap (λ (p : Option Bytes × Walk). called own p.0) (table_some table old mid last n size offset h is b)

    settled : IsSettled old.walk → IsSettled after.walk
    settled tame =
        let mid_is : mid.walk ≡ (next old.walk).1 = ap (λ (q : Reader). q.walk) h.reader in
        let last_is : last.walk ≡ (next mid.walk).1 = ap (λ (q : Reader). q.walk) b.reader in
        let after_is : after.walk ≡ ask 8 (is_within table offset size) last.walk = ap (λ (q : Reader). q.walk) at.reader in
        let first : IsSettled mid.walk = subst IsSettled (sym mid_is) (settled_taken old.walk tame) in
        let second : IsSettled last.walk = subst IsSettled (sym last_is) (settled_taken mid.walk first) in
        subst IsSettled (sym after_is) (settled_asked 8 (is_within table offset size) last.walk second)

    by : (text : Option Bytes) → IsTextAt table offset size last after text → (text ≡ None → text_at table offset size ≡ beyond_table) → IsLocalNamed text after None now → IsSettled old.walk
        → IsBrokenBy 4 now.walk ⊎ (((label (read_only table) own).read old.walk).0 ≡ Named beyond_table)
    by None at beyond named tame = inr (value_is ∙ ap (λ (t : Bytes). Named t) (beyond refl))
    by (Some t) at beyond named tame =
        let now_is : now.walk ≡ ask 4 false after.walk = ap (λ (q : Reader). q.walk) named.1 in
        inl (subst (IsBrokenBy 4) (sym now_is) (asked_in_vain after.walk (settled tame)))
