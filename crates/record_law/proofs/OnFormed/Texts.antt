-- Texts that are read are bytes, and what is read of the last one does not depend on rules that are broken before it.
use Rattle.std.proofs.Common.{◌≡◌, ℕ, zero, suc, Bool, true, false, ◌&&◌, not, List, [], ◌∷◌, length, take, drop, cond, Option, Some, None, nat_lt, ◌<◌, refl, sym, ap, subst, ◌∙◌, inl, inr, arith}
use Rattle.std.specs.Prelude.{◌==◌}
use Rattle.std.specs.List.{list_all, AllByRecursion}
use Rattle.std.proofs.lemmas.Bool.{and_parts, and_from, eqb-false, lt-ltb, ltb-true, ne_eqb, not-true}
use Rattle.module_arena.specs.Module.{Bytes, LocalName, Named, Numbered}
use Rattle.module_arena.specs.Names as arena
use Rattle.record_table.specs.Walk.{Walk, going, stopped, ask, break, next}
use Rattle.record_table.specs.Layout.{many}
use Rattle.record_table.specs.Fields.{Texts, version_1, below, byte, called, is_label, is_name, label, label_by, name, text}
use Rattle.record_table.specs.StringTable.{beyond, is_within, label_at, read_only, text_at}
use Rattle.record_law.proofs.OnFormed.Good.{AreTexts}
use Rattle.record_law.proofs.OnFormed.Tests.{all_pass, drop_pass, take_pass}
use Rattle.record_law.proofs.OnFormed.Unbroken.{IsFine, IsRead, IsSound, OfSome, asked_back, asked_sound, asking_read, counted_read, many_read, mapped_read, next_back, next_sound, number_read, to_end_read, weaker_read}

-- ---- walks that differ in what is broken alone

abbrev pub IsAlike : Walk → Walk → Type 0
IsAlike (going r b) (going s c) = r ≡ s
IsAlike (going r b) (stopped c) = ⊥
IsAlike (stopped b) (going s c) = ⊥
IsAlike (stopped b) (stopped c) = Unit {0}

pub next_alike : (w v : Walk) → IsAlike w v → ((next w).0 ≡ (next v).0) × IsAlike (next w).1 (next v).1
unfolding next
next_alike (going [] b) (going [] c) e = (refl, tt)
next_alike (going [] b) (going (n ∷ s) c) e = absurd (cc)
next_alike (going (n ∷ r) b) (going [] c) e = absurd (cc)
next_alike (going (n ∷ r) b) (going (m ∷ s) c) e = (cc, cc)
next_alike (going r b) (stopped c) e = absurd e
next_alike (stopped b) (going s c) e = absurd e
next_alike (stopped b) (stopped c) e = (refl, tt)

break_alike : (q r : ℕ) (w v : Walk) → IsAlike w v → IsAlike (break q w) v
break_alike q r (going s b) (going t c) e = e
break_alike q r (going s b) (stopped c) e = e
break_alike q r (stopped b) (going t c) e = e
break_alike q r (stopped b) (stopped c) e = e

alike_break : (q r : ℕ) (w v : Walk) → IsAlike w v → IsAlike w (break r v)
alike_break q r (going s b) (going t c) e = e
alike_break q r (going s b) (stopped c) e = e
alike_break q r (stopped b) (going t c) e = e
alike_break q r (stopped b) (stopped c) e = e

pub ask_alike : (q r : ℕ) (x y : Bool) (w v : Walk) → IsAlike w v → IsAlike (ask q x w) (ask r y v)
ask_alike q r true true w v e = e
ask_alike q r true false w v e = alike_break q r w v e
ask_alike q r false true w v e = break_alike q r w v e
ask_alike q r false false w v e = alike_break q r (break q w) v (break_alike q r w v e)

bytes_alike : (n : ℕ) (w v : Walk) → IsAlike w v → (many byte.read n w).0 ≡ (many byte.read n v).0
unfolding many
bytes_alike zero w v e = refl
bytes_alike (suc n) (going r b) (going s c) e =
    let one = next_alike (going r b) (going s c) e in
    let x = next (going r b) in
    let y = next (going s c) in
    ap (λ k. k ∷ (many byte.read n (ask 3 (nat_lt x.0 256) x.1)).0) one.0
    ∙ ap (λ (ks : List ℕ). y.0 ∷ ks) (bytes_alike n (ask 3 (nat_lt x.0 256) x.1) (ask 3 (nat_lt y.0 256) y.1) (ask_alike 3 3 (nat_lt x.0 256) (nat_lt y.0 256) x.1 y.1 one.1))
bytes_alike (suc n) (going r b) (stopped c) e = absurd e
bytes_alike (suc n) (stopped b) (going s c) e = absurd e
bytes_alike (suc n) (stopped b) (stopped c) e = refl

-- ---- how texts stand

-- texts are bytes, and a last text is the same whatever is broken before it
pub record HoldsTexts (t : Texts) : Type 0 where
  pub middle : IsRead (λ b. arena.are_bytes b ≡ true) t.middle.read
  pub last : IsRead (λ b. arena.are_bytes b ≡ true) t.last.read
  pub label : IsRead (OfSome (λ b. arena.are_bytes b ≡ true)) t.label.read
  pub alike : (w v : Walk) → IsAlike w v → (t.last.read w).0 ≡ (t.last.read v).0

pub below_read : (limit : ℕ) → IsRead (λ n. nat_lt n limit ≡ true) (below limit).read
below_read limit = weaker_read (asking_read 3 (λ n. nat_lt n limit) number_read) (λ n. nat_lt n limit ≡ true) (λ n h. h.1)

pub byte_read : IsRead (λ n. nat_lt n 256 ≡ true) byte.read
byte_read = below_read 256

are_bytes_of : (bytes : Bytes) → AllByRecursion (λ n. nat_lt n 256 ≡ true) bytes → arena.are_bytes bytes ≡ true
are_bytes_of bytes h = all_pass (λ b. nat_lt b 256) bytes h

-- bytes behind their count
pub text_read : IsRead (λ b. arena.are_bytes b ≡ true) text.read
text_read = weaker_read (counted_read byte_read) (λ b. arena.are_bytes b ≡ true) are_bytes_of

-- bytes to the end of a record
pub bytes_read : IsRead (λ b. arena.are_bytes b ≡ true) version_1.last.read
bytes_read = weaker_read (to_end_read byte_read) (λ b. arena.are_bytes b ≡ true) are_bytes_of

label_back : (n : ℕ) (w : Walk) → IsFine (label_by n w).1 → IsFine w × OfSome (λ b. arena.are_bytes b ≡ true) (label_by n w).0
unfolding label_by
label_back zero w h = (h, tt)
label_back (suc size) w h = let r = (many_read byte_read size).back w h in (r.0, are_bytes_of (many byte.read size w).0 r.1.0)

label_sound : (n : ℕ) (w : Walk) → IsSound w → IsSound (label_by n w).1
unfolding label_by
label_sound zero w s = s
label_sound (suc size) w s = (many_read byte_read size).sound w s

left_alike : (w v : Walk) → IsAlike w v → (version_1.last.read w).0 ≡ (version_1.last.read v).0
left_alike (going r b) (going s c) e =
    bytes_alike (length r) (going r b) (going s c) e ∙ ap (λ (k : List ℕ). (many byte.read (length k) (going s c)).0) e
left_alike (going r b) (stopped c) e = absurd e
left_alike (stopped b) (going s c) e = absurd e
left_alike (stopped b) (stopped c) e = bytes_alike 0 (stopped b) (stopped c) e

-- in version 1
pub inline_holds : HoldsTexts version_1
inline_holds = record {
  middle = text_read;
  last = bytes_read;
  label = record {
    back = λ w h. let r = label_back (next w).0 (next w).1 h in (next_back w r.0, r.1);
    sound = λ w s. label_sound (next w).0 (next w).1 (next_sound w s);
  };
  alike = left_alike;
}

text_bytes : (table : Bytes) (offset size : ℕ) → arena.are_bytes table ≡ true → is_within table offset size ≡ true → arena.are_bytes (text_at table offset size) ≡ true
text_bytes table offset size bytes within =
    ap (λ b. arena.are_bytes (cond b (take size (drop offset table)) (beyond size))) within
    ∙ take_pass (λ b. nat_lt b 256) size (drop offset table) (drop_pass (λ b. nat_lt b 256) offset table bytes)

module _ (table : Bytes) (bytes : arena.are_bytes table ≡ true) where
  at_back : (n : ℕ) (w : Walk) → IsFine (label_at table n w).1 → IsFine w × OfSome (λ b. arena.are_bytes b ≡ true) (label_at table n w).0
  unfolding label_at
  at_back zero w h = (h, tt)
  at_back (suc size) w h =
      let a = asked_back 8 (is_within table (next w).0 size) (next w).1 h in
      (next_back w a.0, text_bytes table (next w).0 size bytes a.1)

  at_sound : (n : ℕ) (w : Walk) → IsSound w → IsSound (label_at table n w).1
  unfolding label_at
  at_sound zero w s = s
  at_sound (suc size) w s = asked_sound 8 (is_within table (next w).0 size) (next w).1 (next_sound w s)

  sized_read : IsRead (λ b. arena.are_bytes b ≡ true) (read_only table).last.read
  sized_read = record {
    back = λ w h.
        let offset = next w in
        let size = next offset.1 in
        let a = asked_back 8 (is_within table offset.0 size.0) size.1 h in
        (next_back w (next_back offset.1 a.0), text_bytes table offset.0 size.0 bytes a.1);
    sound = λ w s.
        let offset = next w in
        let size = next offset.1 in
        asked_sound 8 (is_within table offset.0 size.0) size.1 (next_sound offset.1 (next_sound w s));
  }

  -- in a table
  pub table_holds : HoldsTexts (read_only table)
  table_holds = record {
    middle = sized_read;
    last = sized_read;
    label = record {
      back = λ w h. let r = at_back (next w).0 (next w).1 h in (next_back w r.0, r.1);
      sound = λ w s. at_sound (next w).0 (next w).1 (next_sound w s);
    };
    alike = λ w v e.
        let one = next_alike w v e in
        let two = next_alike (next w).1 (next v).1 one.1 in
        ap (λ n. text_at table n (next (next w).1).0) one.0 ∙ ap (λ n. text_at table (next v).0 n) two.0;
  }

pub texts_hold : (t : Texts) → AreTexts t → HoldsTexts t
texts_hold t (inl inline) = subst HoldsTexts (sym inline) inline_holds
texts_hold t (inr (table, bytes, is)) = subst HoldsTexts (sym is) (table_holds table bytes)

-- ---- names

named_bytes : (bs : Bytes) → list_all (λ b. nat_lt b 256) bs ≡ true → list_all (λ c. not (c == 0)) bs ≡ true → list_all (λ c. nat_lt 0 c && nat_lt c 256) bs ≡ true
named_bytes [] h k = refl
named_bytes (b ∷ bs) h k =
    let p = and_parts (nat_lt b 256) (list_all (λ b. nat_lt b 256) bs) h in
    let q = and_parts (not (b == 0)) (list_all (λ c. not (c == 0)) bs) k in
    and_from (nat_lt 0 b && nat_lt b 256) (list_all (λ c. nat_lt 0 c && nat_lt c 256) bs) (and_from (nat_lt 0 b) (nat_lt b 256) (positive b q.0) p.0) (named_bytes bs p.1 q.1)
  where
    positive : (b : ℕ) → not (b == 0) ≡ true → nat_lt 0 b ≡ true
    positive b e = let differs : b ≡ 0 → ⊥ = eqb-false b 0 (not-true (b == 0) e) in lt-ltb 0 b (omega arith)

-- bytes that a record may give as a name are one
pub name_good : (bytes : Bytes) → arena.are_bytes bytes ≡ true → is_name bytes ≡ true → arena.is_name bytes ≡ true
name_good [] h k = k
name_good (b ∷ bs) h k = named_bytes (b ∷ bs) h k

not_zero : (bs : Bytes) → list_all (λ c. nat_lt 0 c && nat_lt c 256) bs ≡ true → list_all (λ c. not (c == 0)) bs ≡ true
not_zero [] h = refl
not_zero (c ∷ bs) h =
    let p = and_parts (nat_lt 0 c && nat_lt c 256) (list_all (λ c. nat_lt 0 c && nat_lt c 256) bs) h in
    and_from (not (c == 0)) (list_all (λ c. not (c == 0)) bs) (positive c (and_parts (nat_lt 0 c) (nat_lt c 256) p.0).0) (not_zero bs p.1)
  where
    positive : (c : ℕ) → nat_lt 0 c ≡ true → not (c == 0) ≡ true
    positive c e = let less : 0 < c = ltb-true 0 c e in ap not (ne_eqb c 0 (omega arith))

-- and the other way
pub name_again : (bytes : Bytes) → arena.is_name bytes ≡ true → is_name bytes ≡ true
name_again [] h = h
name_again (b ∷ bs) h = not_zero (b ∷ bs) h

-- a local that is called by a name, or has that number
abbrev pub IsCalled : ℕ → LocalName → Type 0
IsCalled own (Named bytes) = arena.is_name bytes ≡ true
IsCalled own (Numbered n) = n ≡ own

called_so : (own : ℕ) (o : Option Bytes) → OfSome (λ b. arena.are_bytes b ≡ true) o × (is_label o ≡ true) → IsCalled own (called own o)
called_so own None h = refl
called_so own (Some bytes) h = name_good bytes h.0 h.1

module _ (t : Texts) (holds : HoldsTexts t) where
  -- a name
  pub name_read : IsRead (λ b. arena.is_name b ≡ true) (name t).read
  name_read = weaker_read (asking_read 4 is_name holds.middle) (λ b. arena.is_name b ≡ true) (λ b h. name_good b h.0 h.1)

  -- the name of a local, or none
  pub label_read : (own : ℕ) → IsRead (IsCalled own) (label t own).read
  label_read own = mapped_read (asking_read 4 is_label holds.label) (IsCalled own) (called own) (called_so own)
