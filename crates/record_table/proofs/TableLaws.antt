-- Each text of a list stands in the list's table where it is said to stand.
use Rattle.std.proofs.Common.{◌≡◌, ℕ, suc, ◌+◌, ◌≤◌, true, false, ◌&&◌, List, [], ◌∷◌, ◌++◌, length, refl, sym, ap, ◌∙◌, subst, arith, inl, inr}
use Rattle.std.specs.Prelude.{◌||◌, bytes_eq, take, drop}
use Rattle.std.specs.List.{fold}
use Rattle.std.proofs.lemmas.Bool.{and_from, or_cases, or_left, or_right, false≢true, le-leb, cases_Bool}
use Rattle.std.proofs.lemmas.List.{length-append}
use Rattle.std.proofs.lemmas.Slice.Eq.{bytes_eq-Decides}
use Rattle.module_arena.specs.Module.{Bytes}
use Rattle.record_table.specs.StringTable.{has_text, with_text, once_each, joined, offset_among, offset_in, is_within, text_at, in_table_of}

take_whole : (t rest : Bytes) → take (length t) (t ++ rest) ≡ t
take_whole [] rest = refl
take_whole (b ∷ t) rest = ap (λ x. b ∷ x) (take_whole t rest)

drop_past : (t rest : Bytes) (n : ℕ) → drop (length t + n) (t ++ rest) ≡ drop n rest
drop_past [] rest n = ap (λ k. drop k rest) (omega arith)
drop_past (b ∷ t) rest n = one_more (omega arith) ∙ drop_past t rest n
  where
    one_more : suc (length t) + n ≡ suc (length t + n) → drop (suc (length t) + n) (b ∷ (t ++ rest)) ≡ drop (length t + n) (t ++ rest)
    one_more e = ap (λ k. drop k (b ∷ (t ++ rest))) e

abbrev Stands : Bytes → ℕ → Bytes → Type 0
Stands table offset text = (offset + length text ≤ length table) × (take (length text) (drop offset table) ≡ text)

at_front : (t rest : Bytes) → Stands (t ++ rest) 0 t
at_front t rest = (subst (λ n. 0 + length t ≤ n) (sym (length-append t rest)) (omega arith), take_whole t rest)

behind : (t rest : Bytes) (offset : ℕ) (text : Bytes) → Stands rest offset text → Stands (t ++ rest) (length t + offset) text
behind t rest offset text h =
    (subst (λ n. length t + offset + length text ≤ n) (sym (length-append t rest)) (omega (arith, h.0)), ap (take (length text)) (drop_past t rest offset) ∙ h.1)

stands_among : (all : List Bytes) (text : Bytes) → has_text all text ≡ true → Stands (joined all) (offset_among all text) text
stands_among [] text h = absurd (false≢true h)
stands_among (t ∷ all) text h = elim (cases_Bool (bytes_eq t text)) [
  | inl same ↦ rw same (subst (λ x. Stands (t ++ joined all) 0 x) ((bytes_eq-Decides t text).0 same) (at_front t (joined all)))
  | inr other ↦ rw other (behind t (joined all) (offset_among all text) text (stands_among all text (subst (λ x. (x || has_text all text) ≡ true) other h)))
]

-- a text of the first texts, or of the others, is one of both
pub in_front : (all more : List Bytes) (text : Bytes) → has_text all text ≡ true → has_text (all ++ more) text ≡ true
in_front [] more text h = absurd (false≢true h)
in_front (t ∷ all) more text h = elim (or_cases (bytes_eq t text) (has_text all text) h) [
  | inl same ↦ or_left (bytes_eq t text) (has_text (all ++ more) text) same
  | inr later ↦ or_right (bytes_eq t text) (has_text (all ++ more) text) (in_front all more text later)
]

pub in_rest : (all more : List Bytes) (text : Bytes) → has_text more text ≡ true → has_text (all ++ more) text ≡ true
in_rest [] more text h = h
in_rest (t ∷ all) more text h = or_right (bytes_eq t text) (has_text (all ++ more) text) (in_rest all more text h)

-- a text stays among texts to which others are added
kept : (all : List Bytes) (other text : Bytes) → has_text all text ≡ true → has_text (with_text all other) text ≡ true
kept all [] text h = h
kept all (b ∷ bs) text h = elim (cases_Bool (has_text all (b ∷ bs))) [
  | inl there ↦ rw there h
  | inr new ↦ rw new (in_front all ((b ∷ bs) ∷ []) text h)
]

added : (all : List Bytes) (b : ℕ) (bs : Bytes) → has_text (with_text all (b ∷ bs)) (b ∷ bs) ≡ true
added all b bs = elim (cases_Bool (has_text all (b ∷ bs))) [
  | inl there ↦ rw there there
  | inr new ↦ rw new (any_behind all)
]
  where
    any_behind : (all : List Bytes) → has_text (all ++ (b ∷ bs) ∷ []) (b ∷ bs) ≡ true
    any_behind [] = or_left (bytes_eq (b ∷ bs) (b ∷ bs)) false ((bytes_eq-Decides (b ∷ bs) (b ∷ bs)).1 refl)
    any_behind (t ∷ all) = or_right (bytes_eq t (b ∷ bs)) (has_text (all ++ (b ∷ bs) ∷ []) (b ∷ bs)) (any_behind all)

kept_by_all : (texts all : List Bytes) (text : Bytes) → has_text all text ≡ true → has_text (fold with_text all texts) text ≡ true
kept_by_all [] all text h = h
kept_by_all (t ∷ texts) all text h = kept_by_all texts (with_text all t) text (kept all t text h)

gathered : (texts all : List Bytes) (b : ℕ) (bs : Bytes) → has_text texts (b ∷ bs) ≡ true → has_text (fold with_text all texts) (b ∷ bs) ≡ true
gathered [] all b bs h = absurd (false≢true h)
gathered (t ∷ texts) all b bs h = elim (or_cases (bytes_eq t (b ∷ bs)) (has_text texts (b ∷ bs)) h) [
  | inl same ↦ kept_by_all texts (with_text all t) (b ∷ bs) (subst (λ x. has_text (with_text all x) (b ∷ bs) ≡ true) (sym ((bytes_eq-Decides t (b ∷ bs)).0 same)) (added all b bs))
  | inr later ↦ gathered texts (with_text all t) b bs later
]

held_by : (table text : Bytes) (offset : ℕ) → Stands table offset text → (is_within table offset (length text) && bytes_eq (text_at table offset (length text)) text) ≡ true
held_by table text offset h =
    let within : is_within table offset (length text) ≡ true = le-leb (offset + length text) (length table) h.0 in
    and_from (is_within table offset (length text)) (bytes_eq (text_at table offset (length text)) text) within
    (rw within ((bytes_eq-Decides (take (length text) (drop offset table)) text).1 h.1))

-- each text is held in the table, and the empty one always
pub held_in_table : (texts : List Bytes) (text : Bytes) → has_text texts text ≡ true → (in_table_of texts).holds text ≡ true
held_in_table texts [] h = held_by (joined (once_each texts)) [] 0 (omega arith, refl)
held_in_table texts (b ∷ bs) h =
    held_by (joined (once_each texts)) (b ∷ bs) (offset_in (once_each texts) (b ∷ bs)) (stands_among (once_each texts) (b ∷ bs) (gathered texts [] b bs h))
