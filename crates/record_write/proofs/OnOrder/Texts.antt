-- What a table of texts holds once one more is added.
use Rattle.std.proofs.Common.{◌≡◌, ℕ, ◌+◌, Bool, true, false, cond, ◌||◌, List, [], ◌∷◌, ◌++◌, length, Some, None, bytes_eq, refl, sym, ap, ◌∙◌, subst, true≢false, append_assoc}
use Rattle.std.proofs.lemmas.Slice.Eq.{bytes_eq-Decides}
use Rattle.std.proofs.lemmas.Option.{none-some}
use Rattle.std.proofs.lemmas.List.{append-nil, length-append}
use Rattle.std.proofs.lemmas.Bool.{or_left, or_right}
use Rattle.type_table.specs.Names.Entries.{value_of}
use Rattle.module_arena.specs.Module.{Bytes}
use Rattle.record_table.specs.StringTable.{has_text, joined, offset_among}
use Rattle.record_write.specs.Order.Table.{PlacedTexts, Holds, Gains}

same : (a b : Bytes) → bytes_eq a b ≡ true → a ≡ b
same a b h = (bytes_eq-Decides a b).0 h

self : (a : Bytes) → bytes_eq a a ≡ true
self a = (bytes_eq-Decides a a).1 refl

joined_push : (texts : List Bytes) (text : Bytes) → joined (texts ++ text ∷ []) ≡ joined texts ++ text
joined_push [] text = append-nil text
joined_push (t ∷ ts) text = ap (λ (x : Bytes). t ++ x) (joined_push ts text) ∙ sym (append_assoc t (joined ts) text)

has_push : (texts : List Bytes) (text other : Bytes) → has_text (texts ++ text ∷ []) other ≡ true → (has_text texts other ≡ true → ⊥) → text ≡ other
has_push [] text other h none = elim (bytes_eq text other) as (λ b. b ≡ bytes_eq text other → (b || false) ≡ true → text ≡ other) [ true ↦ (λ e k. same text other (sym e)) | false ↦ (λ e k. absurd (true≢false (sym k))) ] refl h
has_push (t ∷ ts) text other h none = elim (bytes_eq t other) as (λ b. b ≡ bytes_eq t other → (b || has_text (ts ++ text ∷ []) other) ≡ true → text ≡ other) [
  | true ↦ (λ e k. absurd (none (or_left (bytes_eq t other) (has_text ts other) (sym e))))
  | false ↦ (λ e k. has_push ts text other k (λ there. none (or_right (bytes_eq t other) (has_text ts other) there)))
] refl h

has_kept : (texts : List Bytes) (text other : Bytes) → has_text texts other ≡ true → has_text (texts ++ text ∷ []) other ≡ true
has_kept [] text other h = absurd (true≢false (sym h))
has_kept (t ∷ ts) text other h = elim (bytes_eq t other) as (λ b. (b || has_text ts other) ≡ true → (b || has_text (ts ++ text ∷ []) other) ≡ true)
    [ true ↦ (λ k. refl) | false ↦ (λ k. has_kept ts text other k) ] h

has_last : (texts : List Bytes) (text : Bytes) → has_text (texts ++ text ∷ []) text ≡ true
has_last [] text = or_left (bytes_eq text text) false (self text)
has_last (t ∷ ts) text = or_right (bytes_eq t text) (has_text (ts ++ text ∷ []) text) (has_last ts text)

-- a text that was there stands where it stood
offset_kept : (texts : List Bytes) (text other : Bytes) → has_text texts other ≡ true → offset_among (texts ++ text ∷ []) other ≡ offset_among texts other
offset_kept [] text other h = absurd (true≢false (sym h))
offset_kept (t ∷ ts) text other h = elim (bytes_eq t other) as (λ b. (b || has_text ts other) ≡ true → cond b 0 (length t + offset_among (ts ++ text ∷ []) other) ≡ cond b 0 (length t + offset_among ts other))
    [ true ↦ (λ k. refl) | false ↦ (λ k. ap (λ n. length t + n) (offset_kept ts text other k)) ] h

-- a new one stands behind all
offset_last : (texts : List Bytes) (text : Bytes) → (has_text texts text ≡ true → ⊥) → offset_among (texts ++ text ∷ []) text ≡ length (joined texts)
offset_last [] text none = ap (λ (b : Bool). cond b 0 (length text + 0)) (self text)
offset_last (t ∷ ts) text none = elim (bytes_eq t text) as (λ b. b ≡ bytes_eq t text → cond b 0 (length t + offset_among (ts ++ text ∷ []) text) ≡ length (t ++ joined ts)) [
  | true ↦ (λ e. absurd (none (or_left (bytes_eq t text) (has_text ts text) (sym e))))
  | false ↦ (λ e. ap (λ n. length t + n) (offset_last ts text (λ there. none (or_right (bytes_eq t text) (has_text ts text) there))) ∙ sym (length-append t (joined ts)))
] refl

-- nothing is added of an empty text
pub gains_nothing : (table : PlacedTexts) (text : Bytes) → text ≡ [] → Gains table table (text ∷ [])
gains_nothing table [] e = record { holds = λ texts h. h }
gains_nothing table (b ∷ bs) e = absurd cc

-- nor of one that is there
pub gains_known : (table : PlacedTexts) (text : Bytes) (offset : ℕ) → value_of table.offsets text ≡ Some offset → Gains table table (text ∷ [])
gains_known table [] offset e = record { holds = λ texts h. h }
gains_known table (b ∷ bs) offset e = record { holds = λ texts h. subst (λ (v : Bool). Holds table (cond v texts (texts ++ (b ∷ bs) ∷ []))) (sym (h.others (b ∷ bs) offset e)) h }

module _ (old new : PlacedTexts) (text : Bytes) (none : value_of old.offsets text ≡ None)
    (offsets : (other : Bytes) → value_of new.offsets other ≡ cond (bytes_eq other text) (Some (length old.bytes)) (value_of old.offsets other))
    (bytes : new.bytes ≡ old.bytes ++ text) where
  module _ (texts : List Bytes) (h : Holds old texts) where
    absent : has_text texts text ≡ true → ⊥
    absent there = none-some _ (sym none ∙ h.placed text there)

    placed_here : (other : Bytes) → has_text (texts ++ text ∷ []) other ≡ true → value_of new.offsets other ≡ Some (offset_among (texts ++ text ∷ []) other)
    placed_here other there = offsets other ∙ (elim (bytes_eq other text) as (λ b. b ≡ bytes_eq other text → cond b (Some (length old.bytes)) (value_of old.offsets other) ≡ Some (offset_among (texts ++ text ∷ []) other)) [
      | true ↦ (λ e. ap Some (ap length h.bytes ∙ sym (offset_last texts text absent) ∙ ap (offset_among (texts ++ text ∷ [])) (sym (same other text (sym e)))))
      | false ↦ (λ e. earlier e (elim (has_text texts other) as (λ b. b ≡ has_text texts other → has_text texts other ≡ true)
          [ true ↦ (λ k. sym k) | false ↦ (λ k. absurd (apart e (has_push texts text other there (λ there2. true≢false (sym there2 ∙ sym k))))) ] refl))
    ] refl)
      where
        apart : false ≡ bytes_eq other text → text ≡ other → ⊥
        apart e is = true≢false (sym (self text) ∙ ap (λ (x : Bytes). bytes_eq x text) is ∙ sym e)

        earlier : false ≡ bytes_eq other text → has_text texts other ≡ true → value_of old.offsets other ≡ Some (offset_among (texts ++ text ∷ []) other)
        earlier e known = h.placed other known ∙ ap Some (sym (offset_kept texts text other known))

    others_here : (other : Bytes) (offset : ℕ) → value_of new.offsets other ≡ Some offset → has_text (texts ++ text ∷ []) other ≡ true
    others_here other offset at = elim (bytes_eq other text) as (λ b. b ≡ bytes_eq other text → cond b (Some (length old.bytes)) (value_of old.offsets other) ≡ Some offset → has_text (texts ++ text ∷ []) other ≡ true) [
      | true ↦ (λ e k. subst (λ (x : Bytes). has_text (texts ++ text ∷ []) x ≡ true) (sym (same other text (sym e))) (has_last texts text))
      | false ↦ (λ e k. has_kept texts text other (h.others other offset k))
    ] refl (sym (offsets other) ∙ at)

    holds_more : Holds new (texts ++ text ∷ [])
    holds_more = record {
      bytes = bytes ∙ ap (λ (x : Bytes). x ++ text) h.bytes ∙ sym (joined_push texts text);
      placed = placed_here;
      others = others_here;
    }

no_text : (texts : List Bytes) (text : Bytes) → (has_text texts text ≡ true → ⊥) → has_text texts text ≡ false
no_text texts text none = elim (has_text texts text) as (λ b. b ≡ has_text texts text → has_text texts text ≡ false) [ true ↦ (λ e. absurd (none (sym e))) | false ↦ (λ e. sym e) ] refl

-- a new text stands behind all others
pub gains_new : (old new : PlacedTexts) (text : Bytes) → value_of old.offsets text ≡ None
    → ((other : Bytes) → value_of new.offsets other ≡ cond (bytes_eq other text) (Some (length old.bytes)) (value_of old.offsets other))
    → new.bytes ≡ old.bytes ++ text → (text ≡ [] → ⊥) → Gains old new (text ∷ [])
gains_new old new [] none offsets bytes some = absurd (some refl)
gains_new old new (b ∷ bs) none offsets bytes some = record {
  holds = λ texts h. subst (λ (v : Bool). Holds new (cond v texts (texts ++ (b ∷ bs) ∷ []))) (sym (no_text texts (b ∷ bs) (absent old new (b ∷ bs) none offsets bytes texts h))) (holds_more old new (b ∷ bs) none offsets bytes texts h);
}
