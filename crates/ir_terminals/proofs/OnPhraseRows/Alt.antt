-- Either of two phrases is read, and a phrase that may be left out.
use Rattle.std.proofs.Common.{◌≡◌, ℕ, ◌≤◌, List, [], ◌∷◌, ◌++◌, length, Bool, true, false, ◌⊎◌, inl, inr, refl, ◌∙◌, cond, Some, None}
use Rattle.ir_terminals.specs.PhraseRows.Row.{Reading, Done, Bad, Row, apart, begins, alt, optional}
use Rattle.ir_terminals.specs.PhraseRows.Reads.{Stops, Front, Takes, tokens_behind, Reads}
use Rattle.ir_terminals.proofs.OnPhraseRows.ListParts.{apart_out, takes_left, stops_left, stops_right, begins_left, begins_right}
use Rattle.ir_terminals.proofs.OnPhraseRows.Plain.{reads_nothing, reads_mapped}

module _ {T A : Type 0} (class : T → ℕ) (p q : Row T A) (hp : Reads class p p.shape) (hq : Reads class q q.shape) (ok : apart p.shape.first q.shape.first ≡ true) (some : p.shape.empty ≡ false) where
  alt_takes_left : (ts : List T) (x : Reading T A) → Takes p ts x → Takes (alt class p q) ts x
  alt_takes_left ts (Done a rest) h = (h.0, h.1, inl h.2)
  alt_takes_left ts (Bad rest) h = (h.0, h.1, inl h.2)

  alt_takes_right : (ts : List T) (x : Reading T A) → Takes q ts x → Takes (alt class p q) ts x
  alt_takes_right ts (Done a rest) h = (h.0, h.1, inr h.2)
  alt_takes_right ts (Bad rest) h = (h.0, h.1, inr h.2)

  alt_takes_either : (ts : List T) (b : Bool) → Takes (alt class p q) ts (cond b (p.run ts) (q.run ts))
  alt_takes_either ts true = alt_takes_left ts (p.run ts) (hp.takes ts)
  alt_takes_either ts false = alt_takes_right ts (q.run ts) (hq.takes ts)

  alt_takes : (ts : List T) → Takes (alt class p q) ts ((alt class p q).run ts)
  alt_takes ts = alt_takes_either ts (begins class p.shape.first ts)

  to_left : (u : T) (us rest : List T) → Front p (u ∷ us) → (alt class p q).run (u ∷ (us ++ rest)) ≡ p.run (u ∷ (us ++ rest))
  to_left u us rest f = rw (hp.begins (u ∷ us) f) refl

  to_right : (u : T) (us rest : List T) → Front q (u ∷ us) → (alt class p q).run (u ∷ (us ++ rest)) ≡ q.run (u ∷ (us ++ rest))
  to_right u us rest f = rw (apart_out (class u) p.shape.first q.shape.first ok (hq.begins (u ∷ us) f)) refl

  to_right_at : (rest : List T) → q.shape.empty ≡ true → Stops class (cond q.shape.empty p.shape.first []) rest → (alt class p q).run rest ≡ q.run rest
  to_right_at [] e st = refl
  to_right_at (t ∷ ts) e st = rw (rw e at st) refl

  alt_complete : (us rest : List T) (a : A) → (alt class p q).whole us a → Stops class (alt class p q).shape.more rest → (alt class p q).run (us ++ rest) ≡ Done a rest
  alt_complete [] rest a (inl w) st = absurd (let h = hp.empty a w in cc)
  alt_complete (u ∷ us) rest a (inl w) st = to_left u us rest (inl (a, w)) ∙ hp.complete (u ∷ us) rest a w (stops_left class p.shape.more q.shape.more rest (stops_left class (p.shape.more ++ q.shape.more) (cond q.shape.empty p.shape.first []) rest st))
  alt_complete [] rest a (inr w) st =
      let m = stops_right class p.shape.more q.shape.more rest (stops_left class (p.shape.more ++ q.shape.more) (cond q.shape.empty p.shape.first []) rest st) in
      to_right_at rest (hq.empty a w) (stops_right class (p.shape.more ++ q.shape.more) (cond q.shape.empty p.shape.first []) rest st) ∙ hq.complete [] rest a w m
  alt_complete (u ∷ us) rest a (inr w) st = to_right u us rest (inl (a, w)) ∙ hq.complete (u ∷ us) rest a w (stops_right class p.shape.more q.shape.more rest (stops_left class (p.shape.more ++ q.shape.more) (cond q.shape.empty p.shape.first []) rest st))

  either : (us : List T) → Front (alt class p q) us → Front p us ⊎ Front q us
  either us (inl (a, inl w)) = inl (inl (a, w))
  either us (inl (a, inr w)) = inr (inl (a, w))
  either us (inr (inl c)) = inl (inr c)
  either us (inr (inr c)) = inr (inr c)

  front_left : (us : List T) → Front p us → Front (alt class p q) us
  front_left us (inl w) = inl (w.0, inl w.1)
  front_left us (inr c) = inr (inl c)

  front_right : (us : List T) → Front q us → Front (alt class p q) us
  front_right us (inl w) = inl (w.0, inr w.1)
  front_right us (inr c) = inr (inr c)

  alt_past : (us rest : List T) → Front p us ⊎ Front q us → length (tokens_behind ((alt class p q).run (us ++ rest))) ≤ length rest
  alt_past [] rest f = takes_left (alt class p q) rest ((alt class p q).run rest) (alt_takes rest)
  alt_past (u ∷ us) rest (inl f) = rw (to_left u us rest f) (hp.past (u ∷ us) rest f)
  alt_past (u ∷ us) rest (inr f) = rw (to_right u us rest f) (hq.past (u ∷ us) rest f)

  pub reads_alt_at : Reads class (alt class p q) (alt class p q).shape
  reads_alt_at = record {
    takes = alt_takes;
    complete = alt_complete;
    past = λ us rest f. alt_past us rest (either us f);
    begins = λ us f. elim (either us f) [
      | inl g ↦ begins_left class p.shape.first q.shape.first us (hp.begins us g)
      | inr g ↦ begins_right class p.shape.first q.shape.first us (hq.begins us g)
    ];
    empty = λ a w. elim w [ inl g ↦ absurd (let h = hp.empty a g in cc) | inr g ↦ hq.empty a g ];
    none = front_left [] hp.none;
    closed = λ us vs f. elim (either (us ++ vs) f) [ inl g ↦ front_left us (hp.closed us vs g) | inr g ↦ front_right us (hq.closed us vs g) ];
  }

pub reads_alt : {T A : Type 0} (class : T → ℕ) {p q : Row T A} → Reads class p p.shape → Reads class q q.shape → apart p.shape.first q.shape.first ≡ true → p.shape.empty ≡ false → Reads class (alt class p q) (alt class p q).shape
reads_alt class {p} {q} hp hq ok some = reads_alt_at class p q hp hq ok some

pub apart_nil : (xs : List ℕ) → apart xs [] ≡ true
apart_nil [] = refl
apart_nil (x ∷ xs) = apart_nil xs

pub reads_optional : {T A : Type 0} (class : T → ℕ) {p : Row T A} → Reads class p p.shape → p.shape.empty ≡ false → Reads class (optional class p) (optional class p).shape
reads_optional class {p} hp some = reads_alt class (reads_mapped class Some hp) (reads_nothing class None) (apart_nil p.shape.first) some
