-- One phrase after another is read.
use Rattle.std.proofs.Common.{◌≡◌, ℕ, ◌≤◌, List, [], ◌∷◌, ◌++◌, length, true, ◌⊎◌, inl, inr, refl, sym, ap, subst, ◌∙◌, append_assoc, append-nil, arith, ◌&&◌}
use Rattle.ir_terminals.specs.PhraseRows.Row.{Reading, Done, Bad, bind, PhraseShape, Row, apart, chain, joined_values, keep_second, keep_first, pair, mapped}
use Rattle.ir_terminals.specs.PhraseRows.Reads.{Stops, Begins, Front, Takes, tokens_behind, Reads}
use Rattle.ir_terminals.proofs.OnPhraseRows.ListParts.{split, nil_parts, apart_out, takes_left, bind_left, stops_if, stops_and, begins_if, begins_and}
use Rattle.ir_terminals.proofs.OnPhraseRows.Plain.{reads_mapped}

module _ {T A B : Type 0} (class : T → ℕ) (p : Row T A) (s : PhraseShape) (q : A → Row T B) (hp : Reads class p p.shape) (hq : (a : A) → Reads class (q a) s) (ok : apart p.shape.more s.first ≡ true) where
  chain_takes_second : (ts us mid : List T) (a : A) (x : Reading T B) → ts ≡ us ++ mid → p.whole us a → Takes (q a) mid x → Takes (chain p s q) ts x
  chain_takes_second ts us mid a (Done b rest) e w h = (us ++ h.0, e ∙ ap (λ (t : List T). us ++ t) h.1 ∙ sym (append_assoc us h.0 rest), (us, h.0, a, refl, w, h.2))
  chain_takes_second ts us mid a (Bad rest) e w h = (us ++ h.0, e ∙ ap (λ (t : List T). us ++ t) h.1 ∙ sym (append_assoc us h.0 rest), inr (us, h.0, a, refl, w, h.2))

  chain_takes : (ts : List T) (x : Reading T A) → Takes p ts x → Takes (chain p s q) ts (bind x (λ a rest. (q a).run rest))
  chain_takes ts (Done a rest) h = chain_takes_second ts h.0 rest a ((q a).run rest) h.1 h.2 ((hq a).takes rest)
  chain_takes ts (Bad rest) h = (h.0, h.1, inl h.2)

  -- a front of the two is one of the first, or a whole first and a front of the second
  Two : List T → Type 0
  Two ts = (us : List T) × (vs : List T) × (a : A) × (ts ≡ us ++ vs) × p.whole us a × Front (q a) vs

  parts : (ts : List T) → Front (chain p s q) ts → p.cut ts ⊎ Two ts
  unfolding Two
  parts ts (inl (b, (us, vs, a, e, w, v))) = inr (us, vs, a, e, w, inl (b, v))
  parts ts (inr (inl c)) = inl c
  parts ts (inr (inr (us, vs, a, e, w, v))) = inr (us, vs, a, e, w, inr v)

  two : (us vs : List T) (a : A) → p.whole us a → Front (q a) vs → Front (chain p s q) (us ++ vs)
  two us vs a w (inl (b, v)) = inl (b, (us, vs, a, refl, w, v))
  two us vs a w (inr c) = inr (inr (us, vs, a, refl, w, c))

  from_first : (us : List T) → Front p us → Front (chain p s q) us
  from_first us (inl (a, w)) = subst (λ (t : List T). Front (chain p s q) t) (append-nil us) (two us [] a w (hq a).none)
  from_first us (inr c) = inr (inl c)

  stops_between : (a : A) (vs rest : List T) → Front (q a) vs → (vs ≡ [] → Stops class p.shape.more rest) → Stops class p.shape.more (vs ++ rest)
  stops_between a [] rest f h = h refl
  stops_between a (v ∷ vs) rest f h = apart_out (class v) p.shape.more s.first ok ((hq a).begins (v ∷ vs) f)

  shrinks : (a : A) (rest : List T) → length (tokens_behind ((q a).run rest)) ≤ length rest
  shrinks a rest = takes_left (q a) rest ((q a).run rest) ((hq a).takes rest)

  past_first : (us rest : List T) → Front p us → length (tokens_behind ((chain p s q).run (us ++ rest))) ≤ length rest
  past_first us rest f =
      let h = bind_left (p.run (us ++ rest)) (λ a rest. (q a).run rest) shrinks in
      let g = hp.past us rest f in
      omega (arith, h, g)

  past_two : (us vs rest : List T) (a : A) → p.whole us a → Front (q a) vs → length (tokens_behind ((chain p s q).run (us ++ (vs ++ rest)))) ≤ length rest
  past_two us [] rest a w f = past_first us rest (inl (a, w))
  past_two us (v ∷ vs) rest a w f = rw (hp.complete us (v ∷ (vs ++ rest)) a w (stops_between a (v ∷ vs) rest f (λ e. absurd cc))) ((hq a).past (v ∷ vs) rest f)

  begins_two : (us vs : List T) (a : A) → p.whole us a → Front (q a) vs → Begins class (chain p s q).shape.first (us ++ vs)
  begins_two [] vs a w f = begins_and class p.shape.empty p.shape.first s.first vs ((hq a).begins vs f) (hp.empty a w)
  begins_two (u ∷ us) vs a w f = begins_if class p.shape.empty p.shape.first s.first (u ∷ (us ++ vs)) (hp.begins (u ∷ us) (inl (a, w)))

  closed_two : (us vs xs ys : List T) (a : A) → us ++ vs ≡ xs ++ ys → p.whole xs a → Front (q a) ys → Front (chain p s q) us
  closed_two us vs xs ys a e w f = elim (split us vs xs ys e) [
    | inl m ↦ from_first us (hp.closed us m.0 (inl (a, rw m.1 at w)))
    | inr m ↦ rw m.1 (two xs m.0 a w ((hq a).closed m.0 vs (rw m.2 at f)))
  ]

  complete_two : (us rest : List T) (b : B) → (chain p s q).whole us b → Stops class (chain p s q).shape.more rest → (chain p s q).run (us ++ rest) ≡ Done b rest
  complete_two us rest b (xs, ys, a, e, w, v) st =
      let mid = stops_between a ys rest (inl (b, v)) (λ n. stops_and class s.empty s.more p.shape.more rest st ((hq a).empty b (rw n at v))) in
      rw (e, append_assoc xs ys rest, hp.complete xs (ys ++ rest) a w mid) ((hq a).complete ys rest b v (stops_if class s.empty s.more p.shape.more rest st))

  empty_two : (b : B) → (chain p s q).whole [] b → (p.shape.empty && s.empty) ≡ true
  empty_two b (xs, ys, a, e, w, v) =
      let n = nil_parts xs ys (sym e) in
      rw (hp.empty a (rw n.0 at w)) (rw ((hq a).empty b (rw n.1 at v)) refl)

  pub reads_chain_at : Reads class (chain p s q) (chain p s q).shape
  unfolding Two
  reads_chain_at = record {
    takes = λ ts. chain_takes ts (p.run ts) (hp.takes ts);
    complete = complete_two;
    past = λ us rest f. elim (parts us f) [
      | inl c ↦ past_first us rest (inr c)
      | inr m ↦ rw (m.3, append_assoc m.0 m.1 rest) (past_two m.0 m.1 rest m.2 m.4 m.5)
    ];
    begins = λ us f. elim (parts us f) [
      | inl c ↦ begins_if class p.shape.empty p.shape.first s.first us (hp.begins us (inr c))
      | inr m ↦ rw m.3 (begins_two m.0 m.1 m.2 m.4 m.5)
    ];
    empty = empty_two;
    none = from_first [] hp.none;
    closed = λ us vs f. elim (parts (us ++ vs) f) [
      | inl c ↦ from_first us (hp.closed us vs (inr c))
      | inr m ↦ closed_two us vs m.0 m.1 m.2 m.3 m.4 m.5
    ];
  }

pub reads_chain : {T A B : Type 0} (class : T → ℕ) {p : Row T A} {s : PhraseShape} {q : A → Row T B} → Reads class p p.shape → ((a : A) → Reads class (q a) s) → apart p.shape.more s.first ≡ true → Reads class (chain p s q) (chain p s q).shape
reads_chain class {p} {s} {q} hp hq ok = reads_chain_at class p s q hp hq ok

pub reads_both : {T A B C : Type 0} (class : T → ℕ) (f : A → B → C) {p : Row T A} {q : Row T B} → Reads class p p.shape → Reads class q q.shape → apart p.shape.more q.shape.first ≡ true → Reads class (joined_values f p q) (joined_values f p q).shape
reads_both class f {p} {q} hp hq ok = reads_chain_at class p q.shape (λ a. mapped (f a) q) hp (λ a. reads_mapped class (f a) hq) ok

pub reads_second : {T A B : Type 0} (class : T → ℕ) {p : Row T A} {q : Row T B} → Reads class p p.shape → Reads class q q.shape → apart p.shape.more q.shape.first ≡ true → Reads class (keep_second p q) (keep_second p q).shape
reads_second class {p} {q} hp hq ok = reads_chain_at class p q.shape (λ a. q) hp (λ a. hq) ok

pub reads_before : {T A B : Type 0} (class : T → ℕ) {p : Row T A} {q : Row T B} → Reads class p p.shape → Reads class q q.shape → apart p.shape.more q.shape.first ≡ true → Reads class (keep_first p q) (keep_first p q).shape
reads_before class hp hq ok = reads_both class (λ a b. a) hp hq ok

pub reads_pair : {T A B : Type 0} (class : T → ℕ) {p : Row T A} {q : Row T B} → Reads class p p.shape → Reads class q q.shape → apart p.shape.more q.shape.first ≡ true → Reads class (pair p q) (pair p q).shape
reads_pair class hp hq ok = reads_both class (λ a b. (a, b)) hp hq ok
