-- The rows of no more than one token, and the same row under another value or shape, are read.
use Rattle.std.proofs.Common.{◌≡◌, ℕ, zero, suc, List, [], ◌∷◌, ◌++◌, length, Bool, true, false, inl, inr, refl, ap, arith, length-append, cond, ◌==◌, Option, Some, None}
use Rattle.std.proofs.lemmas.Bool.{eqb-true, cases_Bool}
use Rattle.ir_terminals.specs.PhraseRows.Row.{Reading, Done, Bad, bind, PhraseShape, Row, among, within, nothing, fail, one, run_one, mapped, deep, labelled}
use Rattle.ir_terminals.specs.PhraseRows.Reads.{Stops, Begins, Front, Takes, tokens_behind, Reads}
use Rattle.ir_terminals.proofs.OnPhraseRows.ListParts.{nil_parts, takes_left}

pub reads_nothing : {T A : Type 0} (class : T → ℕ) (a : A) → Reads class (nothing a) (record { first = []; more = []; empty = true })
reads_nothing class a = record {
  takes = λ ts. ([], refl, (refl, refl));
  complete = λ us rest b w st. rw w.0 (rw w.1 refl);
  past = λ us rest f. elim f [ inl w ↦ omega (arith, length-append us rest, ap length w.1.0) | inr c ↦ omega (arith, length-append us rest, ap length c.1) ];
  begins = λ us f. elim f [ inl w ↦ rw w.1.0 tt | inr c ↦ rw c.1 tt ];
  empty = λ b w. refl;
  none = inl (a, (refl, refl));
  closed = λ us vs f. elim f [ inl w ↦ inl (a, ((nil_parts us vs w.1.0).0, refl)) | inr c ↦ inl (a, ((nil_parts us vs c.1).0, refl)) ];
}

pub reads_fail : {T A : Type 0} (class : T → ℕ) (s : PhraseShape) → Reads {A = A} class (fail s) s
reads_fail class s = record {
  takes = λ ts. ([], refl, refl);
  complete = λ us rest b w st. absurd w;
  past = λ us rest f. elim f [ inl w ↦ absurd w.1 | inr c ↦ omega (arith, length-append us rest, ap length c) ];
  begins = λ us f. elim f [ inl w ↦ absurd w.1 | inr c ↦ rw c tt ];
  empty = λ b w. absurd w;
  none = inr refl;
  closed = λ us vs f. elim f [ inl w ↦ absurd w.1 | inr c ↦ inr (nil_parts us vs c).0 ];
}

pub reads_labelled : {T A : Type 0} {class : T → ℕ} {r : Row T A} {s : PhraseShape} → Reads class r s → Reads class (labelled s r) s
reads_labelled h = record { takes = h.takes; complete = h.complete; past = h.past; begins = h.begins; empty = h.empty; none = h.none; closed = h.closed }

pub reads_deep : {T A : Type 0} (class : T → ℕ) (s : PhraseShape) (f : Row T A → Row T A) → ((r : Row T A) → Reads class (labelled s r) s → Reads class (f (labelled s r)) s) → (n : ℕ) → Reads class (deep s f n) s
reads_deep class s f h zero = reads_fail class s
reads_deep class s f h (suc n) = h (deep s f n) (reads_labelled (reads_deep class s f h n))

one_takes : {T A : Type 0} (class : T → ℕ) (ks : List ℕ) (f : T → Option A) (t : T) (ts : List T) (b : Bool) (v : Option A) → among (class t) ks ≡ b → f t ≡ v → Takes (one class ks f) (t ∷ ts) (cond b (elim v [ Some a ↦ Done a ts | None ↦ Bad (t ∷ ts) ]) (Bad (t ∷ ts)))
one_takes class ks f t ts true (Some a) e g = (t ∷ [], refl, (t, refl, e, g))
one_takes class ks f t ts true None e g = ([], refl, refl)
one_takes class ks f t ts false v e g = ([], refl, refl)

one_whole : {T A : Type 0} (class : T → ℕ) (ks : List ℕ) (f : T → Option A) (us rest : List T) (a : A) → (one class ks f).whole us a → (one class ks f).run (us ++ rest) ≡ Done a rest
one_whole class ks f us rest a w = rw w.1 (rw w.2 (rw w.3 refl))

one_closed : {T A : Type 0} (class : T → ℕ) (ks : List ℕ) (f : T → Option A) (us vs : List T) → Front (one class ks f) (us ++ vs) → Front (one class ks f) us
one_closed class ks f [] vs e = inr refl
one_closed class ks f (u ∷ us) vs (inl w) =
    let h : us ++ vs ≡ [] = let g = w.1.1 in cc in
    let n = (nil_parts us vs h).0 in
    inl (w.0, (w.1.0, (let g = w.1.1 in cc), w.1.2, w.1.3))
one_closed class ks f (u ∷ us) vs (inr c) = absurd cc

pub reads_one : {T A : Type 0} (class : T → ℕ) (ks : List ℕ) (f : T → Option A) → Reads class (one class ks f) (record { first = ks; more = []; empty = false })
reads_one {T} {A} class ks f =
    let takes : (ts : List T) → Takes (one class ks f) ts (run_one class ks f ts) = λ ts. elim ts as (λ ts. Takes (one class ks f) ts (run_one class ks f ts)) [ [] ↦ ([], refl, refl) | t ∷ ts ↦ one_takes class ks f t ts (among (class t) ks) (f t) refl refl ] in
    record {
      takes = takes;
      complete = λ us rest a w st. one_whole class ks f us rest a w;
      past = λ us rest e. elim e [
        | inl w ↦ (let h = ap (λ x. length (tokens_behind x)) (one_whole class ks f us rest w.0 w.1) in omega (arith, h))
        | inr c ↦ rw c (takes_left (one class ks f) rest (run_one class ks f rest) (takes rest))
      ];
      begins = λ us e. elim e [ inl w ↦ rw w.1.1 w.1.2 | inr c ↦ rw c tt ];
      empty = λ a w. absurd (let h = w.1 in cc);
      none = inr refl;
      closed = λ us vs e. one_closed class ks f us vs e;
    }

pub mapped_takes : {T A B : Type 0} (f : A → B) (p : Row T A) (ts : List T) (x : Reading T A) → Takes p ts x → Takes (mapped f p) ts (bind x (λ a rest. Done (f a) rest))
mapped_takes f p ts (Done a rest) h = (h.0, h.1, (a, h.2, refl))
mapped_takes f p ts (Bad rest) h = h

mapped_front : {T A B : Type 0} (f : A → B) (p : Row T A) (us : List T) → Front (mapped f p) us → Front p us
mapped_front f p us (inl w) = inl (w.1.0, w.1.1)
mapped_front f p us (inr c) = inr c

front_mapped : {T A B : Type 0} (f : A → B) (p : Row T A) (us : List T) → Front p us → Front (mapped f p) us
front_mapped f p us (inl w) = inl (f w.0, (w.0, w.1, refl))
front_mapped f p us (inr c) = inr c

pub mapped_left : {T A B : Type 0} (f : A → B) (x : Reading T A) → tokens_behind (bind x (λ a rest. Done (f a) rest)) ≡ tokens_behind x
mapped_left f (Done a rest) = refl
mapped_left f (Bad rest) = refl

pub reads_mapped : {T A B : Type 0} (class : T → ℕ) (f : A → B) {p : Row T A} {s : PhraseShape} → Reads class p s → Reads class (mapped f p) s
reads_mapped {T} {A} {B} class f {p} {s} h = record {
  takes = λ ts. mapped_takes f p ts (p.run ts) (h.takes ts);
  complete = λ us rest b w st. rw (h.complete us rest w.0 w.1 st) (rw w.2 refl);
  past = λ us rest e. rw (mapped_left f (p.run (us ++ rest))) (h.past us rest (mapped_front f p us e));
  begins = λ us e. h.begins us (mapped_front f p us e);
  empty = λ b w. h.empty w.0 w.1;
  none = front_mapped f p [] h.none;
  closed = λ us vs e. front_mapped f p us (h.closed us vs (mapped_front f p (us ++ vs) e));
}

among_within : (k : ℕ) (xs ys : List ℕ) → within xs ys ≡ true → among k xs ≡ true → among k ys ≡ true
among_within k [] ys h g = absurd cc
among_within k (x ∷ xs) ys h g =
    elim (cases_Bool (among x ys)) [
      | inr e ↦ absurd (let f : false ≡ true = rw e at h in cc)
      | inl e ↦ elim (cases_Bool (k == x)) [
        | inl d ↦ (let f = eqb-true k x d in rw f e)
        | inr d ↦ among_within k xs ys (rw e at h) (rw d at g)
      ]
    ]

stops_within : {T : Type 0} (class : T → ℕ) (xs ys : List ℕ) (rest : List T) → within xs ys ≡ true → Stops class ys rest → Stops class xs rest
stops_within class xs ys [] h st = tt
stops_within class xs ys (t ∷ ts) h st = elim (cases_Bool (among (class t) xs)) [ inl e ↦ absurd (let f = among_within (class t) xs ys h e in cc) | inr e ↦ e ]

begins_within : {T : Type 0} (class : T → ℕ) (xs ys : List ℕ) (us : List T) → within xs ys ≡ true → Begins class xs us → Begins class ys us
begins_within class xs ys [] h b = tt
begins_within class xs ys (t ∷ ts) h b = among_within (class t) xs ys h b

-- a wider shape does too
pub reads_wider : {T A : Type 0} (class : T → ℕ) {r : Row T A} {s : PhraseShape} (w : PhraseShape) → Reads class r s → within s.first w.first ≡ true → within s.more w.more ≡ true → (s.empty ≡ true → w.empty ≡ true) → Reads class r w
reads_wider class {r} {s} w h f m e = record {
  takes = h.takes;
  complete = λ us rest a v st. h.complete us rest a v (stops_within class s.more w.more rest m st);
  past = h.past;
  begins = λ us g. begins_within class s.first w.first us f (h.begins us g);
  empty = λ a v. e (h.empty a v);
  none = h.none;
  closed = h.closed;
}
