-- Lists in parts, and sets of classes.
use Rattle.std.proofs.Common.{◌≡◌, ℕ, ◌≤◌, List, [], ◌∷◌, ◌++◌, length, Bool, true, false, ◌⊎◌, inl, inr, refl, sym, ap, arith, length-append, cond, ◌==◌}
use Rattle.std.proofs.lemmas.Bool.{eqb-true, cases_Bool}
use Rattle.ir_terminals.specs.PhraseRows.Row.{Reading, Done, Bad, bind, Row, among, apart}
use Rattle.ir_terminals.specs.PhraseRows.Reads.{Stops, Begins, Takes, tokens_behind}

pub split : {T : Type 0} (a b c d : List T) → a ++ b ≡ c ++ d → ((m : List T) × (c ≡ a ++ m) × (b ≡ m ++ d)) ⊎ ((m : List T) × (a ≡ c ++ m) × (d ≡ m ++ b))
split [] b c d e = inl (c, refl, e)
split (x ∷ a) b [] d e = inr (x ∷ a, refl, sym e)
split (x ∷ a) b (y ∷ c) d e =
    let h : a ++ b ≡ c ++ d = cc in
    elim (split a b c d h) [ inl w ↦ inl (w.0, let k = w.1 in cc, w.2) | inr w ↦ inr (w.0, let k = w.1 in cc, w.2) ]

pub nil_parts : {T : Type 0} (a b : List T) → a ++ b ≡ [] → (a ≡ []) × (b ≡ [])
nil_parts [] b e = (refl, e)
nil_parts (x ∷ a) b e = absurd cc

pub among_left : (k : ℕ) (xs ys : List ℕ) → among k xs ≡ true → among k (xs ++ ys) ≡ true
among_left k [] ys h = absurd cc
among_left k (x ∷ xs) ys h =
    elim (cases_Bool (k == x)) [ inl e ↦ rw e refl | inr e ↦ rw e (among_left k xs ys (rw e at h)) ]

pub among_right : (k : ℕ) (xs ys : List ℕ) → among k ys ≡ true → among k (xs ++ ys) ≡ true
among_right k [] ys h = h
among_right k (x ∷ xs) ys h =
    elim (cases_Bool (k == x)) [ inl e ↦ rw e refl | inr e ↦ rw e (among_right k xs ys h) ]

pub among_none : (k : ℕ) (xs ys : List ℕ) → among k (xs ++ ys) ≡ false → (among k xs ≡ false) × (among k ys ≡ false)
among_none k xs ys h =
    elim (cases_Bool (among k xs)) [
      | inl e ↦ absurd (let f = among_left k xs ys e in cc)
      | inr e ↦ (e, elim (cases_Bool (among k ys)) [ inl g ↦ absurd (let f = among_right k xs ys g in cc) | inr g ↦ g ])
    ]

pub apart_out : (k : ℕ) (xs ys : List ℕ) → apart xs ys ≡ true → among k ys ≡ true → among k xs ≡ false
apart_out k [] ys h g = refl
apart_out k (x ∷ xs) ys h g =
    elim (cases_Bool (among x ys)) [
      | inl e ↦ absurd (let f : false ≡ true = rw e at h in cc)
      | inr e ↦ elim (cases_Bool (k == x)) [
        | inl d ↦ absurd (let f = eqb-true k x d in let j = ap (λ z. among z ys) f in cc)
        | inr d ↦ rw d (apart_out k xs ys (rw e at h) g)
      ]
    ]

pub takes_left : {T A : Type 0} (r : Row T A) (ts : List T) (x : Reading T A) → Takes r ts x → length (tokens_behind x) ≤ length ts
takes_left r ts (Done a rest) h = omega (arith, length-append h.0 rest, ap length h.1)
takes_left r ts (Bad rest) h = omega (arith, length-append h.0 rest, ap length h.1)

pub bind_left : {T A B : Type 0} (x : Reading T A) (f : A → List T → Reading T B) → ((a : A) (rest : List T) → length (tokens_behind (f a rest)) ≤ length rest) → length (tokens_behind (bind x f)) ≤ length (tokens_behind x)
bind_left (Done a rest) f h = h a rest
bind_left (Bad rest) f h = omega arith

pub stops_left : {T : Type 0} (class : T → ℕ) (xs ys : List ℕ) (rest : List T) → Stops class (xs ++ ys) rest → Stops class xs rest
stops_left class xs ys [] h = h
stops_left class xs ys (t ∷ ts) h = (among_none (class t) xs ys h).0

pub stops_right : {T : Type 0} (class : T → ℕ) (xs ys : List ℕ) (rest : List T) → Stops class (xs ++ ys) rest → Stops class ys rest
stops_right class xs ys [] h = h
stops_right class xs ys (t ∷ ts) h = (among_none (class t) xs ys h).1

pub begins_left : {T : Type 0} (class : T → ℕ) (xs ys : List ℕ) (us : List T) → Begins class xs us → Begins class (xs ++ ys) us
begins_left class xs ys [] h = h
begins_left class xs ys (t ∷ ts) h = among_left (class t) xs ys h

pub begins_right : {T : Type 0} (class : T → ℕ) (xs ys : List ℕ) (us : List T) → Begins class ys us → Begins class (xs ++ ys) us
begins_right class xs ys [] h = h
begins_right class xs ys (t ∷ ts) h = among_right (class t) xs ys h

-- with xs alone, or with ys too
pub stops_if : {T : Type 0} (class : T → ℕ) (e : Bool) (xs ys : List ℕ) (rest : List T) → Stops class (cond e (xs ++ ys) xs) rest → Stops class xs rest
stops_if class true xs ys rest h = stops_left class xs ys rest h
stops_if class false xs ys rest h = h

pub stops_and : {T : Type 0} (class : T → ℕ) (e : Bool) (xs ys : List ℕ) (rest : List T) → Stops class (cond e (xs ++ ys) xs) rest → e ≡ true → Stops class ys rest
stops_and class true xs ys rest h g = stops_right class xs ys rest h
stops_and class false xs ys rest h g = absurd cc

pub begins_if : {T : Type 0} (class : T → ℕ) (e : Bool) (xs ys : List ℕ) (us : List T) → Begins class xs us → Begins class (cond e (xs ++ ys) xs) us
begins_if class true xs ys us h = begins_left class xs ys us h
begins_if class false xs ys us h = h

pub begins_and : {T : Type 0} (class : T → ℕ) (e : Bool) (xs ys : List ℕ) (us : List T) → Begins class ys us → e ≡ true → Begins class (cond e (xs ++ ys) xs) us
begins_and class true xs ys us h g = begins_right class xs ys us h
begins_and class false xs ys us h g = absurd cc
