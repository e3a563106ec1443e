-- Rows that read as others do, but may go on where those are refused at certain tokens.
use Rattle.std.proofs.Common.{◌≡◌, ℕ, zero, suc, List, [], ◌∷◌, ◌++◌, length, Bool, true, false, ◌⊎◌, inl, inr, refl, sym, ap, subst, cond, Option, Some, None}
use Rattle.std.proofs.lemmas.Bool.{cases_Bool}
use Rattle.ir_terminals.specs.PhraseRows.Row.{Reading, Done, Bad, bind, PhraseShape, Row, among, begins, nothing, fail, one, run_one, chain, mapped, joined_values, keep_second, keep_first, pair, alt, optional, many, run_many, separated, loop, run_loop, labelled}
use Rattle.ir_terminals.specs.PhraseRows.Reads.{Takes, Reads}

-- the two readings are the same, or the first is refused at a token for which this holds
abbrev pub IsKept : {T A : Type 0} → (T → Bool) → Reading T A → Reading T A → Type 0
IsKept {T} may x y = (y ≡ x) ⊎ ((t : T) × (rest : List T) × (x ≡ Bad (t ∷ rest)) × (may t ≡ true))

-- the wide row reads as the narrow one does, but where that one is refused at a token for which this holds
pub record IsWidened {T A : Type 0} (may : T → Bool) (narrow wide : Row T A) : Type 0 where
  pub kept : (ts : List T) → IsKept may (narrow.run ts) (wide.run ts)

-- the readings of parts
module _ {T : Type 0} (may : T → Bool) where
  same_first : {A B : Type 0} (x : Reading T A) (f g : A → List T → Reading T B) → ((a : A) (rest : List T) → IsKept may (f a rest) (g a rest)) → IsKept may (bind x f) (bind x g)
  same_first (Done a rest) f g k = k a rest
  same_first (Bad rest) f g k = inl refl

  kept_bind : {A B : Type 0} (x y : Reading T A) (f g : A → List T → Reading T B) → IsKept may x y → ((a : A) (rest : List T) → IsKept may (f a rest) (g a rest)) → IsKept may (bind x f) (bind y g)
  kept_bind {A} {B} x y f g (inl e) k = subst (λ (z : Reading T A). IsKept may (bind x f) (bind z g)) (sym e) (same_first x f g k)
  kept_bind {A} {B} x y f g (inr (t, rest, e, m)) k = inr (t, rest, ap (λ (z : Reading T A). bind z f) e, m)

  kept_cond : {A : Type 0} (b : Bool) (x y u v : Reading T A) → IsKept may x y → IsKept may u v → IsKept may (cond b x u) (cond b y v)
  kept_cond true x y u v h k = h
  kept_cond false x y u v h k = k

  kept_if : {A : Type 0} (class : T → ℕ) (ks js : List ℕ) (ts : List T) (x y u v : Reading T A) → js ≡ ks → IsKept may x y → IsKept may u v → IsKept may (cond (begins class ks ts) x u) (cond (begins class js ts) y v)
  kept_if class ks js ts x y u v e h k =
      subst (λ (ls : List ℕ). IsKept may (cond (begins class ks ts) x u) (cond (begins class ls ts) y v)) (sym e) (kept_cond (begins class ks ts) x y u v h k)

-- a phrase that takes a token is not read where none stands that may begin it
bad_with : {T A : Type 0} (class : T → ℕ) {r : Row T A} {s : PhraseShape} → Reads class r s → s.empty ≡ false → (ts : List T) → begins class s.first ts ≡ false → (x : Reading T A) → Takes r ts x → x ≡ Bad ts
bad_with {T} class {r} {s} h some [] b (Done a rest) ([], e, w) = absurd (let k = h.empty a w in cc)
bad_with {T} class {r} {s} h some [] b (Done a rest) (u ∷ us, e, w) = absurd cc
bad_with {T} class {r} {s} h some [] b (Bad rest) ([], e, w) = ap Bad (sym e)
bad_with {T} class {r} {s} h some [] b (Bad rest) (u ∷ us, e, w) = absurd cc
bad_with {T} class {r} {s} h some (t ∷ ts) b (Done a rest) ([], e, w) = absurd (let k = h.empty a w in cc)
bad_with {T} class {r} {s} h some (t ∷ ts) b (Done a rest) (u ∷ us, e, w) = absurd (let k = h.begins (u ∷ us) (inl (a, w)) in let same : u ≡ t = cc in let m = ap (λ (z : T). among (class z) s.first) same in cc)
bad_with {T} class {r} {s} h some (t ∷ ts) b (Bad rest) ([], e, w) = ap Bad (sym e)
bad_with {T} class {r} {s} h some (t ∷ ts) b (Bad rest) (u ∷ us, e, w) = absurd (let k = h.begins (u ∷ us) (inr w) in let same : u ≡ t = cc in let m = ap (λ (z : T). among (class z) s.first) same in cc)

-- the rows that read no part of another
module _ {T A : Type 0} {may : T → Bool} where
  -- a row is its own widening
  pub widened_same : (r : Row T A) → IsWidened may r r
  widened_same r = record { kept = λ ts. inl refl }

  by_class : (k : ℕ) (ks : List ℕ) (t : T) (ts : List T) (v w : Option A) (b : Bool) → among k ks ≡ b → (among k ks ≡ true → (w ≡ v) ⊎ ((v ≡ None) × (may t ≡ true))) → IsKept {A = A} may (cond b (elim v [ Some a ↦ Done a ts | None ↦ Bad (t ∷ ts) ]) (Bad (t ∷ ts))) (cond b (elim w [ Some a ↦ Done a ts | None ↦ Bad (t ∷ ts) ]) (Bad (t ∷ ts)))
  by_class k ks t ts v w false e h = inl refl
  by_class k ks t ts v w true e h = elim (h e) [
    | inl same ↦ inl (ap (λ (o : Option A). elim o as (λ x. Reading T A) [ Some a ↦ Done a ts | None ↦ Bad (t ∷ ts) ]) same)
    | inr more ↦ inr (t, ts, ap (λ (o : Option A). elim o as (λ x. Reading T A) [ Some a ↦ Done a ts | None ↦ Bad (t ∷ ts) ]) more.0, more.1)
  ]

  -- a token has the same value, or has one only in the wide row
  pub widened_one : (class : T → ℕ) (ks : List ℕ) (f g : T → Option A) → ((t : T) → among (class t) ks ≡ true → (g t ≡ f t) ⊎ ((f t ≡ None) × (may t ≡ true))) → IsWidened may (one class ks f) (one class ks g)
  widened_one class ks f g h = record { kept = at }
    where
      at : (ts : List T) → IsKept may (run_one class ks f ts) (run_one class ks g ts)
      at [] = inl refl
      at (t ∷ ts) = by_class (class t) ks t ts (f t) (g t) (among (class t) ks) refl (h t)

  begun : (class : T → ℕ) (ks : List ℕ) (ts : List T) (y : Reading T A) → begins class ks ts ≡ true → ((t : T) → among (class t) ks ≡ true → may t ≡ true) → IsKept may (Bad ts) y
  begun class ks [] y b m = absurd cc
  begun class ks (t ∷ ts) y b m = inr (t, ts, refl, m t b)

  -- what is not to be had in the narrow row is to be had in the wide one, behind the tokens that may begin it
  pub widened_fail : (class : T → ℕ) {r : Row T A} (s : PhraseShape) → Reads class r s → s.empty ≡ false → ((t : T) → among (class t) s.first ≡ true → may t ≡ true) → IsWidened may (fail s) r
  widened_fail class {r} s h some m = record {
    kept = λ ts. elim (cases_Bool (begins class s.first ts)) [
      | inl b ↦ begun class s.first ts (r.run ts) b m
      | inr b ↦ inl (bad_with class h some ts b (r.run ts) (h.takes ts))
    ];
  }

  pub widened_labelled : {p q : Row T A} {s : PhraseShape} → IsWidened may p q → IsWidened may (labelled s p) (labelled s q)
  widened_labelled h = record { kept = h.kept }

  -- either of two phrases, the first of which begin alike
  pub widened_alt : (class : T → ℕ) {p q r s : Row T A} → IsWidened may p q → IsWidened may r s → q.shape.first ≡ p.shape.first → IsWidened may (alt class p r) (alt class q s)
  widened_alt class {p} {q} {r} {s} h k e = record { kept = λ ts. kept_if may class p.shape.first q.shape.first ts (p.run ts) (q.run ts) (r.run ts) (s.run ts) e (h.kept ts) (k.kept ts) }

-- one phrase after another
module _ {T A B : Type 0} {may : T → Bool} where
  pub widened_chain : (v w : PhraseShape) {p q : Row T A} {r s : A → Row T B} → IsWidened may p q → ((a : A) → IsWidened may (r a) (s a)) → IsWidened may (chain p v r) (chain q w s)
  widened_chain v w {p} {q} {r} {s} h k = record { kept = λ ts. kept_bind may (p.run ts) (q.run ts) (λ a rest. (r a).run rest) (λ a rest. (s a).run rest) (h.kept ts) (λ a rest. (k a).kept rest) }

  pub widened_mapped : {f : A → B} {p q : Row T A} → IsWidened may p q → IsWidened may (mapped f p) (mapped f q)
  widened_mapped {f} {p} {q} h = record { kept = λ ts. kept_bind may (p.run ts) (q.run ts) (λ a rest. Done (f a) rest) (λ a rest. Done (f a) rest) (h.kept ts) (λ a rest. inl refl) }

  pub widened_second : {p q : Row T A} {r s : Row T B} → IsWidened may p q → IsWidened may r s → IsWidened may (keep_second p r) (keep_second q s)
  widened_second {p} {q} {r} {s} h k = widened_chain r.shape s.shape h (λ a. k)

pub widened_both : {T A B C : Type 0} {may : T → Bool} {f : A → B → C} {p q : Row T A} {r s : Row T B} → IsWidened may p q → IsWidened may r s → IsWidened may (joined_values f p r) (joined_values f q s)
widened_both {p} {q} {r} {s} h k = widened_chain r.shape s.shape h (λ a. widened_mapped k)

module _ {T A B : Type 0} {may : T → Bool} where
  pub widened_before : {p q : Row T A} {r s : Row T B} → IsWidened may p q → IsWidened may r s → IsWidened may (keep_first p r) (keep_first q s)
  widened_before h k = widened_both h k

  pub widened_pair : {p q : Row T A} {r s : Row T B} → IsWidened may p q → IsWidened may r s → IsWidened may (pair p r) (pair q s)
  widened_pair h k = widened_both h k

-- phrases in a row
module _ {T A : Type 0} {may : T → Bool} (class : T → ℕ) where
  pub widened_optional : {p q : Row T A} → IsWidened may p q → q.shape.first ≡ p.shape.first → IsWidened may (optional class p) (optional class q)
  widened_optional h e = widened_alt class (widened_mapped h) (widened_same (nothing None)) e

  kept_many : (p q : Row T A) → IsWidened may p q → q.shape.first ≡ p.shape.first → (n : ℕ) (ts : List T) → IsKept may (run_many class p n ts) (run_many class q n ts)
  kept_many p q h e zero ts = inl refl
  kept_many p q h e (suc n) ts =
      kept_if may class p.shape.first q.shape.first ts
      (bind (p.run ts) (λ a rest. bind (run_many class p n rest) (λ xs rest. Done (a ∷ xs) rest)))
      (bind (q.run ts) (λ a rest. bind (run_many class q n rest) (λ xs rest. Done (a ∷ xs) rest)))
      (Done [] ts) (Done [] ts) e
      (kept_bind may (p.run ts) (q.run ts) _ _ (h.kept ts) (λ a rest. kept_bind may (run_many class p n rest) (run_many class q n rest) _ _ (kept_many p q h e n rest) (λ xs rest. inl refl)))
      (inl refl)

  pub widened_many : {p q : Row T A} → IsWidened may p q → q.shape.first ≡ p.shape.first → IsWidened may (many class p) (many class q)
  widened_many {p} {q} h e = record { kept = λ ts. kept_many p q h e (length ts) ts }

  kept_loop : (form : PhraseShape) (p q : A → Row T A) → ((a : A) → IsWidened may (p a) (q a)) → (n : ℕ) (a : A) (ts : List T) → IsKept may (run_loop class form p n a ts) (run_loop class form q n a ts)
  kept_loop form p q h zero a ts = inl refl
  kept_loop form p q h (suc n) a ts =
      kept_cond may (begins class form.first ts)
      (bind ((p a).run ts) (λ m rest. run_loop class form p n m rest))
      (bind ((q a).run ts) (λ m rest. run_loop class form q n m rest))
      (Done a ts) (Done a ts)
      (kept_bind may ((p a).run ts) ((q a).run ts) _ _ ((h a).kept ts) (λ m rest. kept_loop form p q h n m rest))
      (inl refl)

  pub widened_loop : (form : PhraseShape) {p q : A → Row T A} → ((a : A) → IsWidened may (p a) (q a)) → (a : A) → IsWidened may (loop class form p a) (loop class form q a)
  widened_loop form {p} {q} h a = record { kept = λ ts. kept_loop form p q h (length ts) a ts }

-- none, or some with a separator between each two
pub widened_separated : {T A S : Type 0} {may : T → Bool} (class : T → ℕ) (c : Row T S) {p q : Row T A} → IsWidened may p q → q.shape ≡ p.shape → IsWidened may (separated class c p) (separated class c q)
widened_separated class c {p} {q} h e =
    widened_alt class (widened_both h (widened_many class (widened_second (widened_same c) h) (ap (λ (s : PhraseShape). cond c.shape.empty (c.shape.first ++ s.first) c.shape.first) e))) (widened_same (nothing []))
    (ap (λ (s : PhraseShape). cond s.empty (s.first ++ cond c.shape.empty (c.shape.first ++ s.first) c.shape.first) s.first) e)
