-- Runs of bytes of a class.
use Rattle.std.proofs.lemmas.Map.Views.{exact_unsigned_eq}
use Rattle.std.proofs.lemmas.Bool.{ne_eqb}
use Rattle.std.proofs.Common.{◌==◌, ◌≡◌, ℕ, suc, ◌+◌, ◌≤◌, List, [], ◌∷◌, ◌++◌, length, take, drop, Bool, true, false, ◌⊎◌, inl, inr, refl, arith, eq-eqb, ap, ◌∙◌}
use Rattle.ir_lexer.specs.declared.class.Class.{Class}
use Rattle.ir_lexer.specs.Class.{byte_class}
use Rattle.ir_lexer.specs.Form.{each, run}

pub bool_cases : (b : Bool) → (b ≡ true) ⊎ (b ≡ false)
bool_cases true = inl refl
bool_cases false = inr refl

pub each_first : (p : Class → Bool) (b : ℕ) (s : List ℕ) → each p (b ∷ s) ≡ true → (p (byte_class b) ≡ true) × (each p s ≡ true)
each_first p b s h = elim (bool_cases (p (byte_class b))) [ inl e ↦ (e, rw e at h) | inr e ↦ absurd (let k : false ≡ true = rw e at h in cc) ]

pub run_first : (p : Class → Bool) (b : ℕ) (s : List ℕ) → p (byte_class b) ≡ true → run p (b ∷ s) ≡ suc (run p s)
unfolding run
run_first p b s e = rw e refl

pub run_stops : (p : Class → Bool) (b : ℕ) (s : List ℕ) → p (byte_class b) ≡ false → run p (b ∷ s) ≡ 0
unfolding run
run_stops p b s e = rw e refl

pub run_none : (p : Class → Bool) → run p [] ≡ 0
unfolding run
run_none p = refl

pub run_le : (p : Class → Bool) (s : List ℕ) → run p s ≤ length s
run_le p [] = omega (arith, run_none p)
run_le p (b ∷ s) = elim (bool_cases (p (byte_class b))) [ inl e ↦ omega (arith, run_first p b s e, run_le p s) | inr e ↦ omega (arith, run_stops p b s e) ]

pub run_each : (p : Class → Bool) (s : List ℕ) → each p (take (run p s) s) ≡ true
run_each p [] = rw run_none refl
run_each p (b ∷ s) = elim (bool_cases (p (byte_class b))) [ inl e ↦ rw (run_first p b s e, e) (run_each p s) | inr e ↦ rw (run_stops p b s e) refl ]

pub run_append : (p : Class → Bool) (a s : List ℕ) → each p a ≡ true → run p (a ++ s) ≡ length a + run p s
run_append p [] s h = omega arith
run_append p (b ∷ a) s h =
    let f = each_first p b a h in
    rw (run_first p b (a ++ s) f.0, run_append p a s f.1) (omega arith)

pub run_out : (p : Class → Bool) (s : List ℕ) (b : ℕ) (t : List ℕ) → drop (run p s) s ≡ b ∷ t → p (byte_class b) ≡ false
run_out p [] b t h = absurd (let k : [] ≡ b ∷ t = rw run_none at h in cc)
run_out p (x ∷ s) b t h = elim (bool_cases (p (byte_class x))) [
  | inl e ↦ run_out p s b t (rw (run_first p x s e) at h)
  | inr e ↦ (let k : x ∷ s ≡ b ∷ t = rw (run_stops p x s e) at h in let xb : x ≡ b = cc in rw (← xb) e)
]

-- A run of a smaller class is no longer.
pub run_within : (p q : Class → Bool) → ((c : Class) → p c ≡ true → q c ≡ true) → (s : List ℕ) → run p s ≤ run q s
run_within p q h [] = omega (arith, run_none p)
run_within p q h (b ∷ s) = elim (bool_cases (p (byte_class b))) [
  | inl e ↦ omega (arith, run_first p b s e, run_first q b s (h (byte_class b) e), run_within p q h s)
  | inr e ↦ omega (arith, run_stops p b s e)
]

-- A run is all of the text exactly where each byte is of the class.
suc_eqb : (a b : ℕ) → (suc a == suc b) ≡ (a == b)
suc_eqb a b = elim (bool_cases (a == b)) [
  | inl e ↦ rw e (eq-eqb (suc a) (suc b) (ap suc (exact_unsigned_eq a b e)))
  | inr e ↦ rw e (ne_eqb (suc a) (suc b) (λ h. let i : a ≡ b = omega (arith, h) in let k = eq-eqb a b i in cc))
]

pub run_all : (p : Class → Bool) (s : List ℕ) → (run p s == length s) ≡ each p s
run_all p [] = eq-eqb (run p []) 0 (run_none p)
run_all p (b ∷ s) = elim (bool_cases (p (byte_class b))) [
  | inl e ↦ rw (run_first p b s e, e) (suc_eqb (run p s) (length s) ∙ run_all p s)
  | inr e ↦ rw (run_stops p b s e, e) (ne_eqb 0 (suc (length s)) (λ h. omega (arith, h)))
]
