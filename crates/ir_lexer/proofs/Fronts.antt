-- The longest front of a form is of the form, and no front of the form is longer.
use Rattle.std.proofs.Common.{◌≡◌, ℕ, zero, suc, ◌+◌, ◌≤◌, List, [], ◌∷◌, ◌++◌, length, take, drop, Bool, true, false, refl, ap, arith, cond, Option, Some, None, append_assoc, zero-add, suc-add, length-append, length-drop}
use Rattle.std.proofs.Math.Seq.{take-append_seam, drop-append_seam}
use Rattle.ir_lexer.specs.Class.{byte_class}
use Rattle.ir_lexer.specs.Form.{run, Form, Done, One, Run, Upto, Spells, more, behind, longest}
use Rattle.ir_lexer.proofs.Runs.{run_le, run_each, run_append, run_stops, run_out}

-- what is behind a number with more
pub more_is : (n m : ℕ) (o : Option ℕ) → more n o ≡ Some m → (k : ℕ) × (o ≡ Some k) × (m ≡ n + k)
more_is n m None h = absurd cc
more_is n m (Some k) h = (k, refl, cc)

pub cond_some : {A : Type 0} (b : Bool) (o : Option A) (x : A) → cond b o None ≡ Some x → (b ≡ true) × (o ≡ Some x)
cond_some true o x h = (refl, h)
cond_some false o x h = absurd cc

pub record Fits (f : Form) (s : List ℕ) (n : ℕ) : Type 0 where
  pub in_text : n ≤ length s
  pub spelled : Spells f (take n s)

take_parts : (n k : ℕ) (s : List ℕ) (b : ℕ) (t : List ℕ) → drop n s ≡ b ∷ t → take (n + suc k) s ≡ take n s ++ b ∷ take k t
take_parts zero k s b t h = rw h (rw (zero-add (suc k)) refl)
take_parts (suc n) k [] b t h = absurd cc
take_parts (suc n) k (x ∷ s) b t h = rw suc-add (ap (λ l. x ∷ l) (take_parts n k s b t h))

pub fits : (f : Form) (s : List ℕ) (n : ℕ) → longest f s ≡ Some n → Fits f s n
fits Done s n h = let e : n ≡ 0 = cc in record { in_text = omega arith; spelled = rw e refl }
fits (One p f) [] n h = absurd cc
fits (One p f) (b ∷ s) n h =
    let g = cond_some (p (byte_class b)) (more 1 (longest f s)) n h in
    let m = more_is 1 n (longest f s) g.1 in
    let i = fits f s m.0 m.1 in
    let e : n ≡ suc m.0 = omega (arith, m.2) in
    record { in_text = omega (arith, i.in_text); spelled = rw e (g.0, i.spelled) }
fits (Run p) s n h = let e : n ≡ run p s = cc in record { in_text = omega (arith, run_le p s); spelled = rw e (run_each p s) }
fits (Upto p test q f) s n h =
    let g = cond_some (test (take (run p s) s)) _ n h in
    let m = more_is (run p s) n _ g.1 in
    go (drop (run p s) s) refl m.0 m.1 g.0 m.2 (λ d j. fits f d j)
  where
    go : (d : List ℕ) → drop (run p s) s ≡ d → (k : ℕ) → behind q (longest f) d ≡ Some k → test (take (run p s) s) ≡ true → n ≡ run p s + k → ((d : List ℕ) (j : ℕ) → longest f d ≡ Some j → Fits f d j) → Fits (Upto p test q f) s n
    go [] e k l tested ne ih = absurd cc
    go (b ∷ t) e k l tested ne ih =
        let g = cond_some (q (byte_class b)) (more 1 (longest f t)) k l in
        let m = more_is 1 k (longest f t) g.1 in
        let i = ih t m.0 m.1 in
        let there : n ≡ run p s + suc m.0 = omega (arith, m.2) in
        record {
          in_text = omega (arith, i.in_text, length-drop (run p s) s, ap length e);
          spelled = rw there (record {
            inside = take (run p s) s;
            byte = b;
            rest = take m.0 t;
            parts = take_parts (run p s) m.0 s b t e;
            inside_in = run_each p s;
            tested = tested;
            out = run_out p s b t e;
            byte_in = g.0;
            rest_is = i.spelled;
          });
        }

pub record Reaches (f : Form) (s text : List ℕ) : Type 0 where
  pub number : ℕ
  pub found : longest f text ≡ Some number
  pub far : length s ≤ number

pub reaches : (f : Form) (s rest : List ℕ) → Spells f s → Reaches f s (s ++ rest)
reaches Done s rest h = record { number = 0; found = refl; far = omega (arith, ap length h) }
reaches (One p f) [] rest h = absurd h
reaches (One p f) (b ∷ s) rest h =
    let i = reaches f s rest h.1 in
    record { number = 1 + i.number; found = rw (h.0, i.found) refl; far = omega (arith, i.far) }
reaches (Run p) s rest h = record { number = run p (s ++ rest); found = refl; far = omega (arith, run_append p s rest h) }
reaches (Upto p test q f) s rest h =
    let i = reaches f h.rest rest h.rest_is in
    let text : s ++ rest ≡ h.inside ++ (h.byte ∷ (h.rest ++ rest)) = rw h.parts (append_assoc h.inside (h.byte ∷ h.rest) rest) in
    let n : run p (h.inside ++ (h.byte ∷ (h.rest ++ rest))) ≡ length h.inside = omega (arith, run_append p h.inside (h.byte ∷ (h.rest ++ rest)) h.inside_in, run_stops p h.byte (h.rest ++ rest) h.out) in
    record {
      number = length h.inside + (1 + i.number);
      found = rw (text, n, take-append_seam h.inside (h.byte ∷ (h.rest ++ rest)), h.tested, drop-append_seam h.inside (h.byte ∷ (h.rest ++ rest)), h.byte_in, i.found) refl;
      far = omega (arith, i.far, ap length h.parts, length-append h.inside (h.byte ∷ h.rest));
    }
