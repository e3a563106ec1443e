-- For `next` of `Lexer`: forms of spellings as values: what is spelled so, and the longest front of a text that is.
use Rattle.std.specs.Prelude.{◌≡◌, ℕ, suc, ◌+◌, Bool, true, false, cond, List, [], ◌∷◌, ◌++◌, take, drop, Option, Some, None}
use Rattle.ir_lexer.specs.Class.{byte_class}
use Rattle.ir_lexer.specs.declared.class.Class.{Class}

-- each byte is of the class
abbrev pub each : (Class → Bool) → List ℕ → Bool
each p [] = true
each p (b ∷ bs) = cond (p (byte_class b)) (each p bs) false

-- the length of the longest front whose bytes are of the class
unfoldable pub run : (Class → Bool) → List ℕ → ℕ
run p [] = 0
run p (b ∷ bs) = cond (p (byte_class b)) (suc (run p bs)) 0

-- any bytes: the test of a form that asks for nothing
abbrev pub anything : List ℕ → Bool
anything inside = true

-- A form: nothing; a byte of a class, and then a form; bytes of a class to the end; bytes of a class that pass a
-- test, a byte of another class, and then a form.
pub data Form : Type 0 where
  Done : Form
  One : (p : Class → Bool) (f : Form) → Form
  Run : (p : Class → Bool) → Form
  Upto : (p : Class → Bool) (test : List ℕ → Bool) (q : Class → Bool) (f : Form) → Form

-- bytes of one class that pass a test, the byte of another class that ends them, and what is spelled behind it
pub record IsUpto (p : Class → Bool) (test : List ℕ → Bool) (q : Class → Bool) (f : List ℕ → Type 0) (s : List ℕ) : Type 0 where
  pub inside : List ℕ
  pub byte : ℕ
  pub rest : List ℕ
  pub parts : s ≡ inside ++ byte ∷ rest
  pub inside_in : each p inside ≡ true
  pub tested : test inside ≡ true
  pub out : p (byte_class byte) ≡ false
  pub byte_in : q (byte_class byte) ≡ true
  pub rest_is : f rest

-- these bytes are of the form
abbrev pub Spells : Form → List ℕ → Type 0
Spells Done s = s ≡ []
Spells (One p f) [] = ⊥
Spells (One p f) (b ∷ s) = (p (byte_class b) ≡ true) × Spells f s
Spells (Run p) s = each p s ≡ true
Spells (Upto p test q f) s = IsUpto p test q (Spells f) s

-- so many more, where there is a count
abbrev pub more : ℕ → Option ℕ → Option ℕ
more n None = None
more n (Some m) = Some (n + m)

-- a byte of the class, and then what f finds
abbrev pub behind : (Class → Bool) → (List ℕ → Option ℕ) → List ℕ → Option ℕ
behind p f [] = None
behind p f (b ∷ s) = cond (p (byte_class b)) (more 1 (f s)) None

-- the length of the longest front of the form
abbrev pub longest : Form → List ℕ → Option ℕ
longest Done s = Some 0
longest (One p f) s = behind p (longest f) s
longest (Run p) s = Some (run p s)
longest (Upto p test q f) s = cond (test (take (run p s) s)) (more (run p s) (behind q (longest f) (drop (run p s) s))) None
