-- For `read_items`, and how the code reads: the fronts of a row's phrases, and what it is that its reader reads the row.
use Rattle.std.specs.Prelude.{◌≡◌, ℕ, ◌≤◌, List, [], ◌∷◌, ◌++◌, length, true, false, ◌⊎◌}
use Rattle.ir_terminals.specs.PhraseRows.Row.{Reading, Done, Bad, PhraseShape, Row, among}

-- a whole phrase or a cut one
abbrev pub Front : {T A : Type 0} → Row T A → List T → Type 0
Front {T} {A} r us = ((a : A) × r.whole us a) ⊎ r.cut us

-- nothing, or its first token is in none of these classes
abbrev pub Stops : {T : Type 0} → (T → ℕ) → List ℕ → List T → Type 0
Stops class more [] = Unit {0}
Stops class more (t ∷ ts) = among (class t) more ≡ false

-- nothing, or its first token is in one of these classes
abbrev pub Begins : {T : Type 0} → (T → ℕ) → List ℕ → List T → Type 0
Begins class first [] = Unit {0}
Begins class first (t ∷ ts) = among (class t) first ≡ true

-- what was read is whole with its value, or what stands before the bad token is cut
abbrev pub Takes : {T A : Type 0} → Row T A → List T → Reading T A → Type 0
Takes {T} r ts (Done a rest) = (us : List T) × (ts ≡ us ++ rest) × r.whole us a
Takes {T} r ts (Bad rest) = (us : List T) × (ts ≡ us ++ rest) × r.cut us

-- the tokens that reading leaves
abbrev pub tokens_behind : {T A : Type 0} → Reading T A → List T
tokens_behind (Done a rest) = rest
tokens_behind (Bad rest) = rest

-- The reader reads the row: what it takes is taken rightly, a whole phrase before what cannot go on with it is read,
-- and the first bad token is told.
pub record Reads {T A : Type 0} (class : T → ℕ) (r : Row T A) (s : PhraseShape) : Type 0 where
  pub takes : (ts : List T) → Takes r ts (r.run ts)
  -- a whole phrase before what cannot go on with it is read
  pub complete : (us rest : List T) (a : A) → r.whole us a → Stops class s.more rest → r.run (us ++ rest) ≡ Done a rest
  -- the reader gets over each front, whatever follows
  pub past : (us rest : List T) → Front r us → length (tokens_behind (r.run (us ++ rest))) ≤ length rest
  pub begins : (us : List T) → Front r us → Begins class s.first us
  pub empty : (a : A) → r.whole [] a → s.empty ≡ true
  -- a front of a front is one
  pub none : Front r []
  pub closed : (us vs : List T) → Front r (us ++ vs) → Front r us
