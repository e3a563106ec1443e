-- For `read_items`: all of the tokens, or the first bad place.
use Rattle.std.specs.Prelude.{◌≡◌, ℕ, ◌≤◌, ◌<◌, ◌-◌, List, [], ◌∷◌, length, take, Bool, true, cond, Result, Ok, Err}
use Rattle.ir_terminals.specs.PhraseRows.Row.{Reading, Done, Bad, Row}
use Rattle.ir_terminals.specs.PhraseRows.Reads.{Front}

-- The token at i, or what stands behind the tokens, is the first bad one: the tokens before it are viable, with it
-- they are not. `ended` says that nothing stands behind the tokens; else no token begins there, and even whole tokens
-- are refused at their end.
pub record IsFirstBad {T A : Type 0} (r : Row T A) (ended : Bool) (ts : List T) (i : ℕ) : Type 0 where
  pub within : i ≤ length ts
  pub before : (j : ℕ) → j ≤ i → Front r (take j ts)
  pub after : (j : ℕ) → i < j → j ≤ length ts → Front r (take j ts) → ⊥
  pub at_end : ended ≡ true → i ≡ length ts → (a : A) → r.whole ts a → ⊥

-- what a reading of n tokens means for all of them
abbrev pub ended : {T A : Type 0} → Bool → ℕ → Reading T A → Result A ℕ
ended e n (Done a []) = cond e (Ok a) (Err n)
ended e n (Done a (t ∷ rest)) = Err (n - length (t ∷ rest))
ended e n (Bad rest) = Err (n - length rest)

-- what reading gives for all of the tokens
abbrev pub answer : {T A : Type 0} → Row T A → Bool → List T → Result A ℕ
answer r e ts = ended e (length ts) (r.run ts)
