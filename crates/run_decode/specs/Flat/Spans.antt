-- For `append`, `since` and `in_span` of `Pool`: items of a list that follow one another.
use Rattle.std.specs.Prelude.{◌≡◌, ℕ, ◌+◌, ◌^◌, ◌<◌, ◌≤◌, List, ◌++◌, length, take, drop}
use Rattle.run_decode.specs.declared.flat.leaf.Span.{Span}

-- the items at the places of a span
abbrev pub spanned : {A : Type 0} → List A → Span → List A
spanned items s = take s.count (drop s.first items)

-- all its places are there, and 32 bits have the place behind them
pub record IsSpanIn {A : Type 0} (items : List A) (s : Span) : Type 0 where
  pub within : s.first + s.count ≤ length items
  pub fits : s.first + s.count < 2 ^ 32

-- the span from one place up to another
pub record IsBetween (first end : ℕ) (s : Span) : Type 0 where
  pub begins : s.first ≡ first
  pub ends : s.first + s.count ≡ end
  pub fits : end < 2 ^ 32

-- a list that has grown at its end
abbrev pub IsLonger : {A : Type 0} → List A → List A → Type 0
IsLonger {A} old new = (more : List A) × (new ≡ old ++ more)
