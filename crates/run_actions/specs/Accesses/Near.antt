-- For `reach` and `sum`: distances that are not far.
use Rattle.std.specs.Prelude.{ℕ, ◌≤◌, ℤ, nat_abs}

-- a distance is of no more than so many bytes, forwards or backwards
abbrev pub IsNear : ℕ → ℤ → Type 0
IsNear most distance = nat_abs distance ≤ most
