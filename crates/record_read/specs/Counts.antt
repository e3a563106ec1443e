-- Says how the code of `gather_body`, `look_ahead` and `declare_entries` reads: what is counted ahead of what is read.
use Rattle.std.specs.Prelude.{ℕ, Bool, true, false}

-- 1 where it holds
abbrev pub one_where : Bool → ℕ
one_where true = 1
one_where false = 0
