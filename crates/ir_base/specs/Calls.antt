-- For all calls of `MemoryFiles`, `MemorySink` and `MemorySource`: calls by number, counted from 1, some of which are
-- told to fail.
use Rattle.std.specs.Prelude.{ℕ, zero, suc, ◌+◌, ◌-◌, ◌^◌, min, Bool, ◌&&◌, ◌==◌, nat_lt, List, if◌then◌else◌}
use Rattle.std.specs.List.{list_any}

-- one of the numbers is this one
abbrev pub is_named : List ℕ → ℕ → Bool
is_named fails number = list_any (λ fail. fail == number) fails

-- one more, in a counter that stands still at its type's end
abbrev pub next_count : ℕ → ℕ
next_count count = min (count + 1) (2 ^ 64 - 1)

-- behind so many calls, the next is told to fail; no number is told for a call past the counter's end
abbrev pub next_fails : List ℕ → ℕ → Bool
next_fails fails calls = nat_lt calls (2 ^ 64 - 1) && is_named fails (calls + 1)

-- how many of so many first calls are told to fail
unfoldable pub named_calls : List ℕ → ℕ → ℕ
named_calls fails zero = 0
named_calls fails (suc calls) = named_calls fails calls + (if is_named fails (calls + 1) then 1 else 0)
