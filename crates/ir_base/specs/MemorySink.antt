-- For all calls of `MemorySink`: a sink in memory.
use Rattle.std.specs.Prelude.{◌≡◌, ◌⊎◌, ℕ, ◌+◌, Bool, not, ◌&&◌, List, length, IsTrue, if◌then◌else◌}
use Rattle.ir_base.specs.Calls.{named_calls, next_count, next_fails}

-- the bytes taken, how many there is room for, the numbers of the calls that fail, how many calls were made, and how
-- many of those that were not told to fail came while it was full
pub record SinkState : Type 0 where
  pub taken : List ℕ
  pub capacity : ℕ
  pub fails : List ℕ
  pub calls : ℕ
  pub full_calls : ℕ

-- how many of its calls so far failed
abbrev pub sink_faults : SinkState → ℕ
sink_faults sink = named_calls sink.fails sink.calls + sink.full_calls

-- there is room for no more bytes
abbrev pub IsFull : SinkState → Type 0
IsFull sink = length sink.taken ≡ sink.capacity

-- a call that failed and was not told to came while it was full
abbrev pub full_calls_behind : SinkState → Bool → ℕ
full_calls_behind sink failed =
    (if failed && not (next_fails sink.fails sink.calls) then next_count sink.full_calls else sink.full_calls)

-- a write fails: its call is planned to fail, or the sink is full
abbrev pub WriteFails : SinkState → Type 0
WriteFails sink = IsTrue (next_fails sink.fails sink.calls) ⊎ IsFull sink
