-- For all calls of `MemorySource`: a source in memory.
use Rattle.std.specs.Prelude.{ℕ, Bool, min, List, length, drop, Result, Ok, Err, if◌then◌else◌}
use Rattle.ir_base.specs.Calls.{named_calls, next_count, next_fails}
use Rattle.ir_base.specs.declared.failed.Failed.{Failed}

-- the bytes that are left, the numbers of the calls that fail, and how many calls were made
pub record SourceState : Type 0 where
  pub left : List ℕ
  pub fails : List ℕ
  pub calls : ℕ

-- how many of its calls so far were told to fail
abbrev pub source_faults : SourceState → ℕ
source_faults source = named_calls source.fails source.calls

-- the next read is planned to fail; no other read fails
abbrev pub read_fails : SourceState → Bool
read_fails source = next_fails source.fails source.calls

-- how many bytes a read gives that does not fail: as many as the buffer holds, or all that are left
abbrev pub read_count : SourceState → ℕ → ℕ
read_count source room = min room (length source.left)

-- what a read into a buffer of this length returns
abbrev pub read_answer : SourceState → ℕ → Result ℕ Failed
read_answer source room = if read_fails source then Err (record {}) else Ok (read_count source room)

-- the source after a read into a buffer of this length: a read that fails takes no bytes
abbrev pub after_read : SourceState → ℕ → SourceState
after_read source room =
    record source {
      left = if read_fails source then source.left else drop (read_count source room) source.left;
      calls = next_count source.calls;
    }
