-- For all calls of `StdSource` and `StdSink`: a reader or a writer of std behind a count of faults.
use Rattle.std.specs.Prelude.{ℕ}

-- the reader or the writer, and how many calls have failed, in a counter that stands at its type's end
pub record Adapted (A : Type 0) : Type 0 where
  pub inner : A
  pub faults : ℕ
