-- For `put` and `flush` of `Output`: what was written of what was put out, and what is still held.
use Rattle.std.specs.Prelude.{◌≡◌, ◌⊎◌, ℕ, ◌≤◌, List, [], ◌++◌, length, Option}
use Rattle.ir_base.specs.Outside.{Added}
use Rattle.run_rules.specs.declared.traffic.output.TheConstants.{OUTPUT_PIECE}

-- bytes were put behind those that were held: some are written in order, none or at least 65,536, and the others are held
pub record Puts (before now : Option (List ℕ)) (old bytes new : List ℕ) : Type 0 where
  pub flushed : List ℕ
  pub added : Added before now flushed
  pub whole : flushed ++ new ≡ old ++ bytes
  pub gathers : (flushed ≡ []) ⊎ (OUTPUT_PIECE ≤ length flushed)

-- a front of what was due is written
pub record WritesFront (before now : Option (List ℕ)) (due : List ℕ) : Type 0 where
  pub flushed : List ℕ
  pub added : Added before now flushed
  pub unwritten : List ℕ
  pub front : flushed ++ unwritten ≡ due
