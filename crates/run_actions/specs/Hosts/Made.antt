-- For `call`: what is asked of a call of a host function, and when it does not return.
use Rattle.std.specs.Prelude.{◌≡◌, ℕ, ⊤, true, List, map, Option}
use Rattle.std.specs.List.{AllZip, list_any}
use Rattle.ir_eval.specs.declared.value.Scalar.{Scalar}
use Rattle.ir_memory.specs.declared.leaf.Leaf.{Leaf}
use Rattle.module_arena.specs.declared.host.HostRow.{HostRow}
use Rattle.module_arena.specs.declared.host.HostRow.TheVariants.{Printf}
use Rattle.module_arena.specs.HostRows.{host_types}
use Rattle.run_names.specs.declared.host.answer.HostAnswer.{HostAnswer}
use Rattle.run_names.specs.declared.host.answer.HostAnswer.TheVariants.{Gives, Reads, Exits, Fails, MemoryLimit}
use Rattle.run_rules.specs.Action.{Signature}
use Rattle.run_rules.specs.Calls.{same_signature}
use Rattle.run_rules.specs.Look.{no_names}
use Rattle.run_rules.specs.Resolve.{signature_in}
use Rattle.run_names.specs.Types.Wanted.{leaf_of}
use Rattle.type_table.specs.Shape.{Shape}
use Rattle.typed_runs.specs.Actions.{AreArguments}
use Rattle.typed_runs.specs.Kinds.{IsOf, kinds_of_all}

-- A call by one of the row's types, with arguments of these types: their leaves are of their kinds, where so many blocks were made.
-- Where the row is `printf`, what each argument is, is told
pub record IsHostCall (row : HostRow) (count : ℕ) (kinds : List (Option Leaf)) (arguments : List Scalar) : Type 0 where
  pub used : Signature
  pub shapes : List Shape
  pub typed : list_any (same_signature used) (map (signature_in no_names) (host_types row)) ≡ true
  pub fit : AreArguments used shapes
  pub leaves : AllZip (IsOf count) (kinds_of_all shapes) arguments
  pub told : row ≡ Printf → kinds ≡ map leaf_of shapes

-- the call does not return by itself: a byte of the input is its result, or the program ends
abbrev pub EndsOrReads : HostAnswer → Type 0
EndsOrReads (Gives result) = ⊥
EndsOrReads Reads = ⊤
EndsOrReads (Exits status) = ⊤
EndsOrReads (Fails kind) = ⊤
EndsOrReads MemoryLimit = ⊤
