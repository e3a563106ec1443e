-- Says how the code reads: how far a pattern of `printf` is written.
use Rattle.std.specs.Prelude.{◌≡◌, ℕ, ◌<◌, ◌≤◌, List, drop, length, map, Option, Some, None, Result, Ok}
use Rattle.ir_eval.specs.declared.value.Scalar.{Scalar}
use Rattle.ir_memory.specs.Memory.{Blocks}
use Rattle.ir_memory.specs.declared.leaf.Leaf.{Leaf}
use Rattle.ir_printf.specs.Pattern.{piece_at}
use Rattle.ir_tables.specs.declared.undefined_kind.UndefinedKind.{UndefinedKind}
use Rattle.run_rules.specs.Printing.{Rest, then_bytes, written_piece}
use Rattle.run_actions.specs.declared.hosts.pattern.PatternPlace.{PatternPlace}
use Rattle.run_actions.specs.Hosts.Printing.{AreOf, shape_from}

-- a place of the pattern, where the arguments that are left are of their kinds
pub record IsPlace (count : ℕ) (pattern : List ℕ) (kinds : List (Option Leaf)) (arguments : List Scalar) (place : PatternPlace) : Type 0 where
  pub at_there : place.at ≤ length pattern
  pub kinds_there : place.taken ≤ length kinds
  pub arguments_there : place.taken ≤ length arguments
  pub others : AreOf count (drop place.taken kinds) (drop place.taken arguments)

module _ (m : Blocks) (pattern : List ℕ) (kinds : List (Option Leaf)) (arguments : List Scalar) where
  -- what is written from a place on
  abbrev pub rest_from : Rest → PatternPlace → Result (List ℕ) UndefinedKind
  rest_from rest p = rest p.at (map shape_from (drop p.taken kinds)) (drop p.taken arguments)

  -- the piece at a place, and what is written behind it
  abbrev pub piece_from : Rest → PatternPlace → Result (List ℕ) UndefinedKind
  piece_from rest p = rest_from (written_piece m pattern rest (piece_at pattern p.at)) p

  -- these bytes were written, and what is behind the piece follows them; nothing follows at the pattern's end
  abbrev pub IsPiece : PatternPlace → List ℕ → Option PatternPlace → Type 0
  IsPiece p bytes None = (rest : Rest) → piece_from rest p ≡ Ok bytes
  IsPiece p bytes (Some next) =
      (p.at < next.at) × IsPlace (length m.list) pattern kinds arguments next
      × ((rest : Rest) → piece_from rest p ≡ then_bytes (Ok bytes) (rest_from rest next))
