-- Says how the code reads: abbreviations by the bits where their definitions start.
use Rattle.std.specs.Prelude.{◌≡◌, ℕ, Bool, List, [], Option, Ok, Err, IfSome, drop, map}
use Rattle.bit_stream.specs.Bits.Cursor.{Cursor, Found}
use Rattle.bit_stream.specs.declared.abbreviation.ValueSpelling.TheVariants.{Known}
use Rattle.bit_stream.specs.declared.abbreviation.Tail.TheVariants.{NoTail}
use Rattle.bit_stream.specs.Abbreviation.{AdmittedAbbreviation}
use Rattle.bit_stream.specs.Definition.{defined_abbreviation}
use Rattle.bit_stream.specs.Scope.{BlockFrame, Scope}

-- a bit of a stream, and what is left from there on
abbrev pub at_bit : List Bool → ℕ → Cursor
at_bit bits bit = record { at = bit; rest = drop bit bits }

-- a place is one of these bits
abbrev pub IsOn : List Bool → Cursor → Type 0
IsOn bits c = c.rest ≡ drop c.at bits

-- the abbreviation of no operands, for a bit where no definition starts
abbrev pub no_abbreviation : AdmittedAbbreviation
no_abbreviation = record { code = Known 0; operands = []; tail = NoTail }

-- the abbreviation that was read, or one of nothing
abbrev pub or_none : Found AdmittedAbbreviation → AdmittedAbbreviation
or_none (Ok x) = x.0
or_none (Err fault) = no_abbreviation

-- the abbreviation whose definition starts at a bit, behind its id
abbrev pub abbreviation_at : List Bool → ℕ → AdmittedAbbreviation
abbreviation_at bits bit = or_none (defined_abbreviation (at_bit bits bit))

-- an open block, with the starts of its own definitions
pub record StartFrame : Type 0 where
  pub id : Option ℕ
  pub width : ℕ
  pub count_bit : ℕ
  pub words : ℕ
  pub given : ℕ
  pub own : List ℕ
  pub target : Option ℕ

-- a block whose abbreviations are read where their definitions start
abbrev pub frame_at : List Bool → StartFrame → BlockFrame
frame_at bits f = record { id = f.id; width = f.width; count_bit = f.count_bit; words = f.words; given = f.given; own = map (abbreviation_at bits) f.own; target = f.target }

-- the abbreviations that a block id was given, read where their definitions start
abbrev pub row_at : List Bool → ℕ × List ℕ → ℕ × List AdmittedAbbreviation
row_at bits row = (row.0, map (abbreviation_at bits) row.1)

-- the open blocks of a stream, and its bits
pub record Opened : Type 0 where
  pub bits : List Bool
  pub scope : Scope

-- open blocks whose abbreviations are read where their definitions start
abbrev pub opened_at : List Bool → StartFrame → List StartFrame → List (ℕ × List ℕ) → Opened
opened_at bits block around given = record {
  bits = bits;
  scope = record { block = frame_at bits block; around = map (frame_at bits) around; given = map (row_at bits) given };
}

-- other blocks are open
abbrev pub with_scope : Opened → Scope → Opened
with_scope o s = record { bits = o.bits; scope = s }

-- what is kept of an abbreviation that was read is that one
abbrev pub IsKept : List Bool → Option ℕ → AdmittedAbbreviation → Type 0
IsKept bits start t = IfSome start (λ bit. t ≡ abbreviation_at bits bit)
