-- For `equal_look_ups_give_equal_runs`, and for what linking writes: what variables hold at first, piece by piece, each with the part
-- in which its names are looked up.
use Rattle.std.specs.Prelude.{ℕ, List, [], ◌∷◌, flat_map, if◌then◌else◌}
use Rattle.std.specs.Option.{option_map_or}
use Rattle.type_table.specs.Tree.{Tree}
use Rattle.module_arena.specs.Module.{Constant, Integer, Truth, Null, Undef, Poison, ZeroInitializer, Address, ByteString, Aggregate, ElementAddress, Cast, Binary, Constants, no_constants, more_constants, Module}
use Rattle.linkage_rules.specs.Globals.{linkage_of, type_of, initialiser_of}
use Rattle.linkage_rules.specs.Linkages.{is_appending}
use Rattle.linkage_rules.specs.declared.symbol.Symbol.{Symbol}
use Rattle.linkage_rules.specs.Entries.{Entry}
use Rattle.linkage_rules.specs.Winner.{definitions, home}

-- a constant and its type, with the part in which their names are looked up
pub record ContentPiece : Type 0 where
  pub part : ℕ
  pub ty : Tree
  pub value : Constant

-- constants of part i, with their types
abbrev pub pieces_of_constants : ℕ → Constants → List ContentPiece
pieces_of_constants i no_constants = []
pieces_of_constants i (more_constants t c cs) = record { part = i; ty = t; value = c } ∷ pieces_of_constants i cs

-- the elements of a list in brackets. An array of no elements may be written `zeroinitializer`
abbrev pub elements_of : ℕ → Constant → List ContentPiece
elements_of i (Aggregate b cs) = pieces_of_constants i cs
elements_of i (Integer n) = []
elements_of i (Truth t) = []
elements_of i Null = []
elements_of i Undef = []
elements_of i Poison = []
elements_of i ZeroInitializer = []
elements_of i (Address name) = []
elements_of i (ByteString bytes) = []
elements_of i (ElementAddress flags source operands) = []
elements_of i (Cast opcode from value to) = []
elements_of i (Binary opcode flags left_type left right_type right) = []

-- the elements of an entry's array
abbrev pub elements_in : Entry → List ContentPiece
elements_in e = option_map_or (elements_of e.part) (initialiser_of e.global) []

-- an entry's initialiser
abbrev pub whole : Entry → List ContentPiece
whole e = option_map_or (λ c. record { part = e.part; ty = type_of e.global; value = c } ∷ []) (initialiser_of e.global) []

-- what is held by a symbol that is defined there, and by its other definitions
abbrev pub pieces_by : Entry → List Entry → List ContentPiece
pieces_by e es = if is_appending (linkage_of e.global) then flat_map elements_in es else whole e

-- what a variable holds at first, piece behind piece: its initialiser, or the elements of all parts in their order
abbrev pub pieces : List Module → Symbol → List ContentPiece
pieces parts s = option_map_or (λ e. pieces_by e (definitions parts s)) (home parts s) []
