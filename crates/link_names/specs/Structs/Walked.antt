-- For `new` and `struct_number` of `ShapeWalk`: what is remembered of the types and structs of one part, and what a look at
-- one of them finds.
use Rattle.std.specs.Prelude.{◌≡◌, ℕ, List, length, slice_get, Some, Option}
use Rattle.type_table.specs.Limits.{IsWithin}
use Rattle.type_table.specs.Shape.{Shape}
use Rattle.type_table.specs.Types.{Types, IsGood}
use Rattle.link_names.specs.Structs.Shapes.{AreKept, IsNumber, AreNumbers, struct_shape, type_shape}
use Rattle.link_names.specs.declared.structs.walk.ShapeWalk.{ShapeWalk}

-- where a number is remembered it is that of the shape
abbrev pub AreOf : List Shape → (ℕ → Option Shape) → List (Option ℕ) → Type 0
AreOf all shape found = (id number : ℕ) → slice_get found id ≡ Some (Some number) → IsNumber all number (shape id)

-- What is remembered of the types and structs of this table, and that the table keeps to its own rules.
pub record Remembers (t : Types) (walk : ShapeWalk) (all : List Shape) : Type 0 where
  pub good : IsGood t
  pub within : IsWithin t
  pub type_count : length walk.types.items ≡ length t.types
  pub struct_count : length walk.structs.items ≡ length t.structs
  pub types : AreOf all (type_shape t) walk.types.items
  pub structs : AreOf all (struct_shape t) walk.structs.items

-- All shapes that had numbers have them still, and what is remembered is right.
pub record IsWalked (t : Types) (before : List Shape) (walk : ShapeWalk) (now : List Shape) : Type 0 where
  pub kept : AreKept before now
  pub remembers : Remembers t walk now

-- A shape was looked up, and this is its number.
pub record Finds (t : Types) (before : List Shape) (walk : ShapeWalk) (now : List Shape) (number : ℕ) (shape : Option Shape) : Type 0 where
  pub walked : IsWalked t before walk now
  pub is : IsNumber now number shape

-- Shapes were looked up, and these are their numbers, in order.
pub record FindsAll (t : Types) (before : List Shape) (walk : ShapeWalk) (now : List Shape) (numbers : List ℕ) (shapes : List (Option Shape)) : Type 0 where
  pub walked : IsWalked t before walk now
  pub are : AreNumbers now numbers shapes

-- A shape has this number, and all that had numbers have them still.
pub record Keeps (before now : List Shape) (number : ℕ) (s : Shape) : Type 0 where
  pub kept : AreKept before now
  pub is : slice_get now number ≡ Some s
