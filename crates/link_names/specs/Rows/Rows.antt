-- Says how the code of `link_names::rows` reads: the rows in the making, by the structs that were looked at.
use Rattle.std.specs.Prelude.{◌≡◌, ℕ, ◌+◌, List, [], ◌∷◌, ◌++◌, map, length, slice_get, true, Some, None}
use Rattle.linkage_rules.specs.Entries.{structs_at, symbol_name}
use Rattle.linkage_rules.specs.Lists.{firsts}
use Rattle.linkage_rules.specs.declared.symbol.Symbol.{Symbol}
use Rattle.linkage_rules.specs.declared.symbol.Symbol.TheVariants.{Local}
use Rattle.module_arena.specs.Module.{Bytes, Module}
use Rattle.link_rules.specs.Rename.{with_given_names, new_name, given_after}
use Rattle.link_rules.specs.Structs.{shape_of, same_struct}
use Rattle.type_table.specs.Shape.{Label, Shape, int_leaf, ptr_leaf, void_leaf, opaque_leaf, array_of, struct_of}
use Rattle.type_table.specs.Tree.{TreeBody}
use Rattle.link_names.specs.Shapes.Shapes.{shapes_of}
use Rattle.link_names.specs.Naming.{HasOneMore, SameNames}
use Rattle.link_names.specs.Rows.Numbers.{all_struct_names, so_far}
use Rattle.link_names.specs.declared.rows.rows.GrowingRows.{GrowingRows}

-- the name on top of a shape
abbrev pub top_label : Shape → Label
top_label (int_leaf w) = None
top_label ptr_leaf = None
top_label void_leaf = None
top_label (opaque_leaf l) = l
top_label (array_of n s) = None
top_label (struct_of l packed ss) = l

-- The struct has the shape with that number, with its name on top.
pub record IsShapeOf (parts : List Module) (all : List Shape) (number : ℕ) (s : Symbol) : Type 0 where
  pub shape : Shape
  pub at : slice_get all number ≡ Some shape
  pub is : shape_of parts s ≡ Some shape
  pub label : top_label shape ≡ Some (symbol_name s)

-- the structs have the shapes with these numbers, one by one
abbrev pub AreShapesOf : List Module → List Shape → List ℕ → List Symbol → Type 0
AreShapesOf parts all [] [] = Unit {0}
AreShapesOf parts all [] (s ∷ ss) = ⊥
AreShapesOf parts all (number ∷ numbers) [] = ⊥
AreShapesOf parts all (number ∷ numbers) (s ∷ ss) = IsShapeOf parts all number s × AreShapesOf parts all numbers ss

-- of structs that are one, the first
abbrev pub first_of_each : List Module → List Symbol → List Symbol
first_of_each parts done = firsts (same_struct parts) done

-- the names of these structs, one behind the other
abbrev pub names_given : List Module → List Symbol → List Bytes
names_given parts ss = map (λ row. row.1) (with_given_names (λ name. name) (all_struct_names parts) [] ss)

-- There is a row for each of the structs that were looked at, and it has its name.
pub record AreRows (parts : List Module) (done : List Symbol) (rows : GrowingRows) : Type 0 where
  pub found : AreShapesOf parts (shapes_of rows.shapes) rows.found.keys (first_of_each parts done)
  pub names : rows.names ≡ names_given parts (first_of_each parts done)
  pub given : SameNames rows.naming.given (given_after (λ name. name) (all_struct_names parts) [] (first_of_each parts done))
  pub avoided : SameNames rows.naming.avoided (all_struct_names parts)

-- The struct is one with that of the row.
pub record HasRow (parts : List Module) (done : List Symbol) (s : Symbol) (row : ℕ) : Type 0 where
  pub first : Symbol
  pub at : slice_get (first_of_each parts done) row ≡ Some first
  pub same : same_struct parts s first ≡ true

-- The structs of a part have these rows.
pub record HaveRows (parts : List Module) (done : List Symbol) (part : ℕ) (numbers : List ℕ) : Type 0 where
  pub count : length numbers ≡ length (structs_at parts part)
  pub each : (id row : ℕ) (s : Bytes × TreeBody)
      → slice_get (structs_at parts part) id ≡ Some s
      → slice_get numbers id ≡ Some row
      → HasRow parts done (Local part s.0) row

-- The next part was looked at.
pub record AddsPart (parts : List Module) (part : ℕ) (now : GrowingRows) (numbers : List ℕ) : Type 0 where
  pub rows : AreRows parts (so_far parts (part + 1)) now
  pub places : HaveRows parts (so_far parts (part + 1)) part numbers

-- One row more is named: by its own name, or where that is given by a new one.
pub record HasName (before : GrowingRows) (name : Bytes) (now : GrowingRows) : Type 0 where
  pub new : Bytes
  pub is : new ≡ new_name (λ n. n) before.naming.avoided before.naming.given name
  pub given : HasOneMore before.naming.given new now.naming.given
  pub avoided : now.naming.avoided ≡ before.naming.avoided
  pub names : now.names ≡ before.names ++ new ∷ []

-- The rows are named as before.
pub record IsNamedAs (before now : GrowingRows) : Type 0 where
  pub naming : now.naming ≡ before.naming
  pub names : now.names ≡ before.names
