-- For the calls of `Measure`: what is measured of a type, and how it is found from what is measured of its parts.
use Rattle.std.specs.Prelude.{◌≡◌, ℕ, zero, suc, ◌+◌, ◌*◌, min, max, Bool, true, false, List, [], ◌∷◌, ◌++◌, map, slice_index_or, Option, Some, None, if◌then◌else◌}
use Rattle.std.specs.List.{fold}
use Rattle.std.specs.Option.{option_map}
use Rattle.std.specs.Int.{next_multiple_of}
use Rattle.type_table.specs.declared.ir_type.IrType.{IrType}
use Rattle.type_table.specs.declared.ir_type.IrType.TheVariants.{Int, Ptr, Void, Array, Struct, Named}
use Rattle.type_table.specs.declared.ir_type.StructBody.{StructBody}
use Rattle.type_table.specs.declared.ir_type.StructBody.TheVariants.{Opaque, Plain, Packed}
use Rattle.type_table.specs.declared.layout.Layout.{Layout}
use Rattle.type_table.specs.declared.measure.Measure.{Measure}
use Rattle.type_table.specs.declared.measure.TheConstants.{PARTS_LIMIT, SIZE_LIMIT}
use Rattle.type_table.specs.Layout.{layout, field_start}
use Rattle.type_table.specs.Shape.{Shape, int_leaf, ptr_leaf, void_leaf, nesting, parts}
use Rattle.type_table.specs.Tree.{Tree, int, ptr, void, array, struct, named, Trees, no_trees, more_trees, TreeBody, opaque_body, fields, index_of}

-- Numbers stop at the first one past their limit, since what is too large by then stays so
abbrev pub capped_nesting : ℕ → ℕ
capped_nesting n = min 255 n

-- a count of parts, kept up to one past its limit
abbrev pub capped_parts : ℕ → ℕ
capped_parts n = min (PARTS_LIMIT + 1) n

-- a size, kept up to one past its limit
abbrev pub capped : ℕ → ℕ
capped n = min (SIZE_LIMIT + 1) n

-- a layout, kept up to one past the limit on sizes
abbrev pub capped_layout : Layout → Layout
capped_layout l = record { size = capped l.size; align = l.align; leaves = capped l.leaves }

-- what the table keeps of a type with that shape
abbrev pub measure : Shape → Measure
measure s = record { nesting = capped_nesting (nesting s); parts = capped_parts (parts s); layout = option_map capped_layout (layout s) }

-- a struct without a body
abbrev pub opaque_measure : Measure
opaque_measure = record { nesting = 1; parts = 1; layout = None }

-- an array of n parts
abbrev pub array_measure : ℕ → Measure → Measure
array_measure n part = record {
  nesting = capped_nesting (part.nesting + 1);
  parts = capped_parts (part.parts + 1);
  layout = option_map (λ l. record { size = capped (n * l.size); align = l.align; leaves = capped (n * l.leaves) }) part.layout;
}

-- the struct without fields
abbrev pub empty_struct : Measure
empty_struct = record { nesting = 1; parts = 1; layout = Some (record { size = 0; align = 1; leaves = 0 }) }

-- a layout that ends with the last field so far, with one field more
abbrev pub with_field_layout : Bool → Option Layout → Option Layout → Option Layout
with_field_layout packed None field = None
with_field_layout packed (Some l) None = None
with_field_layout packed (Some l) (Some field) = Some (record {
  size = capped (field_start packed (capped l.size) (max 1 field.align) + field.size);
  align = if packed then l.align else max l.align field.align;
  leaves = capped (l.leaves + field.leaves);
})

-- a struct with one field more
abbrev pub with_field : Bool → Measure → Measure → Measure
with_field packed sofar field = record {
  nesting = max sofar.nesting (capped_nesting (field.nesting + 1));
  parts = capped_parts (sofar.parts + field.parts);
  layout = with_field_layout packed sofar.layout field.layout;
}

-- a layout whose size is rounded up to its alignment
abbrev pub rounded : Layout → Layout
rounded l = record l { size = capped (next_multiple_of (capped l.size) (max 1 l.align)) }

-- a struct whose fields are all there: its size is rounded up
abbrev pub closed : Measure → Measure
closed m = record m { layout = option_map rounded m.layout }

-- the measure of a struct, from those of its fields
abbrev pub struct_measure : Bool → List Measure → Measure
struct_measure packed ms = closed (fold (with_field packed) empty_struct ms)

-- the measures of these ids
abbrev pub measures_at : List Measure → List ℕ → List Measure
measures_at done ids = map (λ id. slice_index_or done id opaque_measure) ids

-- the measure of a type, from those of the structs and of the types before it
abbrev pub type_measure : List Measure → List Measure → IrType → Measure
type_measure structs done (Int w) = measure (int_leaf w)
type_measure structs done Ptr = measure ptr_leaf
type_measure structs done Void = measure void_leaf
type_measure structs done (Array n part) = array_measure n (slice_index_or done part opaque_measure)
type_measure structs done (Struct packed parts) = struct_measure packed (measures_at done parts)
type_measure structs done (Named id) = slice_index_or structs id opaque_measure

-- the measure of a struct, from those of the types. One without fields keeps the measure that it had
abbrev pub body_measure : List Measure → Measure → Option StructBody → Measure
body_measure types had None = had
body_measure types had (Some Opaque) = had
body_measure types had (Some (Plain parts)) = struct_measure false (measures_at types parts)
body_measure types had (Some (Packed parts)) = struct_measure true (measures_at types parts)

-- the measures of types with that of one type more
abbrev pub push_measure : List Measure → List Measure → IrType → List Measure
push_measure structs done ty = done ++ type_measure structs done ty ∷ []

-- the measures of the types, from those of the structs
abbrev pub type_measures : List Measure → List IrType → List Measure
type_measures structs types = fold (push_measure structs) [] types

-- the measures of structs, from those of the types
abbrev pub struct_measures : List Measure → List Measure → List (Option StructBody) → List Measure
struct_measures types [] bodies = []
struct_measures types (had ∷ hads) [] = []
struct_measures types (had ∷ hads) (body ∷ bodies) = body_measure types had body ∷ struct_measures types hads bodies

-- the measures of the structs, after so many passes over the table
unfoldable pub passes : List IrType → List (Option StructBody) → List Measure → ℕ → List Measure
passes types bodies start zero = start
passes types bodies start (suc count) =
    let structs = passes types bodies start count in struct_measures (type_measures structs types) structs bodies

-- how deep the deepest of these nests
abbrev pub deepest_nesting : List Measure → ℕ
deepest_nesting ms = fold (λ most m. max most m.nesting) 0 ms

-- the measure of a struct's name, where `structs` are the measures of the structs
abbrev pub measure_of : List (List ℕ) → List Measure → List ℕ → Measure
measure_of ns structs name = slice_index_or structs (index_of ns name) opaque_measure

module _ (look : List ℕ → Measure) where
  abbrev mutual
    -- the measure of a tree, where `look` gives those of the names
    pub tree_measure : Tree → Measure
    tree_measure (int w) = measure (int_leaf w)
    tree_measure ptr = measure ptr_leaf
    tree_measure void = measure void_leaf
    tree_measure (array n t) = array_measure n (tree_measure t)
    tree_measure (struct packed ts) = struct_measure packed (tree_measures ts)
    tree_measure (named n) = look n

    -- the same of several trees
    pub tree_measures : Trees → List Measure
    tree_measures no_trees = []
    tree_measures (more_trees t ts) = tree_measure t ∷ tree_measures ts

  -- the measure of the body of a struct
  abbrev pub tree_body_measure : TreeBody → Measure
  tree_body_measure opaque_body = opaque_measure
  tree_body_measure (fields packed ts) = struct_measure packed (tree_measures ts)

-- the measure of each name is that of what it stands for
abbrev pub Measures : (List ℕ → TreeBody) → (List ℕ → Measure) → Type 0
Measures bodies look = (name : List ℕ) → look name ≡ tree_body_measure look (bodies name)
