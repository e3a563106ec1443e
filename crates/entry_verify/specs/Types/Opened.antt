-- For `TypeJudge::opened`: what a type is by the ids of its parts, where a struct's name stands for its body.
use Rattle.std.specs.Prelude.{◌≡◌, ℕ, ◌<◌, Bool, true, false, List, All, length, Option, Some, None}
use Rattle.type_table.specs.declared.ir_type.StructBody.{StructBody}
use Rattle.type_table.specs.declared.ir_type.StructBody.TheVariants.{Opaque, Plain, Packed}
use Rattle.type_table.specs.Tree.{Tree, array, struct}
use Rattle.type_table.specs.Types.{Types, trees, trees_at, tree}
use Rattle.entry_verify.specs.declared.types.types.OpenedType as the_opened
use Rattle.entry_verify.specs.declared.types.types.OpenedType.TheVariants as the

-- an array or a struct by the ids of its parts, or neither
pub data OpenedIds : Type 0 where
  array_of : (length part : ℕ) → OpenedIds
  struct_of : (packed : Bool) → (parts : List ℕ) → OpenedIds
  neither : OpenedIds

-- the ids that the code has
abbrev pub opened_ids : the_opened.OpenedType → OpenedIds
opened_ids (the.Array length part) = array_of length part
opened_ids (the.Struct packed parts) = struct_of packed parts.now
opened_ids the.Other = neither

-- what a struct with that body is
abbrev pub opened_body : Option StructBody → OpenedIds
opened_body None = neither
opened_body (Some Opaque) = neither
opened_body (Some (Plain parts)) = struct_of false parts
opened_body (Some (Packed parts)) = struct_of true parts

-- neither an array nor a struct
abbrev pub has_no_parts : Tree → Bool
has_no_parts (array n t) = false
has_no_parts (struct packed ts) = false
has_no_parts _ = true

-- the tree is the one with these parts, which are types of the table
abbrev pub IsOpened : Types → OpenedIds → Tree → Type 0
IsOpened t (array_of n part) u = (u ≡ array n (tree t part)) × (part < length t.types)
IsOpened t (struct_of packed parts) u = (u ≡ struct packed (trees_at (trees t) parts)) × All (λ part. part < length t.types) parts
IsOpened t neither u = has_no_parts u ≡ true
