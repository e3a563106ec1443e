-- For `part_at`: what a list of constants is made of at a type, by the ids of its parts.
use Rattle.std.specs.Prelude.{◌≡◌, ℕ, zero, suc, ◌<◌, Bool, true, false, List, All, length, Option, Some, None}
use Rattle.type_table.specs.declared.ir_type.StructBody.{StructBody}
use Rattle.type_table.specs.declared.ir_type.StructBody.TheVariants.{Opaque, Plain, Packed}
use Rattle.type_table.specs.Types.{Types, trees, trees_at, tree, structs}
use Rattle.record_table.specs.Constants as constants
use Rattle.type_read.specs.Arena.Kept.{tree_at}
use Rattle.type_read.specs.declared.arena.list_parts.ListParts as the_parts
use Rattle.type_read.specs.declared.arena.list_parts.ListParts.TheVariants as the

-- so many of one type, or one of each of these, by their ids, or nothing
pub data PartIds : Type 0 where
  alike_of : (length part : ℕ) → PartIds
  these_of : (packed : Bool) → (parts : List ℕ) → PartIds
  nothing : PartIds

-- the ids that the code has
abbrev pub part_ids : the_parts.ListParts → PartIds
part_ids (the.Alike length part) = alike_of length part
part_ids (the.These packed parts) = these_of packed parts.now
part_ids the.Nothing = nothing

-- what a list is made of at a struct with that body
abbrev pub body_ids : Option StructBody → PartIds
body_ids None = nothing
body_ids (Some Opaque) = nothing
body_ids (Some (Plain parts)) = these_of false parts
body_ids (Some (Packed parts)) = these_of true parts

-- what a list is made of at a type of the table
abbrev pub parts_at : Types → Option ℕ → constants.Parts
parts_at t ty = constants.parts_of (structs t) (tree_at t ty)

-- the parts from that place on
abbrev pub nth_part : ℕ → constants.Parts → constants.Parts
nth_part zero ps = ps
nth_part (suc n) ps = nth_part n (constants.later_parts ps)

-- a list is made of these parts, which are types of the table
abbrev pub IsMadeOf : Types → PartIds → constants.Parts → Type 0
IsMadeOf t (alike_of n part) ps = (ps ≡ constants.alike n (tree t part)) × (part < length t.types)
IsMadeOf t (these_of packed parts) ps = (ps ≡ constants.these packed (trees_at (trees t) parts)) × All (λ part. part < length t.types) parts
IsMadeOf t nothing ps = ps ≡ constants.no_parts
