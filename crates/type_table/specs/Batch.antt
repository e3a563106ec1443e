-- For `define_structs`: a table whose structs are given bodies one after another.
use Rattle.std.specs.Prelude.{ℕ, suc, List, [], ◌∷◌, set, ⊤, Option, Some, None}
use Rattle.type_table.specs.declared.ir_type.StructBody.{StructBody}
use Rattle.type_table.specs.declared.ir_type.StructBody.TheVariants.{Opaque, Plain, Packed}
use Rattle.type_table.specs.Limits.{IsWithin}
use Rattle.type_table.specs.Types.{Types, with_body}

-- a table in which structs get their bodies, the first of them that with this id
abbrev pub with_bodies : Types → ℕ → List StructBody → Types
with_bodies t first [] = t
with_bodies t first (body ∷ given) = with_bodies (with_body t first body) (suc first) given

-- a table is within the limits behind each of the bodies that its structs get one after another
abbrev pub StaysWithin : Types → ℕ → List StructBody → Type 0
StaysWithin t first [] = ⊤
StaysWithin t first (body ∷ given) = IsWithin (with_body t first body) × StaysWithin (with_body t first body) (suc first) given

-- the bodies of the structs, where those from this id on are these
abbrev pub set_from : List (Option StructBody) → ℕ → List StructBody → List (Option StructBody)
set_from all first [] = all
set_from all first (body ∷ given) = set_from (set all first (Some body)) (suc first) given

-- a struct has no fields that are known
abbrev pub IsOpen : Option StructBody → Type 0
IsOpen None = ⊤
IsOpen (Some Opaque) = ⊤
IsOpen (Some (Plain parts)) = ⊥
IsOpen (Some (Packed parts)) = ⊥
