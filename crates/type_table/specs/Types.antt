-- For all calls of `TypeTable`: what a contract sees of a table: its types and its structs, under their ids.
use Rattle.std.specs.Prelude.{ℕ, ◌+◌, ◌^◌, ◌<◌, ◌≤◌, ◌≢◌, List, [], ◌∷◌, ◌++◌, length, map, set, All, AllPairs, ⊤, true, false, slice_index_or, Option, Some, None}
use Rattle.std.specs.List.{fold}
use Rattle.type_table.specs.declared.ir_type.IrType.{IrType}
use Rattle.type_table.specs.declared.ir_type.IrType.TheVariants.{Int, Ptr, Void, Array, Struct, Named}
use Rattle.type_table.specs.declared.ir_type.StructBody.{StructBody}
use Rattle.type_table.specs.declared.ir_type.StructBody.TheVariants.{Opaque, Plain, Packed}
use Rattle.type_table.specs.Tree.{Tree, int, ptr, void, array, struct, named, Trees, no_trees, more_trees, TreeBody, opaque_body, fields, Structs}
use Rattle.type_table.specs.Shape.{Shape}
use Rattle.type_table.specs.Shape as shapes

-- the types, and the structs with their names and, once they are defined, their bodies
pub record Types : Type 0 where
  pub types : List IrType
  pub structs : List (List ℕ × Option StructBody)

-- the empty table
abbrev pub no_types : Types
no_types = record { types = []; structs = [] }

-- the names of the structs
abbrev pub names : Types → List (List ℕ)
names t = map (λ s. s.0) t.structs

-- the bodies of the structs
abbrev pub bodies : Types → List (Option StructBody)
bodies t = map (λ s. s.1) t.structs

-- a table with one type more
abbrev pub with_type : Types → IrType → Types
with_type t ty = record t { types = t.types ++ ty ∷ [] }

-- one struct more, not defined yet
abbrev pub with_struct : Types → List ℕ → Types
with_struct t name = record t { structs = t.structs ++ (name, None) ∷ [] }

-- a table in which a struct gets its body
abbrev pub with_body : Types → ℕ → StructBody → Types
with_body t id body = record t { structs = set t.structs id (slice_index_or (names t) id [], Some body) }

-- the trees of these ids, where `done` are those of the types so far
abbrev pub trees_at : List Tree → List ℕ → Trees
trees_at done [] = no_trees
trees_at done (id ∷ ids) = more_trees (slice_index_or done id void) (trees_at done ids)

-- the tree of a type, from the names of the structs and the trees of the types before it
abbrev pub tree_of : List (List ℕ) → List Tree → IrType → Tree
tree_of ns done (Int w) = int w
tree_of ns done Ptr = ptr
tree_of ns done Void = void
tree_of ns done (Array n part) = array n (slice_index_or done part void)
tree_of ns done (Struct packed parts) = struct packed (trees_at done parts)
tree_of ns done (Named id) = named (slice_index_or ns id [])

-- the trees of types with that of one type more
abbrev pub grow : List (List ℕ) → List Tree → IrType → List Tree
grow ns done ty = done ++ tree_of ns done ty ∷ []

-- the trees of the types. Each type has earlier types as its parts, so one pass gives them all
abbrev pub trees : Types → List Tree
trees t = fold (grow (names t)) [] t.types

-- the body of a struct as a tree
abbrev pub tree_body : List Tree → Option StructBody → TreeBody
tree_body done None = opaque_body
tree_body done (Some Opaque) = opaque_body
tree_body done (Some (Plain parts)) = fields false (trees_at done parts)
tree_body done (Some (Packed parts)) = fields true (trees_at done parts)

-- a struct's name, and its body as trees
abbrev pub tree_struct : List Tree → List ℕ × Option StructBody → List ℕ × TreeBody
tree_struct done s = (s.0, tree_body done s.1)

-- the structs by their names, with bodies as trees
abbrev pub structs : Types → Structs
structs t = map (tree_struct (trees t)) t.structs

-- the tree of a type of the table
abbrev pub tree : Types → ℕ → Tree
tree t ty = slice_index_or (trees t) ty void

-- the shape of a type of the table
abbrev pub shape : Types → ℕ → Option Shape
shape t ty = shapes.shape (structs t) (tree t ty)

-- the parts of a type are types below `count` and structs below `known`
abbrev pub Knows : ℕ → ℕ → IrType → Type 0
Knows count known (Int w) = (1 ≤ w) × (w ≤ 128)
Knows count known Ptr = ⊤
Knows count known Void = ⊤
Knows count known (Array n part) = part < count
Knows count known (Struct packed parts) = All (λ part. part < count) parts
Knows count known (Named id) = id < known

-- an integer has 1 to 128 bits, and ids are those of the table
abbrev pub IsKnown : Types → IrType → Type 0
IsKnown t ty = Knows (length t.types) (length t.structs) ty

-- each type's parts are earlier types
abbrev pub AllKnown : ℕ → ℕ → List IrType → Type 0
AllKnown count known [] = ⊤
AllKnown count known (ty ∷ types) = Knows count known ty × AllKnown (count + 1) known types

-- the ids in a body are below the count
abbrev pub KnowsBody : ℕ → Option StructBody → Type 0
KnowsBody count None = ⊤
KnowsBody count (Some Opaque) = ⊤
KnowsBody count (Some (Plain parts)) = All (λ part. part < count) parts
KnowsBody count (Some (Packed parts)) = All (λ part. part < count) parts

-- the fields are types of the table
abbrev pub IsKnownBody : Types → StructBody → Type 0
IsKnownBody t body = KnowsBody (length t.types) (Some body)

-- there are ids for all structs, parts are earlier types, and names are distinct
pub record IsGood (t : Types) : Type 0 where
  pub few : length t.structs < 2 ^ 32
  pub known : AllKnown 0 (length t.structs) t.types
  pub known_bodies : All (KnowsBody (length t.types)) (bodies t)
  pub distinct : AllPairs (λ a b. a ≢ b) (names t)
