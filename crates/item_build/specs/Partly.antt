-- For `build_structs`, and `set_head`, `copy_part` and `copy_structs` of the copies: structs of which some have no body yet.
use Rattle.std.specs.Prelude.{◌≡◌, ◌⊎◌, ℕ, ◌<◌, List, map, length, slice_get, slice_index_or, All, Option, Some, None}
use Rattle.ir_syntax.specs.Tree.{BodyTree}
use Rattle.type_table.specs.declared.ir_type.StructBody.{StructBody}
use Rattle.type_table.specs.Limits.{IsWithinLimits}
use Rattle.type_table.specs.Shape.{shape}
use Rattle.type_table.specs.Tree.{TreeBody, opaque_body, named, Structs}
use Rattle.type_table.specs.Types.{structs, bodies, trees, tree_body}
use Rattle.module_arena.specs.Lists.{Lists}
use Rattle.module_arena.specs.Module.{Module}
use Rattle.name_rules.specs.Written.{body_in}
use Rattle.item_build.specs.Types.Fitting.{AreWithin}
use Rattle.item_build.specs.Buildable.Entries.{CanStruct}

-- the names of structs, in order
abbrev pub names_of : Structs → List (List ℕ)
names_of all = map (λ (s : List ℕ × TreeBody). s.0) all

-- what the struct with that number is
abbrev pub body_at : Structs → ℕ → TreeBody
body_at all number = slice_index_or (map (λ (s : List ℕ × TreeBody). s.1) all) number opaque_body

-- The structs of the arena are these, of which some may have no body yet, and its types are within the limits of the whole.
pub record IsPartly (whole : Structs) (a : Lists) : Type 0 where
  pub names : names_of (structs a.table) ≡ names_of whole
  pub bodies : (number : ℕ) (body : Option StructBody)
      → slice_get (bodies a.table) number ≡ Some body
      → (body ≡ None) ⊎ (tree_body (trees a.table) body ≡ body_at whole number)
  pub within : AreWithin whole a

-- each struct is within the limits
abbrev pub AllFit : Structs → Type 0
AllFit whole = All (λ name. IsWithinLimits (shape whole (named name))) (names_of whole)

-- the struct with that number has its body
abbrev pub IsDone : Structs → Lists → ℕ → Type 0
IsDone whole a number = body_at (structs a.table) number ≡ body_at whole number

-- The struct with that number is written so, and can be defined.
pub record CanDefine (whole : Structs) (a : Lists) (number : ℕ) (written : BodyTree) : Type 0 where
  pub partly : IsPartly whole a
  pub fit : AllFit whole
  pub known : number < length whole
  pub here : body_in written ≡ body_at whole number
  pub fields : CanStruct whole written

-- a module with these structs
abbrev pub with_structs : Module → Structs → Module
with_structs m all = record m { structs = all }
