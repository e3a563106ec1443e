-- For `new`, `number` and `is_same` of `Signatures`: the function types that a run has met, by the ids of their types.
use Rattle.std.specs.Prelude.{◌≡◌, ℕ, ◌<◌, ◌≢◌, Bool, List, [], map, length, slice_get, Option, Some, None, AllPairs}
use Rattle.std.specs.List.{All}
use Rattle.module_arena.specs.Lists.{Lists}
use Rattle.run_rules.specs.Action.{Signature}
use Rattle.run_names.specs.Shapes.Shapes.{shape_in}
use Rattle.run_decode.specs.Flat.Spans.{spanned, IsSpanIn}
use Rattle.run_decode.specs.declared.signatures.written.WrittenSignature.{WrittenSignature}

-- a function type by the ids of its types
pub record FunctionType : Type 0 where
  pub returns : ℕ
  pub parameters : List ℕ
  pub variadic : Bool

-- the function types that a run of a module has met, in the order of their numbers
pub record Met : Type 0 where
  pub lists : Lists
  pub types : List FunctionType

-- none was met yet
abbrev pub none_met : Lists → Met
none_met a = record { lists = a; types = [] }

-- a function type whose struct names are replaced by their bodies
abbrev pub shaped : Lists → FunctionType → Signature
shaped a t = record { returns = shape_in a.table t.returns; parameters = map (shape_in a.table) t.parameters; variadic = t.variadic }

-- so of all that were met
abbrev pub known : Met → List Signature
known m = map (shaped m.lists) m.types

-- so of types with these ids
abbrev pub written_as : Lists → ℕ → List ℕ → Bool → Signature
written_as a returns parameters variadic = shaped a (record { returns = returns; parameters = parameters; variadic = variadic })

-- the number of a function type, or none where it was not met
abbrev pub IsNumberOf : Met → Signature → Option ℕ → Type 0
IsNumberOf m s (Some number) = slice_get (known m) number ≡ Some s
IsNumberOf m s None = (number : ℕ) → slice_get (known m) number ≢ Some s

-- a function type whose parameters stand among those of all
abbrev pub type_in : List ℕ → WrittenSignature → FunctionType
type_in parameters w = record { returns = w.returns; parameters = spanned parameters w.parameters; variadic = w.variadic }

-- its types are types of the arena
pub record IsWritten (a : Lists) (parameters : List ℕ) (w : WrittenSignature) : Type 0 where
  pub returns : w.returns < length a.table.types
  pub there : IsSpanIn parameters w.parameters
  pub known_types : All (λ ty. ty < length a.table.types) (spanned parameters w.parameters)

-- each is of types of the arena, and no two are the same
pub record AreMet (a : Lists) (parameters : List ℕ) (ws : List WrittenSignature) : Type 0 where
  pub written : All (IsWritten a parameters) ws
  pub distinct : AllPairs (λ v w. shaped a (type_in parameters v) ≢ shaped a (type_in parameters w)) ws
