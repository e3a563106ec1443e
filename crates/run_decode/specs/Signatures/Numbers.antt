-- For `Signatures::number`: numbers that stay, and the calls of a body under them.
use Rattle.std.specs.Prelude.{◌≡◌, ℕ, ◌<◌, List, ◌∷◌, ◌++◌, length, slice_get, Some}
use Rattle.std.specs.List.{All}
use Rattle.module_arena.specs.Lists.{Lists}
use Rattle.run_decode.specs.declared.flat.action.CallParts.{CallParts}
use Rattle.run_decode.specs.declared.flat.pools.Pools.{Pools}
use Rattle.run_decode.specs.Flat.Flat.{signature_of}
use Rattle.run_decode.specs.Flat.Spans.{spanned, IsLonger, IsSpanIn}
use Rattle.run_decode.specs.Signatures.Met.{Met, known}

-- function types keep their numbers
pub record Numbers (old new : Met) : Type 0 where
  pub lists : new.lists ≡ old.lists
  pub kept : IsLonger old.types new.types

-- the types that a call names: of what the function gives, of its parameters, and of the arguments
abbrev pub types_of : Pools → CallParts → List ℕ
types_of p c = c.returns ∷ spanned p.types c.parameters ++ spanned p.types c.shapes

-- a call has the number of its function type, and its types are types of the arena
pub record IsNumbered (met : Met) (a : Lists) (p : Pools) (c : CallParts) : Type 0 where
  pub parameters : IsSpanIn p.types c.parameters
  pub shapes : IsSpanIn p.types c.shapes
  pub known_types : All (λ ty. ty < length a.table.types) (types_of p c)
  pub number : slice_get (known met) c.signature ≡ Some (signature_of p a c)

-- so each call of a body
abbrev pub AreNumbered : Met → Lists → Pools → Type 0
AreNumbered met a p = All (IsNumbered met a p) p.calls
