use Rattle.std.proofs.Common.{◌≡◌, ℕ, ◌<◌, Some}
use Rattle.std.specs.Prelude.{slice_get}
use Rattle.run_decode.specs.Signatures.Met.{known, written_as}
use Rattle.run_decode.proofs.signatures.signatures.Signatures.find.Given as goal

-- none so far has the shape
abbrev pub invariant-known : goal.invariant-known
invariant-known l = (k : ℕ) → k < l.number → slice_get (known l.self) k ≡ Some (written_as l.self.lists l.returns l.parameters l.variadic) → ⊥
