-- The first type of some is of the table.
use Rattle.std.proofs.Common.{ℕ, ◌<◌, List, ◌∷◌, All, length}
use Rattle.std.proofs.lemmas.List.Elements.{All-head}
use Rattle.type_table.specs.Types.{Types}
use Rattle.module_arena.specs.declared.instruction.Operand.{Operand}

module _ (t : Types) where
  pub first_operand : (o : Operand) (os : List Operand) → All (λ (x : Operand). x.ty < length t.types) (o ∷ os) → o.ty < length t.types
  first_operand o os h = All-head (λ (x : Operand). x.ty < length t.types) o os h

  pub first_type : (ty : ℕ) (tys : List ℕ) → All (λ (x : ℕ). x < length t.types) (ty ∷ tys) → ty < length t.types
  first_type ty tys h = All-head (λ (x : ℕ). x < length t.types) ty tys h
