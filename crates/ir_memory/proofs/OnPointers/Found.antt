-- A piece that was found in a range.
use Rattle.std.proofs.Common.{◌≡◌, ℕ, ◌<◌, ◌≤◌, true, false, ap, Option, Some, None}
use Rattle.std.specs.Prelude.{IfSome, IsSome, is_some}
use Rattle.ir_memory.specs.declared.pointers.piece.PointerPiece.{PointerPiece}

never : false ≡ true → ⊥
never e = cc

pub found-within : (pieces : ℕ → Option PointerPiece) (from to : ℕ) (found : Option (ℕ × PointerPiece)) → IfSome found (λ e. (from ≤ e.0) × (e.0 < to)) → IfSome found (λ e. pieces e.0 ≡ Some e.1) → is_some found ≡ true → (q : ℕ) × (from ≤ q) × (q < to) × IsSome (pieces q)
found-within pieces from to None within here is = absurd (never is)
found-within pieces from to (Some e) within here is = (e.0, within.0, within.1, ap is_some here)
