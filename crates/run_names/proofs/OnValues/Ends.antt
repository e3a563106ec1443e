-- Allocas that end one after another.
use Rattle.std.proofs.Common.{◌≡◌, ℕ, ◌+◌, List, length, drop, Some, sym, ap, ◌∙◌, arith}
use Rattle.std.specs.Prelude.{slice_get}
use Rattle.std.proofs.lemmas.List.{drop_all}
use Rattle.ir_eval.specs.declared.value.Pointer.{Pointer}
use Rattle.ir_eval.specs.declared.value.Scalar.TheVariants.{Ptr}
use Rattle.ir_memory.specs.declared.kind.BlockKind.TheVariants.{Stack}
use Rattle.ir_memory.specs.Memory.{Blocks, ended}
use Rattle.linkage_rules.proofs.Steps.{drop_more}
use Rattle.run_rules.specs.Access.{or_as_before, released}

module _ (ps : List Pointer) (m : Blocks) where
  -- those that are left, ended in memory as it is now, leave what all leave
  abbrev pub IsPartReleased : ℕ → Blocks → Type 0
  IsPartReleased k n = released ps m ≡ released (drop k ps) n

  pub one_released : (k : ℕ) (n o : Blocks) (p : Pointer) → IsPartReleased k n → slice_get ps k ≡ Some p → o ≡ or_as_before n (ended (Ptr p) Stack n) → IsPartReleased (k + 1) o
  one_released k n o p h at is = h ∙ ap (λ l. released l n) (drop_more ps k p at) ∙ ap (released (drop (k + 1) ps)) (sym is)

  pub all_released : (k : ℕ) (n : Blocks) → IsPartReleased k n → k ≡ length ps → n ≡ released ps m
  all_released k n h end = sym (h ∙ ap (λ l. released l n) (drop_all k ps (omega (arith, end))))
