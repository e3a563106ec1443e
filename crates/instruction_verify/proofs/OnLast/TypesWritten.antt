-- Rule 11 first: operands told as the module has them.
use Rattle.std.proofs.Common.{◌≡◌, ℕ, List, ◌++◌, Err, subst}
use Rattle.module_arena.specs.Module.{Function, Module, Operand}
use Rattle.module_arena.specs.Valid.{AllHold, Demand}
use Rattle.entry_verify.specs.declared.types.fault.VerifyFault.{VerifyFault}
use Rattle.entry_verify.specs.Types.Judged.{Judged}
use Rattle.entry_verify.proofs.OnTypes.Judging.{fails_first}
use Rattle.instruction_verify.specs.Last.Last.{written_demands}

module _ (m : Module) (f : Function) (n : ℕ) where
  -- it fails, and so does all that begins with it
  pub written_fails : (os ps : List Operand) (es : List Demand) (e : VerifyFault) → os ≡ ps → Judged {T = Unit {0}} (written_demands m f n os) (Err e) → Judged {T = Unit {0}} (written_demands m f n ps ++ es) (Err e)
  written_fails os ps es e same j = fails_first (written_demands m f n ps) es e (subst (λ (qs : List Operand). Judged {T = Unit {0}} (written_demands m f n qs) (Err e)) same j)

  -- it holds
  pub written_holds : (os ps : List Operand) → os ≡ ps → AllHold (written_demands m f n os) → AllHold (written_demands m f n ps)
  written_holds os ps same h = subst (λ (qs : List Operand). AllHold (written_demands m f n qs)) same h
