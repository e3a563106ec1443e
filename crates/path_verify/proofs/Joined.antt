-- The parts of what an instruction and the end of a block are asked, by the name of the block that the arena has.
use Rattle.std.proofs.Common.{◌≡◌, ℕ, List, [], ◌∷◌, ◌++◌, length, Result, Err, sym, subst}
use Rattle.module_arena.specs.Flow.{flow_of}
use Rattle.module_arena.specs.Module.{Block, Ending, Function, Instruction, LocalName, Module}
use Rattle.module_arena.specs.Operations.{ending_operands}
use Rattle.module_arena.specs.Valid.{AllHold, Demand, InstructionOf, definedness_demands, ending_demands, instruction_demands, operand_uses, operation_phi_suits, operation_uses, ask}
use Rattle.instruction_verify.specs.Parts.{ending_first_demands, ending_last_demands, first_demands, last_demands}
use Rattle.entry_verify.specs.declared.types.fault.VerifyFault.{VerifyFault}
use Rattle.entry_verify.specs.Types.Judged.{Judged}
use Rattle.entry_verify.proofs.OnTypes.Judging.{fails_first}
use Rattle.instruction_verify.specs.Uses.Uses.{place_at}
use Rattle.path_verify.proofs.Ordered.{second_fails, third_fails, third_leads, fourth_leads}

-- ---- an instruction

module _ (m : Module) (f : Function) (block : Block) (before number : ℕ) (i : Instruction) (name : LocalName) (named : block.name ≡ name) where
  abbrev first : List Demand
  first = first_demands m f.name number i

  abbrev phi : List Demand
  phi = ask (InstructionOf number f.name) 9 (operation_phi_suits f block before i.operation) ∷ []

  abbrev paths : LocalName → List Demand
  paths n = definedness_demands f (InstructionOf number f.name) (operation_uses (flow_of f) (place_at n before) i.operation)

  abbrev last : List Demand
  last = last_demands m f number i

  abbrev asked : List Demand
  asked = instruction_demands m f block before number i

  parts : first ++ (phi ++ (paths name ++ last)) ≡ asked
  parts j = first ++ (phi ++ (paths (sym named j) ++ last))

  pub first_fails : (e : VerifyFault) → Judged {T = Unit {0}} first (Err e) → Judged {T = Unit {0}} asked (Err e)
  first_fails e h = fails_first first (phi ++ (paths block.name ++ last)) e h

  pub phi_fails : (e : VerifyFault) → AllHold first → Judged {T = Unit {0}} phi (Err e) → Judged {T = Unit {0}} asked (Err e)
  phi_fails e d h = second_fails first phi (paths block.name ++ last) e d h

  pub paths_fail : (e : VerifyFault) → AllHold first → AllHold phi → Judged {T = Unit {0}} (paths name) (Err e) → Judged {T = Unit {0}} asked (Err e)
  paths_fail e d p h = subst (λ (ds : List Demand). Judged {T = Unit {0}} ds (Err e)) parts (third_fails first phi (paths name) last e d p h)

  pub last_judges : (r : Result (Unit {0}) VerifyFault) → AllHold first → AllHold phi → AllHold (paths name) → Judged last r → Judged asked r
  last_judges r d p q h = subst (λ (ds : List Demand). Judged ds r) parts (fourth_leads first phi (paths name) last r d p q h)

-- ---- the end of a block

module _ (m : Module) (f : Function) (block : Block) (number : ℕ) (name : LocalName) (named : block.name ≡ name) (end : Ending) (ended : block.ending ≡ end) (before : ℕ) (stands : before ≡ length block.instructions) where
  abbrev end_first : Ending → List Demand
  end_first e = ending_first_demands m f.name number e

  abbrev end_paths : LocalName → ℕ → Ending → List Demand
  end_paths n k e = definedness_demands f (InstructionOf number f.name) (operand_uses (place_at n k) (ending_operands e))

  abbrev end_last : Ending → List Demand
  end_last e = ending_last_demands m f number e

  abbrev end_asked : List Demand
  end_asked = ending_demands m f block number

  end_parts : end_first end ++ (end_paths name before end ++ end_last end) ≡ end_asked
  end_parts j = end_first (sym ended j) ++ (end_paths (sym named j) (stands j) (sym ended j) ++ end_last (sym ended j))

  pub end_first_fails : (e : VerifyFault) → Judged {T = Unit {0}} (end_first end) (Err e) → Judged {T = Unit {0}} end_asked (Err e)
  end_first_fails e h = subst (λ (ds : List Demand). Judged {T = Unit {0}} ds (Err e)) end_parts (fails_first (end_first end) (end_paths name before end ++ end_last end) e h)

  pub end_paths_fail : (e : VerifyFault) → AllHold (end_first end) → Judged {T = Unit {0}} (end_paths name before end) (Err e) → Judged {T = Unit {0}} end_asked (Err e)
  end_paths_fail e d h = subst (λ (ds : List Demand). Judged {T = Unit {0}} ds (Err e)) end_parts (second_fails (end_first end) (end_paths name before end) (end_last end) e d h)

  pub end_last_judges : (r : Result (Unit {0}) VerifyFault) → AllHold (end_first end) → AllHold (end_paths name before end) → Judged (end_last end) r → Judged end_asked r
  end_last_judges r d p h = subst (λ (ds : List Demand). Judged ds r) end_parts (third_leads (end_first end) (end_paths name before end) (end_last end) r d p h)
