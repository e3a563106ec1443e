-- What an end spells is read back.
use Rattle.std.proofs.Common.{◌≡◌, ℕ, List, ◌++◌, None, refl, sym, ap}
use Rattle.type_table.specs.Tree.{Tree, int}
use Rattle.module_arena.specs.Module.{Ending, ReturnVoid, Return, Jump, Branch, Switch, Unreachable}
use Rattle.record_table.specs.Walk.{going}
use Rattle.record_table.specs.Fields.{Texts, Numbering, block, label}
use Rattle.record_table.specs.Constants.{constant, value}
use Rattle.record_table.specs.Lines.{ending, ending_opcode, operand, case_of, return_of, return_parts, branch_of, branch_parts, switch_parts}
use Rattle.record_table.specs.Listed.{IsLabel, IsBlock}
use Rattle.record_table.specs.FittingConstants.{Fits, ValueFits}
use Rattle.record_table.specs.FittingLines.{CaseFits, EndingFits}
use Rattle.record_table.specs.Lays.{Lays}
use Rattle.record_table.proofs.Layouts.{lays_both, lays_chain, lays_mapped, lays_counted, lays_option, lays_either, lays_as}
use Rattle.record_table.proofs.ConstantsBack.{constant_back, Back}
use Rattle.record_table.proofs.InstructionsBack as lines

module _ (texts : Texts) (k : Numbering) (lays_label : (own : ℕ) → Lays (IsLabel texts own) (label texts own)) where
  abbrev pub IsBack : Ending → Type 0
  IsBack e = (rest : List ℕ) → (ending k (ending_opcode e)).read (going ((ending k (ending_opcode e)).spell e ++ rest) None) ≡ (e, going rest None)

  lays_block : Lays (IsBlock k) (block k)
  lays_block = lines.lays_block texts k lays_label

  lays_value : (t : Tree) → Lays (ValueFits k t) (value k t)
  lays_value t = lines.lays_value texts k lays_label t

  pub lays_constant : (t : Tree) → Lays (λ c. Fits k c 64 t) (constant k t)
  unfolding Back
  lays_constant t = record { back = λ c rest fit. constant_back k c 64 t fit rest }

  lays_case : (t : Tree) → Lays (CaseFits k t) (case_of k t)
  lays_case t = lays_as (λ c fit. ((fit.1, fit.2), ap (λ u. record { ty = u; value = c.value; target = c.target }) (sym fit.0)))
      (lays_mapped (λ (c, b). record { ty = t; value = c; target = b }) (λ c. (c.value, c.target)) (lays_both (lays_constant t) lays_block))

  pub ending_back : (e : Ending) → EndingFits k e → IsBack e
  ending_back ReturnVoid fit rest = (lays_mapped return_of return_parts (lays_option (lines.lays_operand texts k lays_label))).back ReturnVoid rest (tt, refl)
  ending_back (Return v) fit rest = (lays_mapped return_of return_parts (lays_option (lines.lays_operand texts k lays_label))).back (Return v) rest (fit, refl)
  ending_back (Jump b) fit rest =
      (lays_mapped branch_of branch_parts (lays_either lays_block (lays_both (lays_value (int 1)) (lays_both lays_block lays_block)))).back (Jump b) rest (fit, refl)
  ending_back (Branch c a b) fit rest =
      (lays_mapped branch_of branch_parts (lays_either lays_block (lays_both (lays_value (int 1)) (lays_both lays_block lays_block)))).back (Branch c a b) rest
      ((fit.0.1, (fit.1, fit.2)), ap (λ u. Branch (operand u c.value) a b) (sym fit.0.0))
  ending_back (Switch v b cases) fit rest =
      (lays_mapped (λ (t, (v, (b, cases))). Switch (operand t v) b cases) switch_parts
      (lays_chain (lines.lays_ty texts k lays_label) (λ t known. lays_both (lays_value t) (lays_both lays_block (lays_counted (lays_case t)))))).back (Switch v b cases) rest
      ((fit.0.0, (fit.0.1, (fit.1, fit.2))), refl)
  ending_back Unreachable fit rest = refl
