-- The end of a block is what its parts are.
use Rattle.std.proofs.Common.{ℕ, ◌<◌, List, map, length, refl}
use Rattle.std.proofs.lemmas.List.Elements.{All-cons, All-map, All-nil}
use Rattle.type_table.specs.Types.{trees}
use Rattle.module_arena.specs.declared.instruction.Case as the_case
use Rattle.module_arena.specs.declared.instruction.Ending.TheVariants as ending
use Rattle.module_arena.specs.declared.instruction.Operand as the_operand
use Rattle.module_arena.specs.declared.instruction.Value.TheVariants as value
use Rattle.module_arena.specs.Known.{HasOperand}
use Rattle.module_arena.specs.Lists.{Lists}
use Rattle.module_arena.specs.Module as m
use Rattle.module_arena.specs.View.{constants_of, case_view}
use Rattle.module_arena.proofs.Replaced.{one_all}
use Rattle.ir_resolve.specs.InstructionBuild.Meant.{IsOperand, IsEnding}
use Rattle.ir_resolve.specs.InstructionBuild.Parts.{Each, IsTarget, IsCase}
use Rattle.ir_resolve.proofs.OnInstructionBuild.Lists.{each_known, each_seen}
use Rattle.ir_resolve.proofs.OnInstructionBuild.Standing.{operand_known, operand_seen}
use Rattle.ir_resolve.proofs.OnInstructionBuild.Assembled.{two}

module _ (values blocks : List m.LocalName) (a : Lists) where
  abbrev O : the_operand.Operand → Type 0
  O = HasOperand (length a.table.types) (length a.constants) (length values)

  abbrev B : ℕ → Type 0
  B = λ id. id < length blocks

  pub ends_void : IsEnding values blocks a ending.ReturnVoid m.ReturnVoid
  ends_void = record { operands_known = All-nil O; targets_known = All-nil B; ending = refl }

  pub ends_unreachable : IsEnding values blocks a ending.Unreachable m.Unreachable
  ends_unreachable = record { operands_known = All-nil O; targets_known = All-nil B; ending = refl }

  pub ends_return : (operand : the_operand.Operand) (e : m.Operand) → IsOperand values blocks a operand e → IsEnding values blocks a (ending.Return operand) (m.Return e)
  ends_return operand e h =
      let view = operand_seen values blocks a operand e h in
      record { operands_known = one_all O operand (operand_known values blocks a operand e h); targets_known = All-nil B; ending = λ j. m.Return (view j) }

  pub ends_jump : (target : ℕ) (name : m.LocalName) → IsTarget blocks target name → IsEnding values blocks a (ending.Jump target) (m.Jump name)
  ends_jump target name h = record { operands_known = All-nil O; targets_known = one_all B target h.known; ending = λ j. m.Jump (h.name j) }

  pub ends_branch : (condition : the_operand.Operand) (e : m.Operand) (then_to : ℕ) (x : m.LocalName) (else_to : ℕ) (y : m.LocalName) → IsOperand values blocks a condition e → IsTarget blocks then_to x → IsTarget blocks else_to y
      → IsEnding values blocks a (ending.Branch condition then_to else_to) (m.Branch e x y)
  ends_branch condition e then_to x else_to y h k l =
      let view = operand_seen values blocks a condition e h in
      record {
        operands_known = one_all O condition (operand_known values blocks a condition e h);
        targets_known = two B then_to else_to k.known l.known;
        ending = λ j. m.Branch (view j) (k.name j) (l.name j);
      }

  pub ends_switch : (operand : the_operand.Operand) (e : m.Operand) (otherwise : ℕ) (x : m.LocalName) (cases : List the_case.Case) (es : List m.Case) → IsOperand values blocks a operand e → IsTarget blocks otherwise x → Each (IsCase blocks a) cases es
      → IsEnding values blocks a (ending.Switch operand otherwise cases) (m.Switch e x es)
  ends_switch operand e otherwise x cases es h k l =
      let I = IsCase blocks a in
      let as_operand : the_case.Case → the_operand.Operand = λ c. record { ty = c.ty; value = value.Known c.value } in
      let target : the_case.Case → ℕ = λ c. c.target in
      let view = operand_seen values blocks a operand e h in
      let seen = each_seen I (case_view (trees a.table) (constants_of a) values blocks) (λ c d is. λ j. record { ty = is.ty.tree j; value = is.value.constant j; target = is.target.name j }) cases es l in
      record {
        operands_known = All-cons O operand (map as_operand cases) (operand_known values blocks a operand e h) (All-map O as_operand cases (each_known I (λ c. O (as_operand c)) (λ c d is. (is.ty.known, is.value.known)) cases es l));
        targets_known = All-cons B otherwise (map target cases) k.known (All-map B target cases (each_known I (λ c. B c.target) (λ c d is. is.target.known) cases es l));
        ending = λ j. m.Switch (view j) (k.name j) (seen j);
      }
