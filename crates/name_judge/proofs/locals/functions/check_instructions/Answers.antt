use Rattle.std.proofs.Common.{arith, refl}
use Rattle.std.proofs.lemmas.Result.{err_from_is_err_and}
use Rattle.ir_phrases.specs.Instructions.View.{instruction_view}
use Rattle.name_rules.specs.FunctionDemands.{instruction_demands, instructions_demands}
use Rattle.name_rules.specs.Locals.{announced_result}
use Rattle.type_judge.specs.Gathered.{known_of}
use Rattle.name_judge.specs.Locals.Names.{locals_of}
use Rattle.name_judge.proofs.OnLocals.Loops.{going_start, going_next, going_fails, going_end}
use Rattle.name_judge.proofs.locals.functions.check_instructions.Goals as goal

pub instructions-init : goal.instructions-init
instructions-init c = going_start instruction_view (instruction_demands (known_of c.args.known.now) (locals_of c.args.locals.now)) announced_result (instructions_demands (known_of c.args.known.now) (locals_of c.args.locals.now)) c.args.instructions.now _

pub instructions-preserved : goal.instructions-preserved
instructions-preserved c = going_next instruction_view (instruction_demands (known_of c.args.known.now) (locals_of c.args.locals.now)) announced_result (instructions_demands (known_of c.args.known.now) (locals_of c.args.locals.now)) c.args.instructions.now (λ b. refl) (λ b y ys. refl) c.instructions.instruction-index c.instruction-item.result (omega arith) c.instruction-item.is _ _ _ c.in_ok-check_instruction.ensures c.instructions.invariant

pub returns-in_err-check_instruction : goal.returns-in_err-check_instruction
returns-in_err-check_instruction c =
    let p = err_from_is_err_and c.from_residual.result c.from_residual.ensures.1 in
    rw (p.1, p.2) (going_fails instruction_view (instruction_demands (known_of c.args.known.now) (locals_of c.args.locals.now)) announced_result (instructions_demands (known_of c.args.known.now) (locals_of c.args.locals.now)) c.args.instructions.now (λ b. refl) (λ b y ys. refl) c.instructions.instruction-index c.instruction-item.result (omega arith) c.instruction-item.is _ _ _ _ _ _ c.in_err-check_instruction.ensures c.instructions.invariant)

pub returns : goal.returns
returns c = going_end instruction_view (instruction_demands (known_of c.args.known.now) (locals_of c.args.locals.now)) announced_result (instructions_demands (known_of c.args.known.now) (locals_of c.args.locals.now)) c.args.instructions.now (λ b. refl) (λ b y ys. refl) c.instructions.instruction-index (omega arith) _ _ c.instructions.invariant
