use Rattle.std.proofs.Common.{false, List, map, ◌++◌, subst, Ok, Err}
use Rattle.std.specs.Prelude.{flat_map}
use Rattle.std.proofs.lemmas.Result.{err_from_is_err_and}
use Rattle.ir_phrases.specs.declared.instructions.block.Instruction.{Instruction}
use Rattle.ir_phrases.specs.Instructions.View.{instruction_view, ending_view}
use Rattle.name_rules.specs.FunctionDemands.{call_demands, called_with, called_after, instructions_demands, ending_demands}
use Rattle.name_rules.specs.Locals.{announced_result}
use Rattle.type_judge.specs.Gathered.{known_of}
use Rattle.name_judge.specs.Locals.Names.{locals_of}
use Rattle.name_judge.specs.Locals.Calling.{Goes}
use Rattle.name_judge.proofs.OnLocals.Steps.{goes_front, goes_rest, goes_then}
use Rattle.name_judge.proofs.locals.functions.check_block.Goals as goal

pub returns-in_err-call : goal.returns-in_err-call
returns-in_err-call c =
    let known = known_of c.args.known.now in
    let all = locals_of c.args.locals.now in
    let block = c.args.block.now in
    let p = err_from_is_err_and c.from_residual.result c.from_residual.ensures.1 in
    rw (p.1, p.2)
    (goes_front _ _ _ (λ b. call_demands b block.label) (λ b. instructions_demands known all (called_with b (false, block.label)) (map instruction_view block.instructions.items) ++ ending_demands known all (ending_view block.ending)) _ _ _ c.in_err-call.ensures)

pub returns-in_err-check_instructions : goal.returns-in_err-check_instructions
returns-in_err-check_instructions c =
    let known = known_of c.args.known.now in
    let all = locals_of c.args.locals.now in
    let block = c.args.block.now in
    let p = err_from_is_err_and c.from_residual-in_err-check_instructions.result c.from_residual-in_err-check_instructions.ensures.1 in
    let instructions = subst (λ (xs : List Instruction). Goes c.call.new.self c.check_instructions.new.called (λ b. instructions_demands known all b (map instruction_view xs)) (λ b. called_after b (flat_map announced_result (map instruction_view xs))) (Err c.in_err-check_instructions.field-0.0)) c.deref.ensures.value c.in_err-check_instructions.ensures in
    rw (p.1, p.2)
    (goes_rest _ _ _ (λ b. call_demands b block.label) (λ b. instructions_demands known all b (map instruction_view block.instructions.items) ++ ending_demands known all (ending_view block.ending)) (λ b. called_with b (false, block.label)) (λ b. called_after b (flat_map announced_result (map instruction_view block.instructions.items))) _ c.in_ok-call.ensures
    (goes_front _ _ _ (λ b. instructions_demands known all b (map instruction_view block.instructions.items)) (λ b. ending_demands known all (ending_view block.ending)) _ _ _ instructions))

pub returns : goal.returns
returns c =
    let known = known_of c.args.known.now in
    let all = locals_of c.args.locals.now in
    let block = c.args.block.now in
    let instructions = subst (λ (xs : List Instruction). Goes c.call.new.self c.check_instructions.new.called (λ b. instructions_demands known all b (map instruction_view xs)) (λ b. called_after b (flat_map announced_result (map instruction_view xs))) (Ok tt)) c.deref.ensures.value c.in_ok-check_instructions.ensures in
    goes_rest _ _ _ (λ b. call_demands b block.label) (λ b. instructions_demands known all b (map instruction_view block.instructions.items) ++ ending_demands known all (ending_view block.ending)) (λ b. called_with b (false, block.label)) (λ b. called_after b (flat_map announced_result (map instruction_view block.instructions.items))) _ c.in_ok-call.ensures
    (goes_then _ _ (λ b. instructions_demands known all b (map instruction_view block.instructions.items)) (ending_demands known all (ending_view block.ending)) (λ b. called_after b (flat_map announced_result (map instruction_view block.instructions.items))) _ instructions c.check_ending.ensures)
