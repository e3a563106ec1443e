use Rattle.std.proofs.Common.{ℕ, ◌<◌, All, List, map, length, subst, ap}
use Rattle.std.proofs.lemmas.List.Elements.{All-tail}
use Rattle.ir_lexer.specs.declared.token.TokenKind.TheVariants as kind
use Rattle.module_arena.specs.declared.instruction.Case as the_case
use Rattle.module_arena.specs.declared.instruction.Ending as the_ending
use Rattle.module_arena.specs.Lists.{function_blocks}
use Rattle.module_arena.specs.Mentions.{end_operands_of, targets_of}
use Rattle.module_arena.specs.Module as m
use Rattle.canonical.specs.Instructions.{ending_phrase}
use Rattle.ir_printer.specs.Phrases.Printing.{separator_of}
use Rattle.ir_printer.proofs.OnPhrases.Printing.{prints_same}
use Rattle.ir_printer.specs.Instructions.Named.{operand_of, label_of}
use Rattle.ir_printer.specs.Instructions.Parts.{HasThis}
use Rattle.ir_printer.specs.Instructions.Lines.{case_of}
use Rattle.ir_printer.proofs.OnInstructions.Cases.{as_operand, cases_known}
use Rattle.ir_printer.proofs.instructions.endings.put_ending.Goals as goal

pub put_switch-requires-clause-cases : goal.put_switch-requires-clause-cases
put_switch-requires-clause-cases g c =
    let a = c.args.arena.now in
    let f = c.args.function.now in
    let operands = subst (λ (e : the_ending.Ending). All (HasThis a f) (end_operands_of e)) c.in-Switch.is c.requires.operands in
    let targets = subst (λ (e : the_ending.Ending). All (λ id. id < length (function_blocks f)) (targets_of e)) c.in-Switch.is c.requires.targets in
    let cases = c.in-Switch.cases in
    rw c.as_slice.ensures
    (cases_known a f cases (All-tail (HasThis a f) c.in-Switch.value (map (as_operand a f) cases) operands) (All-tail (λ (id : ℕ). id < length (function_blocks f)) c.in-Switch.otherwise (map (λ (x : the_case.Case). x.target) cases) targets))

pub returns-in-Jump : goal.returns-in-Jump
returns-in-Jump g c = rw c.in-Jump.is (c.put_jump.ensures c.args.arena.now)

pub returns-in-Switch : goal.returns-in-Switch
returns-in-Switch g c =
    let a = c.args.arena.now in
    let f = c.args.function.now in
    rw c.in-Switch.is
    (prints_same (ap (λ (xs : List the_case.Case). ending_phrase (m.Switch (operand_of a f c.in-Switch.value) (label_of a f c.in-Switch.otherwise) (map (case_of a f) xs)) (separator_of c.args.behind)) c.as_slice.ensures) c.put_switch.ensures)

pub returns-in-Unreachable : goal.returns-in-Unreachable
returns-in-Unreachable g c = rw c.in-Unreachable.is (c.put_token.ensures kind.Word)
