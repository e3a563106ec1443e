use Rattle.std.proofs.Common.{Ok, length, ap, sym, ◌∙◌, subst}
use Rattle.std.specs.declared.alloc.AllocError.{AllocError}
use Rattle.run_rules.specs.Host.{host}
use Rattle.typed_runs.specs.States.{IsRow}
use Rattle.run_actions.proofs.OnHosts.ByLeaves.{prints_told}
use Rattle.run_actions.proofs.OnHosts.Told.{plain_host, quiet, written_so}
use Rattle.run_actions.proofs.OnHosts.Typed.{row_operands, row_printed, row_taken}
use Rattle.run_actions.proofs.hosts.row.call.Goals as goal

pub evaluate-requires-clause-width : goal.evaluate-requires-clause-width
evaluate-requires-clause-width c = (subst IsRow c.in-Integer.is c.requires.row).0

pub evaluate-requires-clause-whole : goal.evaluate-requires-clause-whole
evaluate-requires-clause-whole c = (subst IsRow c.in-Integer.is c.requires.row).1

pub evaluate-requires-clause-first : goal.evaluate-requires-clause-first
evaluate-requires-clause-first c =
    (row_operands c.args.row (length c.args.memory.now.list) c.args.kinds.now c.args.arguments.now c.requires.made c.in-Integer.which c.in-Integer.width c.in-Integer.is).0

pub evaluate-requires-clause-second : goal.evaluate-requires-clause-second
evaluate-requires-clause-second c =
    (row_operands c.args.row (length c.args.memory.now.list) c.args.kinds.now c.args.arguments.now c.requires.made c.in-Integer.which c.in-Integer.width c.in-Integer.is).1

pub evaluate-requires-clause-third : goal.evaluate-requires-clause-third
evaluate-requires-clause-third c =
    (row_operands c.args.row (length c.args.memory.now.list) c.args.kinds.now c.args.arguments.now c.requires.made c.in-Integer.which c.in-Integer.width c.in-Integer.is).2

pub print-requires : goal.print-requires
print-requires c = row_printed c.args.row (length c.args.memory.now.list) c.args.kinds.now c.args.arguments.now c.requires.made c.in-Printf.is

pub call_plain-requires-clause-taken : goal.call_plain-requires-clause-taken
call_plain-requires-clause-taken c = row_taken c.args.row (length c.args.memory.now.list) c.args.kinds.now c.args.arguments.now c.requires.made

pub returns-in-Integer-clause-answer : goal.returns-in-Integer-clause-answer
returns-in-Integer-clause-answer c = λ shapes told.
    let m = c.args.memory.now in
    let old = c.args.written.now.items in
    written_so {E = AllocError} _ _ m old old (Ok c.evaluate.result) (ap (λ r. host r shapes c.args.arguments.now m) (sym c.in-Integer.is)) (quiet {E = AllocError} _ m old (Ok c.evaluate.result) (c.evaluate.ensures m))

pub returns-in-Printf-clause-answer : goal.returns-in-Printf-clause-answer
returns-in-Printf-clause-answer c = λ shapes told.
    let m = c.args.memory.now in
    let vs = c.args.arguments.now in
    written_so _ _ m c.args.written.now.items c.print.new.written.items c.print.result
    (prints_told m shapes c.args.kinds.now vs (told c.in-Printf.is) ∙ ap (λ r. host r shapes vs m) (sym c.in-Printf.is)) c.print.ensures

pub returns-in_default-clause-answer : goal.returns-in_default-clause-answer
returns-in_default-clause-answer c = λ shapes told.
    let vs = c.args.arguments.now in
    written_so _ _ c.call_plain.new.memory c.args.written.now.items c.call_plain.new.written.items c.call_plain.result
    (plain_host c.args.row shapes vs c.args.memory.now c.in_default.not-Integer c.in_default.not-Printf) c.call_plain.ensures.answer
