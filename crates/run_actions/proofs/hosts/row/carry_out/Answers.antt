use Rattle.std.proofs.Common.{[], ◌∷◌, Ok, length, ap, sym, ◌∙◌, subst}
use Rattle.ir_eval.specs.declared.value.Scalar.TheVariants.{Int}
use Rattle.module_arena.specs.declared.host.HostRow.TheVariants.{Putchar}
use Rattle.std.specs.declared.alloc.AllocError.{AllocError}
use Rattle.run_rules.specs.Host.{done}
use Rattle.run_actions.specs.Hosts.Taken.{AreTaken}
use Rattle.run_actions.proofs.OnHosts.Rows.{copies_apart, copies_over, fills, one_number}
use Rattle.run_actions.proofs.OnHosts.Told.{quiet, written_so}
use Rattle.run_actions.proofs.hosts.row.carry_out.Goals as goal

pub returns-in-Putchar-clause-answer : goal.returns-in-Putchar-clause-answer
returns-in-Putchar-clause-answer c =
    let m = c.args.memory.now in
    let vs = c.args.arguments.now in
    let taken = subst (λ r. AreTaken r (length m.list) vs) c.in-Putchar.is c.requires.taken in
    written_so _ _ m c.args.written.now.items c.put_byte.new.written.items c.put_byte.result
    (ap (λ n. done Putchar (Int n ∷ []) m) c.number_at.ensures ∙ one_number m Putchar 32 vs taken c.requires.full ∙ ap (λ r. done r vs m) (sym c.in-Putchar.is))
    (c.put_byte.ensures m)

pub returns-in-Memcpy-clause-answer : goal.returns-in-Memcpy-clause-answer
returns-in-Memcpy-clause-answer c =
    let copy = copies_apart c.args.memory.now c.args.row c.in-Memcpy.is c.args.arguments.now c.requires.full c.requires.taken in
    written_so _ _ c.copy_bytes.new.memory c.args.written.now.items c.args.written.now.items c.copy_bytes.result copy.does
    (quiet _ c.copy_bytes.new.memory c.args.written.now.items c.copy_bytes.result c.copy_bytes.ensures.answer)

pub returns-in-Memmove-clause-answer : goal.returns-in-Memmove-clause-answer
returns-in-Memmove-clause-answer c =
    let copy = copies_over c.args.memory.now c.args.row c.in-Memmove.is c.args.arguments.now c.requires.full c.requires.taken in
    written_so _ _ c.copy_bytes-in-Memmove.new.memory c.args.written.now.items c.args.written.now.items c.copy_bytes-in-Memmove.result copy.does
    (quiet _ c.copy_bytes-in-Memmove.new.memory c.args.written.now.items c.copy_bytes-in-Memmove.result c.copy_bytes-in-Memmove.ensures.answer)

pub returns-in-Memset-clause-answer : goal.returns-in-Memset-clause-answer
returns-in-Memset-clause-answer c =
    let fill = fills c.args.memory.now c.args.row c.in-Memset.is c.args.arguments.now c.requires.full c.requires.taken in
    written_so {E = AllocError} _ _ c.fill_bytes.new.memory c.args.written.now.items c.args.written.now.items (Ok c.fill_bytes.result) fill.does
    (quiet {E = AllocError} _ c.fill_bytes.new.memory c.args.written.now.items (Ok c.fill_bytes.result) c.fill_bytes.ensures.answer)
