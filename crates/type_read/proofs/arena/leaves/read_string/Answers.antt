use Rattle.std.proofs.Common.{length, ap, ◌∙◌}
use Rattle.type_table.specs.Types.{Types}
use Rattle.module_arena.specs.Constants.{is_bytes_of}
use Rattle.type_read.specs.Arena.Kept.{tree_at}
use Rattle.type_read.proofs.OnArena.Lasting.{ok_by}
use Rattle.type_read.proofs.OnArena.LeavesRead.{text_lasts, string_keeps, string_read, no_string_keeps, no_string_read}
use Rattle.type_read.proofs.arena.leaves.read_string.Goals as goal

pub returns-in-Some-clause-keeps : goal.returns-in-Some-clause-keeps
returns-in-Some-clause-keeps c =
    let m0 = c.args.m.now in
    let r = c.read_byte_string.new.reader in
    let reads = rw c.in-Some.is at c.in_ok-read.ensures in
    ok_by c.keep_unbroken.result _ _ c.keep_unbroken.ensures
    (λ answer h. string_keeps m0 c.keep_unbroken.new.self c.args.ty r c.ask.new.self c.in-Some.text c.holds_bytes-fits.result answer reads (text_lasts m0.reader r _ reads) c.ask.ensures h)

pub returns-in-Some-clause-reads : goal.returns-in-Some-clause-reads
returns-in-Some-clause-reads c = λ k.
    let m0 = c.args.m.now in
    let reads = rw c.in-Some.is at c.in_ok-read.ensures in
    let fit = c.holds_bytes-fits.ensures ∙ ap (λ (t : Types). is_bytes_of (length c.bytes.result.now) (tree_at t c.args.ty)) c.table.ensures in
    ok_by c.keep_unbroken.result _ _ c.keep_unbroken.ensures
    (λ answer h. string_read m0 c.keep_unbroken.new.self c.args.ty c.read_byte_string.new.reader c.ask.new.self k c.in-Some.text (length c.bytes.result.now) c.holds_bytes-fits.result answer reads (ap length c.bytes.ensures) fit c.ask.ensures h)

pub returns-in-None-clause-keeps : goal.returns-in-None-clause-keeps
returns-in-None-clause-keeps c =
    let m0 = c.args.m.now in
    let r = c.read_byte_string.new.reader in
    let reads = rw c.in-None.is at c.in_ok-read.ensures in
    no_string_keeps m0 m0 c.args.ty r r reads (text_lasts m0.reader r _ reads)

pub returns-in-None-clause-reads : goal.returns-in-None-clause-reads
returns-in-None-clause-reads c = λ k.
    let m0 = c.args.m.now in
    let r = c.read_byte_string.new.reader in
    let reads = rw c.in-None.is at c.in_ok-read.ensures in
    no_string_read m0 m0 c.args.ty r r k reads
