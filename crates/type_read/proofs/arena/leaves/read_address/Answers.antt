use Rattle.std.proofs.Common.{ap, ◌∙◌}
use Rattle.type_table.specs.Types.{Types}
use Rattle.module_arena.specs.declared.constant.Const.TheVariants.{Address, Null}
use Rattle.module_arena.specs.TypeTests.{is_pointer}
use Rattle.type_read.specs.Arena.Kept.{tree_at}
use Rattle.type_read.proofs.OnArena.Lasting.{ok_by}
use Rattle.type_read.proofs.OnArena.LeavesRead.{goes_asked, goes_takes, address_read, no_address_read}
use Rattle.type_read.proofs.OnArena.Steps.{goes_two, kept_keeps, still_numbers}
use Rattle.type_read.proofs.arena.leaves.read_address.Goals as goal

pub returns-in-Some-clause-keeps : goal.returns-in-Some-clause-keeps
returns-in-Some-clause-keeps c =
    let m0 = c.args.m.now in
    let m1 = record m0 { reader = c.ask.new.self } in
    let goes = goes_two m0 m1 c.read_global.new.m (goes_asked m0 c.ask.new.self 6 c.is_pointer-fits.result c.ask.ensures) (goes_takes m1 c.read_global.new.m c.read_global.ensures.takes) in
    ok_by c.keep_unbroken.result _ _ c.keep_unbroken.ensures (λ answer h. kept_keeps m0 c.read_global.new.m c.keep_unbroken.new.self (Address c.in-Some.id) answer goes h)

pub returns-in-Some-clause-reads : goal.returns-in-Some-clause-reads
returns-in-Some-clause-reads c = λ k numbers.
    let m0 = c.args.m.now in
    let m1 = record m0 { reader = c.ask.new.self } in
    let fit = c.is_pointer-fits.ensures ∙ ap (λ (t : Types). is_pointer (tree_at t c.args.ty)) c.table.ensures in
    let reads = c.in-Some.ensures.reads k (still_numbers m0 m1 k (goes_asked m0 c.ask.new.self 6 c.is_pointer-fits.result c.ask.ensures) numbers) in
    ok_by c.keep_unbroken.result _ _ c.keep_unbroken.ensures
    (λ answer h. address_read m0 c.read_global.new.m c.keep_unbroken.new.self c.args.ty c.ask.new.self k c.is_pointer-fits.result answer c.in-Some.id fit c.ask.ensures c.read_global.ensures.takes reads h)

pub returns-in-None-clause-keeps : goal.returns-in-None-clause-keeps
returns-in-None-clause-keeps c =
    let m0 = c.args.m.now in
    let m1 = record m0 { reader = c.ask.new.self } in
    let goes = goes_two m0 m1 c.read_global.new.m (goes_asked m0 c.ask.new.self 6 c.is_pointer-fits.result c.ask.ensures) (goes_takes m1 c.read_global.new.m c.read_global.ensures.takes) in
    ok_by c.keep_unbroken-in-None.result _ _ c.keep_unbroken-in-None.ensures (λ answer h. kept_keeps m0 c.read_global.new.m c.keep_unbroken-in-None.new.self Null answer goes h)

pub returns-in-None-clause-reads : goal.returns-in-None-clause-reads
returns-in-None-clause-reads c = λ k numbers.
    let m0 = c.args.m.now in
    let m1 = record m0 { reader = c.ask.new.self } in
    let fit = c.is_pointer-fits.ensures ∙ ap (λ (t : Types). is_pointer (tree_at t c.args.ty)) c.table.ensures in
    let reads = c.in-None.ensures.reads k (still_numbers m0 m1 k (goes_asked m0 c.ask.new.self 6 c.is_pointer-fits.result c.ask.ensures) numbers) in
    ok_by c.keep_unbroken-in-None.result _ _ c.keep_unbroken-in-None.ensures
    (λ answer h. no_address_read m0 c.read_global.new.m c.keep_unbroken-in-None.new.self c.args.ty c.ask.new.self k c.is_pointer-fits.result answer fit c.ask.ensures reads h)
