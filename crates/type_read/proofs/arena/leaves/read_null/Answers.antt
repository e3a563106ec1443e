use Rattle.std.proofs.Common.{ap, ◌∙◌}
use Rattle.type_table.specs.Types.{Types}
use Rattle.module_arena.specs.declared.constant.Const.TheVariants.{Null}
use Rattle.module_arena.specs.TypeTests.{is_pointer}
use Rattle.type_read.specs.Arena.Kept.{tree_at}
use Rattle.type_read.proofs.OnArena.Lasting.{ok_by}
use Rattle.type_read.proofs.OnArena.LeavesRead.{goes_asked, null_read}
use Rattle.type_read.proofs.OnArena.Steps.{kept_keeps}
use Rattle.type_read.proofs.arena.leaves.read_null.Goals as goal

pub returns-clause-keeps : goal.returns-clause-keeps
returns-clause-keeps c =
    let m0 = c.args.m.now in
    ok_by c.keep_unbroken.result _ _ c.keep_unbroken.ensures
    (λ answer h. kept_keeps m0 (record m0 { reader = c.ask.new.self }) c.keep_unbroken.new.self Null answer (goes_asked m0 c.ask.new.self 6 c.is_pointer-fits.result c.ask.ensures) h)

pub returns-clause-reads : goal.returns-clause-reads
returns-clause-reads c = λ k.
    let m0 = c.args.m.now in
    let fit = c.is_pointer-fits.ensures ∙ ap (λ (t : Types). is_pointer (tree_at t c.args.ty)) c.table.ensures in
    ok_by c.keep_unbroken.result _ _ c.keep_unbroken.ensures
    (λ answer h. null_read m0 c.keep_unbroken.new.self c.args.ty c.ask.new.self k c.is_pointer-fits.result answer fit c.ask.ensures h)
