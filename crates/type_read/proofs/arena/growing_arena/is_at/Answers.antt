use Rattle.std.proofs.Common.{Some, sym, ap, ◌∙◌}
use Rattle.module_arena.specs.SameConstLaws.{same_const_decides}
use Rattle.type_read.proofs.OnArena.Found.{constant_found}
use Rattle.type_read.proofs.arena.growing_arena.is_at.Goals as goal

pub returns-then-number-const_count : goal.returns-then-number-const_count
returns-then-number-const_count c = λ yes.
    constant_found c.args.arena.now c.variable_count-good.ensures.good c.args.id c.args.constant.now
    (c.constant.ensures ∙ ap Some ((same_const_decides c.constant.result.now c.args.constant.now).0 (sym c.eq.ensures ∙ yes)))
