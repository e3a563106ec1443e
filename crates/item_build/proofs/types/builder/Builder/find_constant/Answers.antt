use Rattle.std.proofs.Common.{Some, sym, ap, ◌∙◌}
use Rattle.module_arena.specs.SameConstLaws.{same_const_decides}
use Rattle.item_build.proofs.types.builder.Builder.find_constant.Goals as goal

pub returns-then-eq : goal.returns-then-eq
returns-then-eq c = c.constant.ensures ∙ ap Some ((same_const_decides c.constant.result.now c.args.constant.now).0 (sym c.eq.ensures ∙ c.if-eq.true))
