use Rattle.std.proofs.Common.{◌+◌, arith}
use Rattle.module_linker.proofs.OnFilling.Stands.{part_gone, standing_on}
use Rattle.module_linker.proofs.filling.standing.StandingParts.let_go_behind.Goals as goal

pub returns-then-not-is_last : goal.returns-then-not-is_last
returns-then-not-is_last c = λ parts origins h. standing_on c.args.number parts origins c.args.self.now h (c.args.number + 1) (omega arith)

pub returns : goal.returns
returns c = λ parts origins h.
    part_gone c.args.number parts origins c.args.self.now h c.drop_part.new.self c.args.part (c.is_last.ensures c.if-not-is_last.false) c.drop_part.ensures.parts c.drop_part.ensures.last
