use Rattle.std.proofs.Common.{sym, ◌∙◌}
use Rattle.module_arena.proofs.HostTypesAgree.{host_type_is, plain_other}
use Rattle.module_arena.proofs.host.is_host_type.Goals as goal

pub returns : goal.returns
returns c =
    c.is_of.ensures
    ∙ sym (host_type_is c.args.types.now c.args.ty c.get.result.now c.args.wanted c.type_count-count.ensures.good (plain_other c.args.wanted c.in_default.not-Pair) c.get.ensures)
